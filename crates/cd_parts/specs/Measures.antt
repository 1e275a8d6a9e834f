-- Trees by what is to be known of them before they are made: how long their text is, and how deep they nest.
use Rattle.std.specs.Prelude.{ℕ, suc, ◌+◌, ◌-◌, ◌^◌, min, nat_le, if◌then◌else◌, List, length, map}
use Rattle.cd_tree.specs.Lengths.{bracketed}
use Rattle.cd_tree.specs.Tree.{depth, largest, text}
use Rattle.cd_tree.specs.declared.limits.TheConstants.{MAX_DEPTH}
use Rattle.cd_tree.specs.declared.tree.Member.{Member, roll-Member}
use Rattle.cd_tree.specs.declared.tree.Tree as tree
use Rattle.cd_tree.specs.declared.tree.Tree.{Tree}
use Rattle.cd_caddyfile.specs.Shape.{Entry}
use Rattle.cd_parts.specs.declared.measured.Measured.{Measured}
use Rattle.cd_parts.specs.declared.measured.Part.{Part}

-- numbers are kept up to the largest that a word holds
abbrev pub capped : ℕ → ℕ
capped n = min n (2 ^ 64 - 1)

-- a tree that nests too deeply is not kept
abbrev pub within_depth : ℕ → Tree → Tree
within_depth levels t = if nat_le levels MAX_DEPTH then t else tree.Null

abbrev pub with_measures : Tree → ℕ → ℕ → Measured
with_measures t long deep = record { tree = within_depth deep t; length = long; depth = deep }

-- a tree with its measures
unfoldable pub measured : Tree → Measured
measured t = with_measures t (capped (length (text t))) (capped (depth t))

-- a list, by its items
unfoldable pub list_of : List Measured → Measured
list_of items = with_measures (tree.Items (map (λ (m : Measured). m.tree) items))
    (capped (bracketed (map (λ (m : Measured). m.length) items))) (capped (suc (largest (map (λ (m : Measured). m.depth) items))))

-- an object, by its members in their order
abbrev pub member_of : Part → Member
member_of part = roll-Member (record { key = part.key; value = part.value.tree })

abbrev pub part_length : Part → ℕ
part_length part = length (text (tree.Text part.key)) + 1 + part.value.length

unfoldable pub object_of : List Part → Measured
object_of parts = with_measures (tree.Object (map member_of parts))
    (capped (bracketed (map part_length parts))) (capped (suc (largest (map (λ (part : Part). part.value.depth) parts))))

-- an entry with its measures
abbrev pub measured_entry : Entry → Part
measured_entry e = record { key = e.key; value = measured e.value }
