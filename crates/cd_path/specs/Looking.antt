-- Part of the main theorem.
-- What stands in a tree at a path.
use Rattle.std.specs.Prelude.{ℕ, ◌-◌, Bool, false, if◌then◌else◌, List, [], ◌∷◌, length, slice_get, codes, Option, Some, None, unwrap_or, Result, Ok, Err}
use Rattle.std.specs.Str.{bytes_eq}
use Rattle.cd_text.specs.Steps.{◌▷◌, refused_where}
use Rattle.cd_tree.specs.declared.path.Path.{Path}
use Rattle.cd_tree.specs.declared.tree.Member.{Member, out-Member}
use Rattle.cd_tree.specs.declared.tree.Tree.{Tree, Null, out-Tree}
use Rattle.cd_tree.specs.declared.tree.Tree.TheOpen.{Tree-F}
use Rattle.cd_path.specs.Position.{place}
use Rattle.cd_path.specs.declared.fault.EditFault.{EditFault}
use Rattle.cd_path.specs.declared.fault.EditFault.TheVariants.{NotTraversable, EllipsisVerb}

-- ---- one part

-- the value of a key, if it is present
abbrev pub member_at : List ℕ → List Member → Option Tree
member_at key [] = None
member_at key (m ∷ ms) = if bytes_eq (out-Member m).key key then Some (out-Member m).value else member_at key ms

-- what a part names in a list, an object, or anything else
abbrev pub child_layer : List ℕ → Tree-F Tree Member → Result (Option Tree) EditFault
child_layer part (Tree-F.Items items) = place (length items) part ▷ λ n. Ok (slice_get items n)
child_layer part (Tree-F.Object members) = Ok (member_at part members)
child_layer part _ = Err NotTraversable

-- what a part names in a tree
abbrev pub child : List ℕ → Tree → Result (Option Tree) EditFault
child part t = child_layer part (out-Tree t)

-- an absent value counts as null
abbrev pub or_null : Option Tree → Tree
or_null value = unwrap_or value Null

-- ---- a path

-- what the parts lead to, one after another
abbrev pub walk : List (List ℕ) → Option Tree → Result (Option Tree) EditFault
walk [] found = Ok found
walk (part ∷ rest) found = child part (or_null found) ▷ walk rest

abbrev pub ellipsis : List ℕ
ellipsis = codes "..."

-- the part is there, and is `...`
abbrev pub is_ellipsis : Option (List ℕ) → Bool
is_ellipsis None = false
is_ellipsis (Some part) = bytes_eq part ellipsis

-- the last part is `...`
abbrev pub ends_in_ellipsis : List (List ℕ) → Bool
ends_in_ellipsis parts = is_ellipsis (slice_get parts (length parts - 1))

-- the value at the path, or none for an absent key of an object
abbrev pub look : Tree → Path → Result (Option Tree) EditFault
look t path = refused_where (ends_in_ellipsis path.parts) EllipsisVerb ▷ λ _. walk path.parts (Some t)
