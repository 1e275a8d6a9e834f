-- Part of the main theorem.
-- The members of an object of settings.
use Rattle.std.specs.Prelude.{ℕ, ◌==◌, ◌||◌, ◌&&◌, not, Bool, true, false, if◌then◌else◌, List, [], ◌∷◌, length, codes, Option, Some, None, Result, Ok, Err}
use Rattle.std.specs.List.{list_any, slice_split}
use Rattle.std.specs.Str.{bytes_eq}
use Rattle.cd_tree.specs.Path.{◌▸◌}
use Rattle.cd_tree.specs.declared.path.Path.{Path}
use Rattle.cd_tree.specs.declared.tree.Member.{Member, out-Member}
use Rattle.cd_tree.specs.declared.tree.Tree.{Tree, out-Tree}
use Rattle.cd_tree.specs.declared.tree.Tree.TheOpen.{Tree-F}
use Rattle.cd_tree.specs.declared.fault.FieldFault.{FieldFault}
use Rattle.cd_tree.specs.declared.fault.FieldFault.TheVariants.{UnknownMember, WrongKind, Missing}

-- ---- which members there may be

-- names are joined by single spaces, and the empty text gives none
abbrev pub is_named : List ℕ → List ℕ → Bool
is_named names name = not (length names == 0) && list_any (λ one. bytes_eq one name) (slice_split (λ b. b == 32) names)

-- a member may have one of the names, or be the id of its object
abbrev pub is_known : List ℕ → List ℕ → Bool
is_known names name = bytes_eq name (codes "@id") || is_named names name

-- the first member, and so the least where keys rise, that may not be there
abbrev pub unknown : List ℕ → List Member → Option (List ℕ)
unknown names [] = None
unknown names (m ∷ ms) = if is_known names (out-Member m).key then unknown names ms else Some (out-Member m).key

-- the members, unless one may not be there
abbrev pub unless_unknown : Option (List ℕ) → List Member → Path → Result (List Member) FieldFault
unless_unknown None members at = Ok members
unless_unknown (Some name) members at = Err (UnknownMember (at ▸ name))

-- an object's members, and nothing else
abbrev pub over_layer : List ℕ → Tree-F Tree Member → Path → Result (List Member) FieldFault
over_layer names Tree-F.Null at = Err (WrongKind at)
over_layer names (Tree-F.Bool b) at = Err (WrongKind at)
over_layer names (Tree-F.Num n) at = Err (WrongKind at)
over_layer names (Tree-F.Text t) at = Err (WrongKind at)
over_layer names (Tree-F.Items items) at = Err (WrongKind at)
over_layer names (Tree-F.Object members) at = unless_unknown (unknown names members) members at

-- the members of an object that has no others than these
abbrev pub over : List ℕ → Tree → Path → Result (List Member) FieldFault
over names t at = over_layer names (out-Tree t) at

-- ---- a member

-- null alone is null
abbrev pub null_layer : Tree-F Tree Member → Bool
null_layer Tree-F.Null = true
null_layer (Tree-F.Bool b) = false
null_layer (Tree-F.Num n) = false
null_layer (Tree-F.Text t) = false
null_layer (Tree-F.Items items) = false
null_layer (Tree-F.Object members) = false

abbrev pub is_null : Tree → Bool
is_null t = null_layer (out-Tree t)

-- null counts as absent
abbrev pub unless_null : Tree → Option Tree
unless_null t = if is_null t then None else Some t

-- the member of a name, unless it is absent or null
abbrev pub get : List ℕ → List Member → Option Tree
get name [] = None
get name (m ∷ ms) = if bytes_eq (out-Member m).key name then unless_null (out-Member m).value else get name ms

-- what is there, or the fault that it is not
abbrev pub or_missing : Option Tree → Path → Result Tree FieldFault
or_missing None at = Err (Missing at)
or_missing (Some t) at = Ok t

-- the member of a name, which is Missing where it is absent or null
abbrev pub need : List ℕ → List Member → Path → Result Tree FieldFault
need name members at = or_missing (get name members) (at ▸ name)
