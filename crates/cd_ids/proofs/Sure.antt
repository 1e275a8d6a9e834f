-- Which fault the ids of a tree have does not depend on memory.
use Rattle.std.proofs.Common.{◌≡◌, ℕ, true, false, Bool, List, [], ◌∷◌, ◌++◌, refl, Option, Some, None}
use Rattle.cd_tree.specs.declared.path.Path.{Path}
use Rattle.cd_tree.specs.declared.tree.Tree.{Tree}
use Rattle.cd_ids.specs.Walk.{Mark, named, wrong, marks}
use Rattle.cd_ids.specs.Ids.{path_of, or_repeated, first_fault, id_fault}
use Rattle.cd_ids.specs.declared.fault.IdFault.{IdFault}
use Rattle.cd_ids.specs.declared.fault.IdFault.TheVariants.{Repeated, BadKind, NoMemory}

-- no fault, or one of the ids
abbrev pub is_said : Option IdFault → Bool
is_said None = true
is_said (Some (Repeated name first second)) = true
is_said (Some (BadKind at)) = true
is_said (Some NoMemory) = false

or_repeated-sure : (had : Option Path) (name : List ℕ) (at : Path) (later : Option IdFault) → is_said later ≡ true → is_said (or_repeated had name at later) ≡ true
or_repeated-sure None name at later e = e
or_repeated-sure (Some first) name at later e = refl

first_fault-sure : (before : List (List ℕ × Path)) (marks : List Mark) → is_said (first_fault before marks) ≡ true
first_fault-sure before [] = refl
first_fault-sure before (wrong at ∷ rest) = refl
first_fault-sure before (named name at ∷ rest) = or_repeated-sure (path_of name before) name at (first_fault (before ++ (name, at) ∷ []) rest) (first_fault-sure (before ++ (name, at) ∷ []) rest)

pub id_fault-sure : (t : Tree) → is_said (id_fault t) ≡ true
id_fault-sure t = first_fault-sure [] (marks t)
