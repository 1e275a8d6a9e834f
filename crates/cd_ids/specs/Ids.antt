-- Part of the main theorem.
-- The ids of a tree, and the first fault of them.
use Rattle.std.specs.Prelude.{ℕ, if◌then◌else◌, List, [], ◌∷◌, ◌++◌, Option, Some, None, Result, Ok, Err}
use Rattle.std.specs.Str.{bytes_eq}
use Rattle.cd_tree.specs.declared.path.Path.{Path}
use Rattle.cd_tree.specs.declared.tree.Tree.{Tree}
use Rattle.cd_ids.specs.Walk.{Mark, named, wrong, marks}
use Rattle.cd_ids.specs.declared.fault.IdFault.{IdFault}
use Rattle.cd_ids.specs.declared.fault.IdFault.TheVariants.{Repeated, BadKind}

-- the ids among what the walk met, each with its path
abbrev pub ids_among : List Mark → List (List ℕ × Path)
ids_among [] = []
ids_among (named name at ∷ rest) = (name, at) ∷ ids_among rest
ids_among (wrong at ∷ rest) = ids_among rest

-- the ids of a tree with the paths of their objects, in the order of the walk
abbrev pub ids : Tree → List (List ℕ × Path)
ids t = ids_among (marks t)

-- the first path that an id has
abbrev pub path_of : List ℕ → List (List ℕ × Path) → Option Path
path_of name [] = None
path_of name (one ∷ rest) = if bytes_eq name one.0 then Some one.1 else path_of name rest

-- the fault that an id has a path already, or what comes later
abbrev pub or_repeated : Option Path → List ℕ → Path → Option IdFault → Option IdFault
or_repeated None name at later = later
or_repeated (Some first) name at later = Some (Repeated name first at)

-- the first that is no id, or is one of those before
abbrev pub first_fault : List (List ℕ × Path) → List Mark → Option IdFault
first_fault before [] = None
first_fault before (wrong at ∷ rest) = Some (BadKind at)
first_fault before (named name at ∷ rest) = or_repeated (path_of name before) name at (first_fault (before ++ (name, at) ∷ []) rest)

-- the first fault that the walk over a tree meets
abbrev pub id_fault : Tree → Option IdFault
id_fault t = first_fault [] (marks t)

-- the ids, unless there is a fault
abbrev pub unless_fault : Option IdFault → List (List ℕ × Path) → Result (List (List ℕ × Path)) IdFault
unless_fault None all = Ok all
unless_fault (Some fault) all = Err fault

-- the index of a tree: its ids, or the first fault of them
abbrev pub index_of : Tree → Result (List (List ℕ × Path)) IdFault
index_of t = unless_fault (id_fault t) (ids t)
