-- How ids are noted one by one, for the clauses of private functions.
use Rattle.std.specs.Prelude.{ℕ, List, [], ◌∷◌, ◌++◌, Option, Some, None, Result, Ok, Err}
use Rattle.cd_text.specs.Steps.{◌▷◌}
use Rattle.cd_tree.specs.declared.path.Path.{Path}
use Rattle.cd_ids.specs.Walk.{Mark, named, wrong}
use Rattle.cd_ids.specs.Ids.{path_of}
use Rattle.cd_ids.specs.declared.fault.IdFault.{IdFault}
use Rattle.cd_ids.specs.declared.fault.IdFault.TheVariants.{Repeated, BadKind}

-- one more id, which may not be known already
abbrev pub with_id : Option Path → List (List ℕ × Path) → List ℕ → Path → Result (List (List ℕ × Path)) IdFault
with_id None known name at = Ok (known ++ (name, at) ∷ [])
with_id (Some first) known name at = Err (Repeated name first at)

abbrev pub note : List (List ℕ × Path) → List ℕ → Path → Result (List (List ℕ × Path)) IdFault
note known name at = with_id (path_of name known) known name at

-- one more id, which may be known already, without its path
abbrev pub note_name : List (List ℕ) → List ℕ → Path → Result (List (List ℕ)) IdFault
note_name known name at = Ok (known ++ name ∷ [])

-- one after another, each by this step, until there is a fault
abbrev pub noted : {K : Type 0} → (K → List ℕ → Path → Result K IdFault) → K → List Mark → Result K IdFault
noted step known [] = Ok known
noted step known (wrong at ∷ rest) = Err (BadKind at)
noted step known (named name at ∷ rest) = step known name at ▷ λ more. noted step more rest
