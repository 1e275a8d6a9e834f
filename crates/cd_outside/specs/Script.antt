-- How a lane in memory plays its script.
use Rattle.std.specs.Prelude.{◌≡◌, ℕ, List, [], ◌∷◌, Option, Some, None}
use Rattle.cd_outside.specs.Pieces.{not_empty, Reads}
use Rattle.cd_outside.specs.declared.taken.Taken.{Taken}
use Rattle.cd_outside.specs.declared.accepted.Accepted.{Accepted}
use Rattle.cd_outside.specs.declared.accepted.Accepted.TheVariants as accepted
use Rattle.cd_outside.specs.declared.call.Call.{Call}

-- an accept gives the next connection of the script, of which nothing is read yet; it answers that none will come exactly
-- where the script is used up; a failed one leaves the script as it was
abbrev pub Plays : Accepted → List Call → List Call → Option (List (List ℕ)) → Type 0
Plays (accepted.Connection address) before now left =
    (pieces : List (List ℕ)) × (before ≡ record { address = address; pieces = pieces } ∷ now) × (left ≡ Some (not_empty pieces))
Plays accepted.Ended before now left = (before ≡ []) × (now ≡ []) × (left ≡ None)
Plays accepted.Failed before now left = (now ≡ before) × (left ≡ None)

-- a read of the connection that is there gives what is next of its pieces
abbrev pub Draws : Taken → List ℕ → Option (List (List ℕ)) → Option (List (List ℕ)) → Type 0
Draws result into (Some before) (Some now) = Reads result into before now
Draws result into (Some before) None = ⊥
Draws result into None now = ⊥
