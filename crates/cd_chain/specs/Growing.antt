-- Places that are added.
use Rattle.std.specs.Prelude.{◌≡◌, ◌≤◌, ℕ, List, length}
use Rattle.cd_chain.specs.declared.place.Place.{Place}
use Rattle.cd_chain.specs.Places.{at}
use Rattle.cd_chain.specs.Steps.{steps_at}

-- places were added, and those that were there do what they did, in as many steps
pub record Grows (old new : List Place) : Type 0 where
  pub longer : length old ≤ length new
  pub kept : (n : ℕ) → n ≤ length old → at new n ≡ at old n
  pub steps : (n : ℕ) → n ≤ length old → steps_at new n ≡ steps_at old n
