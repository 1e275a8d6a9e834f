-- What a call on the lane leaves, where the connection is still there.
use Rattle.std.specs.Prelude.{◌≡◌, ◌≤◌, ℕ, Bool, true}
use Rattle.cd_outside.specs.Counts.{Rose}

-- the connection of a lane is still there after a call, and the faults of the lane have risen where the call has failed
pub record KeepsConnection (fails : Type 0) (connected : Bool) (before now : ℕ) : Type 0 where
  pub busy : connected ≡ true
  pub later : before ≤ now
  pub failed : fails → Rose before now
