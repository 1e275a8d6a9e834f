-- How the calls of a form in memory, and their faults, are counted.
use Rattle.std.specs.Prelude.{◌≡◌, Contains}
use Rattle.cd_outside.specs.Counts.{raised}
use Rattle.cd_outside.specs.declared.faults.Faults.{Faults}

-- the number of the next call is one of those that fail
abbrev pub IsDue : Faults → Type 0
IsDue faults = Contains faults.failing faults.calls

-- one call more was made, and one fault more where it failed, and only there
pub record Counted (failed : Type 0) (before now : Faults) : Type 0 where
  pub failing : now.failing ≡ before.failing
  pub calls : now.calls ≡ raised before.calls
  pub fault : failed → now.count ≡ raised before.count
  pub none : ¬ failed → now.count ≡ before.count
