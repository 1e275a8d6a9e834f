-- What fixtures in memory record of their calls.
use Rattle.std.specs.Prelude.{◌≡◌, Bool, true, false, List, Option, Some, None}
use Rattle.cd_outside.specs.FixtureCall.{CallsGrow}
use Rattle.cd_outside.specs.declared.fixtures.FixtureCall.{FixtureCall}

-- the calls so far, and whether nothing is told any more, since one could not be recorded
pub record Recorded : Type 0 where
  pub calls : List FixtureCall
  pub silent : Bool

-- the calls, unless one could not be recorded
abbrev pub told_calls : Bool → List FixtureCall → Option (List FixtureCall)
told_calls true calls = None
told_calls false calls = Some calls

-- what a record tells
abbrev pub told : Recorded → Option (List FixtureCall)
told log = told_calls log.silent log.calls

-- the record tells these calls more, or has told its last: then it stays as it was
pub record Adds (before : Recorded) (more : List FixtureCall) (now : Recorded) : Type 0 where
  pub grows : CallsGrow (told before) more (told now)
  pub stays : now.silent ≡ true → now.calls ≡ before.calls
