-- What waits for an outcome, as the code keeps it: the last frame meets the outcome first.
use Rattle.std.specs.Prelude.{ℕ, List, [], ◌∷◌, Some}
use Rattle.cd_fill.specs.declared.scene.Scene.{Scene}
use Rattle.cd_routes.specs.declared.outcome.Outcome.{Outcome}
use Rattle.cd_routes.specs.declared.outcome.Outcome.TheVariants.{Answered, Failed}
use Rattle.cd_routes.specs.Running.{with_changes}
use Rattle.cd_chain.specs.declared.place.Place.{Place}
use Rattle.cd_chain.specs.declared.place.Frame.{Frame}
use Rattle.cd_chain.specs.declared.place.Frame.TheVariants.{Changes, Catch}
use Rattle.cd_chain.specs.declared.progress.Ended.{Ended}
use Rattle.cd_chain.specs.declared.progress.Ended.TheVariants as ended
use Rattle.cd_chain.specs.declared.progress.Progress.{Progress}
use Rattle.cd_chain.specs.declared.progress.Progress.TheVariants as progress
use Rattle.cd_chain.specs.Places.{or_failed, at, returning}

-- what a frame makes of an outcome: an answer meets changes, and a failure goes on at the errors, with the returns that were
-- there when they were left to wait
abbrev pub framed : List Place → Frame → Outcome → Outcome
framed places (Changes changes) outcome = with_changes (Some changes) outcome
framed places (Catch errors) outcome = or_failed (at places errors.begin (returning places errors.returns)) outcome

unfoldable pub unwound : List Place → List Frame → Outcome → Outcome
unwound places [] outcome = outcome
unwound places (frame ∷ later) outcome = framed places frame (unwound places later outcome)

-- an outcome whose scene was lent
abbrev pub outcome_of : Ended → Scene → Outcome
outcome_of (ended.Answered a) x = Answered a
outcome_of (ended.Failed status message) x = Failed x status message

-- what becomes of the scene from here on
abbrev pub told : List Place → Progress → List ℕ → Scene → Outcome
told places (progress.Goes n) returns x = at places n (returning places returns) x
told places (progress.Ends e) returns x = outcome_of e x
