use Rattle.std.proofs.Common.{◌≡◌, ◌++◌, length}
use Rattle.cd_adapt.specs.Steps.{routes_by}
use Rattle.cd_adapt.proofs.steps.add_routes.Given as goal

abbrev pub invariant-each : goal.invariant-each
invariant-each l = l.routes ++ routes_by l.group l.steps ≡ l.initial.routes ++ routes_by l.group l.initial.steps

abbrev pub decreases-each : goal.decreases-each
decreases-each l = length l.steps
