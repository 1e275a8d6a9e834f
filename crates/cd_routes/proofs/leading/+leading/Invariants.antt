use Rattle.std.proofs.Common.{◌≡◌, ◌++◌}
use Rattle.cd_routes.specs.Invoking.{place_of, route_invokes, step_invokes}
use Rattle.cd_routes.proofs.Invokes.{left}
use Rattle.cd_routes.proofs.leading.+leading.Given as goal

abbrev pub invariant-add_routes-loop-route : goal.invariant-add_routes-loop-route
invariant-add_routes-loop-route l =
    l.out ++ left (place_of l.names) route_invokes l.routes l.route-index ≡ l.initial.out ++ left (place_of l.names) route_invokes l.routes 0

abbrev pub invariant-add_steps-loop-step : goal.invariant-add_steps-loop-step
invariant-add_steps-loop-step l =
    l.out ++ left (place_of l.names) step_invokes l.steps l.step-index ≡ l.initial.out ++ left (place_of l.names) step_invokes l.steps 0
