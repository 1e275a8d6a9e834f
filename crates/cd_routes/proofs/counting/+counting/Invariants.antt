use Rattle.std.proofs.Common.{◌≡◌, ◌+◌, ◌≤◌, ◌-◌, ◌^◌, map, drop}
use Rattle.std.specs.Prelude.{sum, min}
use Rattle.cd_routes.specs.Counting.{route_count, step_count}
use Rattle.cd_routes.proofs.counting.+counting.Given as goal

abbrev pub invariant-routes_count-loop-route : goal.invariant-routes_count-loop-route
invariant-routes_count-loop-route l =
    (min (l.found + sum (map (route_count l.rates) (drop l.route-index l.routes))) (2 ^ 64 - 1) ≡ min (sum (map (route_count l.rates) l.routes)) (2 ^ 64 - 1)) × (l.found ≤ 2 ^ 64 - 1)

abbrev pub invariant-steps_count-loop-step : goal.invariant-steps_count-loop-step
invariant-steps_count-loop-step l =
    (min (l.found + sum (map (step_count l.rates) (drop l.step-index l.steps))) (2 ^ 64 - 1) ≡ min (sum (map (step_count l.rates) l.steps)) (2 ^ 64 - 1)) × (l.found ≤ 2 ^ 64 - 1)
