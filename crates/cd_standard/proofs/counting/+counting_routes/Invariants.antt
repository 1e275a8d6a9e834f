use Rattle.std.proofs.Common.{◌≡◌, ◌+◌, ◌≤◌, ◌-◌, ◌^◌, length}
use Rattle.std.specs.Prelude.{min}
use Rattle.cd_tree.specs.declared.path.Path.{Path}
use Rattle.cd_standard.specs.Plans.{route_modules, step_modules}
use Rattle.cd_standard.proofs.Adding.{elements_left}
use Rattle.cd_standard.proofs.counting.+counting_routes.Given as goal

abbrev pub invariant-modules_in_routes-loop-route : goal.invariant-modules_in_routes-loop-route
invariant-modules_in_routes-loop-route l =
    ((at : Path) → min (l.found + length (elements_left route_modules l.routes l.route-index at)) (2 ^ 64 - 1) ≡ min (length (elements_left route_modules l.routes 0 at)) (2 ^ 64 - 1)) × (l.found ≤ 2 ^ 64 - 1)

abbrev pub invariant-modules_in_steps-loop-step : goal.invariant-modules_in_steps-loop-step
invariant-modules_in_steps-loop-step l =
    ((at : Path) → min (l.found + length (elements_left step_modules l.steps l.step-index at)) (2 ^ 64 - 1) ≡ min (length (elements_left step_modules l.steps 0 at)) (2 ^ 64 - 1)) × (l.found ≤ 2 ^ 64 - 1)
