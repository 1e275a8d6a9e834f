use Rattle.std.proofs.Common.{◌≡◌, ◌++◌}
use Rattle.cd_standard.specs.Plans.{route_modules, step_modules}
use Rattle.cd_standard.proofs.Adding.{elements_left}
use Rattle.cd_standard.proofs.walking.+adding_routes.Given as goal

abbrev pub invariant-add_routes-loop-place : goal.invariant-add_routes-loop-place
invariant-add_routes-loop-place l = l.out ++ elements_left route_modules l.routes l.place l.at ≡ l.initial.out ++ elements_left route_modules l.routes 0 l.at

abbrev pub invariant-add_steps-loop-place : goal.invariant-add_steps-loop-place
invariant-add_steps-loop-place l = l.out ++ elements_left step_modules l.steps l.place l.at ≡ l.initial.out ++ elements_left step_modules l.steps 0 l.at
