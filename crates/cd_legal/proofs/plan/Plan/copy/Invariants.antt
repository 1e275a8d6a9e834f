use Rattle.std.proofs.Common.{◌≡◌, take}
use Rattle.cd_legal.proofs.plan.Plan.copy.Given as goal

abbrev pub invariant-loop-module : goal.invariant-loop-module
invariant-loop-module l = l.modules ≡ take l.module-index l.module-items

abbrev pub invariant-loop-app : goal.invariant-loop-app
invariant-loop-app l = l.apps ≡ take l.app-index l.app-items
