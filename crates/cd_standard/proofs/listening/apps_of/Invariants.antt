use Rattle.std.proofs.Common.{◌≡◌, ◌++◌, map, take}
use Rattle.cd_standard.specs.Plans.{app_plan, app_name, app_addresses}
use Rattle.cd_standard.proofs.listening.apps_of.Given as goal

abbrev pub invariant-loop-app : goal.invariant-loop-app
invariant-loop-app l = l.plans ≡ l.initial.plans ++ map (λ app. app_plan (app_name app) (app_addresses app)) (take l.app-index l.app-items)
