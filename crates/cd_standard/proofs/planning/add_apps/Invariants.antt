use Rattle.std.proofs.Common.{◌≡◌, ◌++◌, drop}
use Rattle.std.specs.List.{flat_map}
use Rattle.cd_standard.specs.Plans.{app_modules}
use Rattle.cd_standard.proofs.planning.add_apps.Given as goal

abbrev pub invariant-loop-app : goal.invariant-loop-app
invariant-loop-app l = l.out ++ flat_map (app_modules l.at) (drop l.app-index l.apps) ≡ l.initial.out ++ flat_map (app_modules l.at) l.apps
