use Rattle.std.proofs.Common.{◌≡◌, ◌++◌, drop}
use Rattle.std.specs.List.{flat_map}
use Rattle.cd_standard.specs.Plans.{app_addresses}
use Rattle.cd_standard.proofs.listening.add_apps.Given as goal

abbrev pub invariant-loop-app : goal.invariant-loop-app
invariant-loop-app l = l.listened ++ flat_map app_addresses (drop l.app-index l.apps) ≡ l.initial.listened ++ flat_map app_addresses l.apps
