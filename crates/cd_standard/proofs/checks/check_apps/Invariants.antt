use Rattle.std.proofs.Common.{◌≡◌, drop}
use Rattle.std.specs.List.{flat_map}
use Rattle.cd_standard.specs.Checking.{MayCheck}
use Rattle.cd_standard.specs.Loading.{each_checked, app_servers}
use Rattle.cd_standard.proofs.checks.check_apps.Given as goal

abbrev pub invariant-loop-app : goal.invariant-loop-app
invariant-loop-app l = record {
  same : each_checked l.check (flat_map app_servers l.apps) ≡ each_checked l.check (flat_map app_servers (drop l.app-index l.apps));
  may : MayCheck l.check (flat_map app_servers (drop l.app-index l.apps));
}
