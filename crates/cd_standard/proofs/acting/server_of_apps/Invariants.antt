use Rattle.std.proofs.Common.{◌≡◌, drop}
use Rattle.std.specs.List.{find, flat_map}
use Rattle.cd_standard.specs.Compiled.{app_servers, has_address}
use Rattle.cd_standard.proofs.acting.server_of_apps.Given as goal

abbrev pub invariant-loop-place : goal.invariant-loop-place
invariant-loop-place l = find (has_address l.at) (flat_map app_servers (drop l.place l.apps)) ≡ find (has_address l.at) (flat_map app_servers l.apps)
