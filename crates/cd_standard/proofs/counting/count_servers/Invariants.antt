use Rattle.std.proofs.Common.{◌≡◌, ◌+◌, ◌≤◌, ◌-◌, ◌^◌, length, drop}
use Rattle.std.specs.Prelude.{min}
use Rattle.std.specs.List.{flat_map}
use Rattle.cd_standard.specs.Loading.{app_servers}
use Rattle.cd_standard.proofs.counting.count_servers.Given as goal

abbrev pub invariant-loop-app : goal.invariant-loop-app
invariant-loop-app l =
    (min (l.found + length (flat_map app_servers (drop l.app-index l.app-items))) (2 ^ 64 - 1) ≡ min (length (flat_map app_servers l.app-items)) (2 ^ 64 - 1)) × (l.found ≤ 2 ^ 64 - 1)
