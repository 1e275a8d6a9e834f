use Rattle.std.proofs.Common.{◌≡◌, ◌+◌, ◌≤◌, ◌-◌, ◌^◌, length, drop}
use Rattle.std.specs.Prelude.{min}
use Rattle.std.specs.List.{flat_map}
use Rattle.cd_standard.specs.Plans.{app_addresses}
use Rattle.cd_standard.proofs.counting.addresses_in_apps.Given as goal

abbrev pub invariant-loop-app : goal.invariant-loop-app
invariant-loop-app l =
    (min (l.found + length (flat_map app_addresses (drop l.app-index l.apps))) (2 ^ 64 - 1) ≡ min (length (flat_map app_addresses l.apps)) (2 ^ 64 - 1)) × (l.found ≤ 2 ^ 64 - 1)
