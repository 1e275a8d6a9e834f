use Rattle.std.proofs.Common.{◌≡◌, ◌+◌, ◌≤◌, ◌-◌, ◌^◌, length, drop}
use Rattle.std.specs.Prelude.{min}
use Rattle.std.specs.List.{flat_map}
use Rattle.cd_standard.specs.Plans.{server_addresses}
use Rattle.cd_standard.proofs.counting.addresses_in_servers.Given as goal

abbrev pub invariant-loop-server : goal.invariant-loop-server
invariant-loop-server l =
    (min (l.found + length (flat_map server_addresses (drop l.server-index l.servers))) (2 ^ 64 - 1) ≡ min (length (flat_map server_addresses l.servers)) (2 ^ 64 - 1)) × (l.found ≤ 2 ^ 64 - 1)
