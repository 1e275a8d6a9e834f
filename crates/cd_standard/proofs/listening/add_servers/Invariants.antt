use Rattle.std.proofs.Common.{◌≡◌, ◌++◌, drop}
use Rattle.std.specs.List.{flat_map}
use Rattle.cd_standard.specs.Plans.{server_addresses}
use Rattle.cd_standard.proofs.listening.add_servers.Given as goal

abbrev pub invariant-loop-server : goal.invariant-loop-server
invariant-loop-server l = l.listened ++ flat_map server_addresses (drop l.server-index l.servers) ≡ l.initial.listened ++ flat_map server_addresses l.servers
