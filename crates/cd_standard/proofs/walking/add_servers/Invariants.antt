use Rattle.std.proofs.Common.{◌≡◌, ◌++◌, drop}
use Rattle.std.specs.List.{flat_map}
use Rattle.cd_standard.specs.Plans.{server_modules}
use Rattle.cd_standard.proofs.walking.add_servers.Given as goal

abbrev pub invariant-loop-server : goal.invariant-loop-server
invariant-loop-server l = l.out ++ flat_map (server_modules l.at) (drop l.server-index l.servers) ≡ l.initial.out ++ flat_map (server_modules l.at) l.servers
