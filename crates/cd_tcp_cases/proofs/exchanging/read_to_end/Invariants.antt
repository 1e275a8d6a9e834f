use Rattle.std.proofs.Common.{◌≡◌, true}
use Rattle.cd_tcp_cases.proofs.exchanging.read_to_end.Given as goal

-- the exchange is there
abbrev pub invariant-loop : goal.invariant-loop
invariant-loop g l = g.P.Peers.busy l.peers ≡ true
