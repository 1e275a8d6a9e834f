use Rattle.std.proofs.Common.{◌≡◌, ◌≤◌, ◌-◌, false, length, is_some, All}
use Rattle.caddy_run.specs.declared.lanes.TheConstants.{LANES}
use Rattle.caddy_run.proofs.proxying.tcp_peers.Given as goal

abbrev pub invariant-loop-alloc : goal.invariant-loop-alloc
invariant-loop-alloc g l = record {
  few : length l.peers ≤ LANES;
  idle : All (λ of_lane. is_some of_lane.held ≡ false) l.peers;
}

abbrev pub decreases-loop-alloc : goal.decreases-loop-alloc
decreases-loop-alloc g l = LANES - length l.peers
