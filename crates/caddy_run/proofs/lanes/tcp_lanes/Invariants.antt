use Rattle.std.proofs.Common.{◌≡◌, ◌≤◌, ◌-◌, false, length, is_some, All}
use Rattle.caddy_run.specs.declared.lanes.TheConstants.{LANES}
use Rattle.caddy_run.proofs.lanes.tcp_lanes.Given as goal

abbrev pub invariant-loop-alloc : goal.invariant-loop-alloc
invariant-loop-alloc g l = record {
  few : length l.lanes ≤ LANES;
  idle : All (λ telling. is_some telling.lane.lane.held ≡ false) l.lanes;
}

abbrev pub decreases-loop-alloc : goal.decreases-loop-alloc
decreases-loop-alloc g l = LANES - length l.lanes
