use Rattle.std.proofs.Common.{◌≡◌, ◌≤◌, false, length}
use Rattle.cd_gateway.specs.Lanes.{counted}
use Rattle.cd_gateway.specs.Stepping.{LaneGoesOn, MayDial}
use Rattle.cd_gateway.proofs.lane.relay_lane.Given as goal

abbrev pub invariant-loop : goal.invariant-loop
invariant-loop g l = record {
  turns : (goal.iterator-loop g).can_next l.iterator' × (goal.iterator-loop g).is_finite l.iterator';
  may : MayDial l.place (length l.upstreams) (g.P.Peers.busy l.peers);
  busy : g.L.Lane.busy l.lane ≡ false;
  later : g.L.Lane.faults l.initial.lane ≤ g.L.Lane.faults l.lane;
  goes : LaneGoesOn l.upstreams (counted (g.L.Lane.faults l.initial.lane) (g.P.Peers.faults l.initial.peers)) (counted (g.L.Lane.faults l.lane) (g.P.Peers.faults l.peers)) l.counts.answered l.counts.cut (g.P.Peers.past l.initial.peers) (g.P.Peers.past l.peers) (g.L.Lane.past l.initial.lane) (g.L.Lane.past l.lane);
}
