use Rattle.std.proofs.Common.{◌≡◌, ◌≤◌, true, length}
use Rattle.cd_gateway.specs.Stepping.{GoesOn, MayDial, moment}
use Rattle.cd_gateway.proofs.worker.Worker.relay_requests.Given as goal

abbrev pub invariant-loop : goal.invariant-loop
invariant-loop g l = record {
  turns : (goal.iterator-loop g).can_next l.iterator' × (goal.iterator-loop g).is_finite l.iterator';
  may : MayDial l.self.place (length l.self.upstreams.now) (g.P.Peers.busy l.peers);
  busy : g.L.Lane.busy l.lane ≡ true;
  later : g.L.Lane.faults l.initial.lane ≤ g.L.Lane.faults l.lane;
  goes : GoesOn l.self.upstreams.now l.session.intake l.session.ended l.session.answered (moment (g.L.Lane.past l.initial.lane) (g.P.Peers.past l.initial.peers) (g.P.Peers.faults l.initial.peers)) (moment (g.L.Lane.past l.lane) (g.P.Peers.past l.peers) (g.P.Peers.faults l.peers));
}
