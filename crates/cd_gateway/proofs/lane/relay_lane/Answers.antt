use Rattle.std.proofs.Common.{refl, arith}
use Rattle.cd_gateway.proofs.Going.{lane-ended, lane-failed, lane-started}
use Rattle.cd_gateway.proofs.lane.relay_lane.Goals as goal

pub loop-init : goal.loop-init
loop-init g c = record {
  turns = (tt, tt);
  may = c.requires.may;
  busy = c.requires.busy;
  later = omega arith;
  goes = lane-started c.args.upstreams.now (g.L.Lane.faults c.args.lane.now) (g.P.Peers.faults c.args.peers.now) c.new-counts.result c.new-counts.ensures (g.P.Peers.past c.args.peers.now) (g.L.Lane.past c.args.lane.now);
}

pub loop-preserved : goal.loop-preserved
loop-preserved g c = record {
  turns = (tt, tt);
  may = record { place = c.requires.may.place; some = c.requires.may.some; idle = c.relay_accepted.ensures.idle };
  busy = c.relay_accepted.ensures.busy;
  later = omega (arith, c.loop.invariant.later, c.in-Connection.ensures.cause.later, c.relay_accepted.ensures.later);
  goes = c.relay_accepted.ensures.goes (g.P.Peers.past c.args.peers.now) (g.L.Lane.past c.args.lane.now) (g.L.Lane.past c.loop.lane) (g.L.Lane.faults c.args.lane.now) (g.P.Peers.faults c.args.peers.now) (g.L.Lane.faults c.loop.lane)
      c.loop.invariant.goes c.in-Connection.ensures.cause.later c.in-Connection.ensures.past;
}

pub returns-in-Ended-clause-relayed : goal.returns-in-Ended-clause-relayed
returns-in-Ended-clause-relayed g c =
    lane-ended c.args.upstreams.now (g.L.Lane.faults c.args.lane.now) (g.L.Lane.faults c.loop.lane) (g.L.Lane.faults c.accept.new.self) (g.P.Peers.faults c.args.peers.now) (g.P.Peers.faults c.loop.peers) c.loop.counts.answered c.loop.counts.cut
    (g.P.Peers.past c.args.peers.now) (g.P.Peers.past c.loop.peers) c.end.result (g.L.Lane.past c.args.lane.now) (g.L.Lane.past c.loop.lane) (g.L.Lane.past c.accept.new.self) c.end.ensures c.in-Ended.ensures.cause.later c.loop.invariant.goes c.in-Ended.ensures.past

pub returns-in-Failed-clause-relayed : goal.returns-in-Failed-clause-relayed
returns-in-Failed-clause-relayed g c =
    lane-failed c.args.upstreams.now (g.L.Lane.faults c.args.lane.now) (g.L.Lane.faults c.loop.lane) (g.L.Lane.faults c.accept.new.self) (g.P.Peers.faults c.args.peers.now) (g.P.Peers.faults c.loop.peers) c.loop.counts.answered c.loop.counts.cut
    (g.P.Peers.past c.args.peers.now) (g.P.Peers.past c.loop.peers) c.end-in-Failed.result (g.L.Lane.past c.args.lane.now) (g.L.Lane.past c.loop.lane) (g.L.Lane.past c.accept.new.self) c.end-in-Failed.ensures c.loop.invariant.later c.in-Failed.ensures.cause.later (c.in-Failed.ensures.cause.rose refl) c.loop.invariant.goes c.in-Failed.ensures.past
