use Rattle.std.proofs.Common.{false, arith}
use Rattle.cd_session.proofs.Causes.{never-halted, risen-later}
use Rattle.cd_gateway.specs.Stepping.{moment}
use Rattle.cd_gateway.proofs.Connecting.{goes-started}
use Rattle.cd_gateway.proofs.worker.Worker.relay_requests.Goals as goal

pub loop-init : goal.loop-init
loop-init g c = record {
  turns = (tt, tt);
  may = c.requires.may;
  busy = c.requires.busy;
  later = omega arith;
  goes = goes-started c.args.self.now.upstreams.now c.new-session.result.intake c.new-session.result.ended c.new-session.result.answered c.new-session.ensures.intake c.new-session.ensures.ended c.new-session.ensures.answered
      (moment (g.L.Lane.past c.args.lane.now) (g.P.Peers.past c.args.peers.now) (g.P.Peers.faults c.args.peers.now));
}

pub loop-preserved : goal.loop-preserved
loop-preserved g c = record {
  turns = (tt, tt);
  may = record { place = c.requires.may.place; some = c.requires.may.some; idle = c.relay_next.ensures.idle };
  busy = c.relay_next.ensures.busy;
  later = omega (arith, c.loop.invariant.later, c.in-None-relay_next.ensures.cause);
  goes = c.in-None-relay_next.ensures.steps (moment (g.L.Lane.past c.args.lane.now) (g.P.Peers.past c.args.peers.now) (g.P.Peers.faults c.args.peers.now)) c.loop.invariant.goes;
}

pub returns-in-Some-relay_next-clause-ends : goal.returns-in-Some-relay_next-clause-ends
returns-in-Some-relay_next-clause-ends g c =
    c.in-Some-relay_next.ensures.steps (moment (g.L.Lane.past c.args.lane.now) (g.P.Peers.past c.args.peers.now) (g.P.Peers.faults c.args.peers.now)) c.loop.invariant.goes

pub returns-in-Some-relay_next-clause-cause : goal.returns-in-Some-relay_next-clause-cause
returns-in-Some-relay_next-clause-cause g c =
    risen-later c.in-Some-relay_next.end.cause (g.L.Lane.faults c.args.lane.now) (g.L.Lane.faults c.loop.lane) (g.L.Lane.faults c.relay_next.new.lane) c.loop.invariant.later c.in-Some-relay_next.ensures.cause

pub returns-in-Some-relay_next-clause-running : goal.returns-in-Some-relay_next-clause-running
returns-in-Some-relay_next-clause-running g c = never-halted c.in-Some-relay_next.end.halted (c.in-Some-relay_next.ensures.halted false)
