use Rattle.std.proofs.Common.{◌+◌, ℕ, Option, min, sym, subst}
use Rattle.cd_outside.specs.declared.past.Past.{Past}
use Rattle.cd_outside.specs.Counts.{count_end}
use Rattle.cd_gateway.specs.Lanes.{counted}
use Rattle.cd_gateway.specs.Stepping.{IsEnded, LaneGoesOn, moment}
use Rattle.cd_gateway.proofs.Going.{lane-more}
use Rattle.cd_gateway.proofs.worker.Worker.relay_accepted.Goals as goal

pub returns-clause-goes : goal.returns-clause-goes
returns-clause-goes g c before old then l0 p0 faults so_far le came =
    let upstreams = c.args.self.now.upstreams.now in
    let n : ℕ = c.args.counts.now.answered in
    let e = c.relay_connection-end.result in
    let failed : ℕ = g.L.Lane.faults c.relay_connection-end.new.lane in
    let p1 : ℕ = g.P.Peers.faults c.args.peers.now in
    let p2 : ℕ = g.P.Peers.faults c.relay_connection-end.new.peers in
    let t1 = g.P.Peers.past c.args.peers.now in
    let t2 = g.P.Peers.past c.relay_connection-end.new.peers in
    let new = g.L.Lane.past c.relay_connection-end.new.lane in
    subst (λ (a : ℕ). LaneGoesOn upstreams (counted l0 p0) (counted failed p2) a c.add.new.self.cut before t2 old new) (sym c.add.ensures.answered)
    (subst (λ (a : ℕ). LaneGoesOn upstreams (counted l0 p0) (counted failed p2) (min (n + e.answered) count_end) a before t2 old new) (sym c.add.ensures.cut)
    (lane-more upstreams c.args.at.now l0 faults (g.L.Lane.faults c.args.lane.now) failed p0 p1 p2 n c.args.counts.now.cut before t1 t2 old then new e so_far le c.relay_connection-end.ensures.cause
    (subst (λ (z : Option Past). IsEnded upstreams e (moment z t1 p1) (moment new t2 p2)) came c.relay_connection-end.ensures.ends)))
