use Rattle.std.proofs.Common.{List, ℕ, refl, sym, subst}
use Rattle.cd_wire.specs.Requests.{Tail}
use Rattle.cd_wire.proofs.TakingLemmas.{nothing_no_request}
use Rattle.cd_session.specs.declared.cause.Cause.TheVariants as cause
use Rattle.cd_session.specs.Reading.{ReadsOn}
use Rattle.cd_session.specs.Ways.{IsTail}
use Rattle.cd_gateway.specs.Stepping.{moment}
use Rattle.cd_gateway.proofs.Connecting.{ends-as, over-clean, over-cut, over-reading, over-refuse, reads-on}
use Rattle.cd_gateway.proofs.worker.Worker.relay_next.Goals as goal

pub returns-in-Ok-Request-clause-steps : goal.returns-in-Ok-Request-clause-steps
returns-in-Ok-Request-clause-steps g c first going =
    let begins = rw c.in-Ok-Request.field-0-is at c.in-Ok-Request.ensures.found in
    c.after_request.ensures.steps c.args.self.now.upstreams.now c.in-Ok-Request.request c.args.session.now.intake first
    (moment (g.L.Lane.past c.args.lane.now) (g.P.Peers.past c.args.peers.now) (g.P.Peers.faults c.args.peers.now))
    (moment (g.L.Lane.past c.relay-how.new.lane) (g.P.Peers.past c.relay-how.new.peers) (g.P.Peers.faults c.relay-how.new.peers)) going begins c.relay-how.ensures.relayed

pub returns-in-Ok-More-clause-steps : goal.returns-in-Ok-More-clause-steps
returns-in-Ok-More-clause-steps g c first going =
    let session = c.args.session.now in
    let found = rw c.in-Ok-More.field-0-is at c.in-Ok-More.ensures.found in
    reads-on c.args.self.now.upstreams.now session.intake session.ended session.answered first
    (moment (g.L.Lane.past c.args.lane.now) (g.P.Peers.past c.args.peers.now) (g.P.Peers.faults c.args.peers.now)) going
    c.read_more.result c.read_more.new.session.intake c.read_more.new.session.ended c.read_more.new.session.answered (g.L.Lane.past c.read_more.new.lane) found.1
    (subst (λ (left : List ℕ). ReadsOn c.read_more.result left c.read_more.new.session.intake session.ended c.read_more.new.session.ended session.answered c.read_more.new.session.answered (g.L.Lane.past c.args.lane.now) (g.L.Lane.past c.read_more.new.lane)) found.0 c.read_more.ensures.reads)

pub returns-in-Ok-End-clause-steps : goal.returns-in-Ok-End-clause-steps
returns-in-Ok-End-clause-steps g c first going =
    let session = c.args.session.now in
    let now = moment (g.L.Lane.past c.args.lane.now) (g.P.Peers.past c.args.peers.now) (g.P.Peers.faults c.args.peers.now) in
    let found = rw c.in-Ok-End.field-0-is at c.in-Ok-End.ensures.found in
    let tail : IsTail session.intake session.ended Tail.clean = subst (λ (l : List ℕ). IsTail l session.ended Tail.clean) (sym found.2) (nothing_no_request, (found.1, refl)) in
    ends-as c.args.self.now.upstreams.now cause.Whole session.answered first now c.end.result c.end.ensures
    (over-clean c.args.self.now.upstreams.now session.intake session.ended session.answered first now going tail)

pub returns-in-Ok-Cut-clause-steps : goal.returns-in-Ok-Cut-clause-steps
returns-in-Ok-Cut-clause-steps g c first going =
    let session = c.args.session.now in
    let now = moment (g.L.Lane.past c.args.lane.now) (g.P.Peers.past c.args.peers.now) (g.P.Peers.faults c.args.peers.now) in
    let found = rw c.in-Ok-Cut.field-0-is at c.in-Ok-Cut.ensures.found in
    ends-as c.args.self.now.upstreams.now cause.Whole session.answered first now c.end-in-Ok-Cut.result c.end-in-Ok-Cut.ensures
    (over-cut c.args.self.now.upstreams.now session.intake session.ended session.answered first now going (found.2, (found.1, found.3)))

pub returns-in-Ok-Refused-clause-steps : goal.returns-in-Ok-Refused-clause-steps
returns-in-Ok-Refused-clause-steps g c first going =
    let session = c.args.session.now in
    let now = moment (g.L.Lane.past c.args.lane.now) (g.P.Peers.past c.args.peers.now) (g.P.Peers.faults c.args.peers.now) in
    let found = rw c.in-Ok-Refused.field-0-is at c.in-Ok-Refused.ensures.found in
    over-refuse c.args.self.now.upstreams.now session.intake session.ended session.answered first now going c.in-Ok-Refused.fault c.refuse.result (g.L.Lane.past c.refuse.new.lane) (found.1, found.2)
    c.refuse.ensures.refused

pub returns-in-Ok-Refused-clause-halted : goal.returns-in-Ok-Refused-clause-halted
returns-in-Ok-Refused-clause-halted g c halted = c.refuse.ensures.halted halted

pub returns-in-Err-clause-steps : goal.returns-in-Err-clause-steps
returns-in-Err-clause-steps g c first going =
    let session = c.args.session.now in
    let now = moment (g.L.Lane.past c.args.lane.now) (g.P.Peers.past c.args.peers.now) (g.P.Peers.faults c.args.peers.now) in
    ends-as c.args.self.now.upstreams.now cause.Lacking session.answered first now c.end-in-Err.result c.end-in-Err.ensures
    (over-reading c.args.self.now.upstreams.now session.intake session.ended session.answered first now going cause.Lacking (refl, refl))
