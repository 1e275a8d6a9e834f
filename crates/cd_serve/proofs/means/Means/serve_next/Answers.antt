use Rattle.std.proofs.Common.{List, ℕ, inl, refl, sym, subst}
use Rattle.cd_gate.specs.Passes.{view}
use Rattle.cd_legal.specs.Legal.{state_at}
use Rattle.cd_wire.specs.Requests.{Tail}
use Rattle.cd_wire.proofs.TakingLemmas.{nothing_no_request}
use Rattle.cd_session.specs.declared.cause.Cause.TheVariants as cause
use Rattle.cd_session.specs.Reading.{ReadsOn}
use Rattle.cd_serve.specs.Connections.{IsTail}
use Rattle.cd_serve.specs.Meanings.{Meaning}
use Rattle.cd_serve.proofs.Guarded.{step-kept, step-keeps-up}
use Rattle.cd_serve.proofs.Stepping.{reads-on, over-clean, over-cut, over-refuse, over-reading, ends-as}
use Rattle.cd_serve.proofs.means.Means.serve_next.Goals as goal

pub returns-in-Ok-Request-clause-steps : goal.returns-in-Ok-Request-clause-steps
returns-in-Ok-Request-clause-steps g c v first going =
    let begins = rw c.in-Ok-Request.field-0-is at c.in-Ok-Request.ensures.found in
    c.after_request.ensures.steps (record { acts = g.M.ModuleSet.acts; plan = g.M.ModuleSet.plan }) c.args.self.now.at.now c.in-Ok-Request.request v (view c.args.pass.now) (view c.serve_request-how.new.pass) first (g.L.Lane.past c.args.lane.now) c.args.session.now.intake going begins c.serve_request-how.ensures.served c.serve_request-how.ensures.worn

pub returns-in-Ok-More-clause-steps : goal.returns-in-Ok-More-clause-steps
returns-in-Ok-More-clause-steps g c v first going =
    let session = c.args.session.now in
    let found = rw c.in-Ok-More.field-0-is at c.in-Ok-More.ensures.found in
    reads-on (record { acts = g.M.ModuleSet.acts; plan = g.M.ModuleSet.plan }) c.args.self.now.at.now session.intake session.ended session.answered v (view c.args.pass.now) first (g.L.Lane.past c.args.lane.now) going
    c.read_more.result c.read_more.new.session.intake c.read_more.new.session.ended c.read_more.new.session.answered (g.L.Lane.past c.read_more.new.lane) found.1
    (subst (λ (left : List ℕ). ReadsOn c.read_more.result left c.read_more.new.session.intake session.ended c.read_more.new.session.ended session.answered c.read_more.new.session.answered (g.L.Lane.past c.args.lane.now) (g.L.Lane.past c.read_more.new.lane)) found.0 c.read_more.ensures.reads)

pub returns-in-Ok-End-clause-steps : goal.returns-in-Ok-End-clause-steps
returns-in-Ok-End-clause-steps g c v first going =
    let m : Meaning = record { acts = g.M.ModuleSet.acts; plan = g.M.ModuleSet.plan } in
    let session = c.args.session.now in
    let past = g.L.Lane.past c.args.lane.now in
    let found = rw c.in-Ok-End.field-0-is at c.in-Ok-End.ensures.found in
    let tail : IsTail session.intake session.ended Tail.clean = subst (λ (l : List ℕ). IsTail l session.ended Tail.clean) (sym found.2) (nothing_no_request, (found.1, refl)) in
    ends-as m c.args.self.now.at.now cause.Whole session.answered v (view c.args.pass.now) first past c.end.result c.end.ensures
    (over-clean m c.args.self.now.at.now session.intake session.ended session.answered v (view c.args.pass.now) first past going tail)

pub returns-in-Ok-Cut-clause-steps : goal.returns-in-Ok-Cut-clause-steps
returns-in-Ok-Cut-clause-steps g c v first going =
    let m : Meaning = record { acts = g.M.ModuleSet.acts; plan = g.M.ModuleSet.plan } in
    let session = c.args.session.now in
    let past = g.L.Lane.past c.args.lane.now in
    let found = rw c.in-Ok-Cut.field-0-is at c.in-Ok-Cut.ensures.found in
    ends-as m c.args.self.now.at.now cause.Whole session.answered v (view c.args.pass.now) first past c.end-in-Ok-Cut.result c.end-in-Ok-Cut.ensures
    (over-cut m c.args.self.now.at.now session.intake session.ended session.answered v (view c.args.pass.now) first past going (found.2, (found.1, found.3)))

pub returns-in-Ok-Refused-clause-steps : goal.returns-in-Ok-Refused-clause-steps
returns-in-Ok-Refused-clause-steps g c v first going =
    let m : Meaning = record { acts = g.M.ModuleSet.acts; plan = g.M.ModuleSet.plan } in
    let session = c.args.session.now in
    let found = rw c.in-Ok-Refused.field-0-is at c.in-Ok-Refused.ensures.found in
    over-refuse m c.args.self.now.at.now session.intake session.ended session.answered v (view c.args.pass.now) first (g.L.Lane.past c.args.lane.now) going c.in-Ok-Refused.fault c.refuse.result (g.L.Lane.past c.refuse.new.lane) (found.1, found.2)
    c.refuse.ensures.refused

pub returns-in-Ok-Refused-clause-halted : goal.returns-in-Ok-Refused-clause-halted
returns-in-Ok-Refused-clause-halted g c = c.refuse.ensures.halted (state_at (view c.args.pass.now).seen).halted

pub returns-in-Err-clause-steps : goal.returns-in-Err-clause-steps
returns-in-Err-clause-steps g c v first going =
    let m : Meaning = record { acts = g.M.ModuleSet.acts; plan = g.M.ModuleSet.plan } in
    let session = c.args.session.now in
    let past = g.L.Lane.past c.args.lane.now in
    ends-as m c.args.self.now.at.now cause.Lacking session.answered v (view c.args.pass.now) first past c.end-in-Err.result c.end-in-Err.ensures
    (over-reading m c.args.self.now.at.now session.intake session.ended session.answered v (view c.args.pass.now) first past going cause.Lacking (refl, refl))

pub returns-in-Ok-Request-clause-keeps_up : goal.returns-in-Ok-Request-clause-keeps_up
returns-in-Ok-Request-clause-keeps_up g c since v first came going kept =
    let session = c.args.session.now in
    step-keeps-up (record { acts = g.M.ModuleSet.acts; plan = g.M.ModuleSet.plan }) c.args.self.now.at.now since session.intake session.ended session.answered v (view c.args.pass.now) first (g.L.Lane.past c.args.lane.now) going kept
    c.serve_request-how.result c.after_request.result (view c.serve_request-how.new.pass) (g.L.Lane.past c.serve_request-how.new.lane) (g.L.Lane.past c.after_request.new.lane) (c.serve_request-how.ensures.keeps_up since came) c.after_request.ensures.unanswered

pub returns-in-Ok-More-clause-keeps_up : goal.returns-in-Ok-More-clause-keeps_up
returns-in-Ok-More-clause-keeps_up g c since v first came going kept = step-kept since c.read_more.result v (view c.args.pass.now) first (g.L.Lane.past c.read_more.new.lane) kept

pub returns-in-Ok-End-clause-keeps_up : goal.returns-in-Ok-End-clause-keeps_up
returns-in-Ok-End-clause-keeps_up g c since v first came going kept = inl kept

pub returns-in-Ok-Cut-clause-keeps_up : goal.returns-in-Ok-Cut-clause-keeps_up
returns-in-Ok-Cut-clause-keeps_up g c since v first came going kept = inl kept

pub returns-in-Ok-Refused-clause-keeps_up : goal.returns-in-Ok-Refused-clause-keeps_up
returns-in-Ok-Refused-clause-keeps_up g c since v first came going kept = inl kept

pub returns-in-Err-clause-keeps_up : goal.returns-in-Err-clause-keeps_up
returns-in-Err-clause-keeps_up g c since v first came going kept = inl kept
