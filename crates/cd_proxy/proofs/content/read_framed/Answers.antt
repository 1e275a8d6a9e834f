use Rattle.std.proofs.Common.{subst}
use Rattle.cd_wire.specs.declared.bodies.BodyRead.{BodyRead}
use Rattle.cd_wire.specs.Reading.{IsBodyRead}
use Rattle.cd_proxy.proofs.ContentLemmas.{framed_whole, framed_going, framed_refused}
use Rattle.cd_proxy.proofs.content.read_framed.Goals as goal

pub returns-in-Whole-clause-ok : goal.returns-in-Whole-clause-ok
returns-in-Whole-clause-ok c ended =
    let after = c.read_body.new.body in
    framed_whole ended c.args.body.now after c.args.text.now c.in-Whole.found c.in-Whole.len
    (subst (λ (r : BodyRead). IsBodyRead c.args.body.now c.args.text.now after r) c.in-Whole.is c.in_ok-read.ensures.ok)

pub returns-in-Going-clause-ok : goal.returns-in-Going-clause-ok
returns-in-Going-clause-ok c ended =
    let after = c.read_body.new.body in
    framed_going ended c.args.body.now after c.args.text.now c.in-Going.len
    (subst (λ (r : BodyRead). IsBodyRead c.args.body.now c.args.text.now after r) c.in-Going.is c.in_ok-read.ensures.ok)

pub returns-in-Refused-clause-ok : goal.returns-in-Refused-clause-ok
returns-in-Refused-clause-ok c ended =
    let after = c.read_body.new.body in
    framed_refused ended c.args.body.now after c.args.text.now c.in-Refused._fault
    (subst (λ (r : BodyRead). IsBodyRead c.args.body.now c.args.text.now after r) c.in-Refused.is c.in_ok-read.ensures.ok)
