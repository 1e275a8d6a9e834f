use Rattle.std.proofs.Common.{subst, ap, ◌∙◌, refl}
use Rattle.cd_wire.specs.declared.answer.Answer.{Answer}
use Rattle.cd_proxy.specs.declared.content.ContentRead.{ContentRead}
use Rattle.cd_proxy.specs.declared.taking.Known.{Known}
use Rattle.cd_proxy.specs.Reading.{IsContentRead}
use Rattle.cd_proxy.specs.Taking.{IsKept}
use Rattle.cd_proxy.proofs.TakingLemmas.{next_whole, next_going, next_refused}
use Rattle.cd_proxy.proofs.taking.take_next.Goals as goal

-- the body came whole
pub returns-in-Ok-Whole : goal.returns-in-Ok-Whole
returns-in-Ok-Whole c before kept =
    let f = subst (λ (k : Known). IsKept c.args.head before k) c.in-Front.is kept in
    let front = c.in-Front.front in
    let new = c.read_on.new.front in
    let r = subst (λ (r : ContentRead). IsContentRead c.args.ended front.content c.args.text.now new.content r) c.in-Ok-Whole.field-0-is c.in-Ok-Whole.ensures.ok in
    let answer = c.take_out.ensures.answer new refl
    ∙ ap (λ (a : Answer). record a { body = c.in-Ok-Whole.body }) c.in-Ok-Whole.ensures.answer in
    next_whole c.args.head before c.args.text.now c.args.ended c.in-Ok-Whole.len front new.content c.in-Ok-Whole.body
    c.take_out.result c.take_out.new.known f r answer (c.take_out.ensures.known c.args.head)

-- it goes on
pub returns-in-Ok-Going : goal.returns-in-Ok-Going
returns-in-Ok-Going c before kept =
    let f = subst (λ (k : Known). IsKept c.args.head before k) c.in-Front.is kept in
    let front = c.in-Front.front in
    let new = c.read_on.new.front in
    let r = subst (λ (r : ContentRead). IsContentRead c.args.ended front.content c.args.text.now new.content r) c.in-Ok-Going.field-0-is c.in-Ok-Going.ensures.ok in
    next_going c.args.head before c.args.text.now c.args.ended c.in-Ok-Going.len front new c.cut.result f c.in-Ok-Going.ensures.answer r
    c.cut.ensures

-- it is refused
pub returns-in-Ok-Refused : goal.returns-in-Ok-Refused
returns-in-Ok-Refused c before kept =
    let f = subst (λ (k : Known). IsKept c.args.head before k) c.in-Front.is kept in
    let front = c.in-Front.front in
    let new = c.read_on.new.front in
    let r = subst (λ (r : ContentRead). IsContentRead c.args.ended front.content c.args.text.now new.content r) c.in-Ok-Refused.field-0-is c.in-Ok-Refused.ensures.ok in
    next_refused c.args.head before c.args.text.now c.args.ended front new f c.in-Ok-Refused.ensures.answer r
