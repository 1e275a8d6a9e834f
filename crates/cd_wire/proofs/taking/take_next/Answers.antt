use Rattle.std.proofs.Common.{subst, ap, ◌∙◌, refl, arith}
use Rattle.cd_wire.specs.declared.bodies.BodyRead.{BodyRead}
use Rattle.cd_wire.specs.declared.request.Request.{Request}
use Rattle.cd_wire.specs.declared.taking.Known.{Known}
use Rattle.cd_wire.specs.declared.taking.Known.TheVariants as known
use Rattle.cd_wire.specs.Reading.{IsBodyRead}
use Rattle.cd_wire.specs.Taking.{IsKept}
use Rattle.cd_wire.proofs.TakingLemmas.{next_whole, next_going, next_refused, same_front, nothing_read}
use Rattle.cd_wire.proofs.taking.take_next.Goals as goal

-- the body came whole
pub returns-in-Ok-Whole : goal.returns-in-Ok-Whole
returns-in-Ok-Whole c before kept =
    let f = subst (λ (k : Known). IsKept before c.args.bytes.now k) c.in-Front.is kept in
    let front = c.in-Front.front in
    let new = c.read_on.new.front in
    let r = subst (λ (r : BodyRead). IsBodyRead front.body c.args.bytes.now new.body r) c.in-Ok-Whole.field-0-is c.in-Ok-Whole.ensures.ok in
    let request = c.take_out.ensures.request new refl
    ∙ ap (λ (q : Request). record q { body = c.in-Ok-Whole.found }) c.in-Ok-Whole.ensures.request in
    next_whole before c.args.bytes.now c.in-Ok-Whole.len c.args.ended c.take_out.new.known front new.body c.in-Ok-Whole.found
    c.take_out.result f r request c.take_out.ensures.known

-- it goes on
pub returns-in-Ok-Going : goal.returns-in-Ok-Going
returns-in-Ok-Going c before kept =
    let f = subst (λ (k : Known). IsKept before c.args.bytes.now k) c.in-Front.is kept in
    let front = c.in-Front.front in
    let new = c.read_on.new.front in
    let r = subst (λ (r : BodyRead). IsBodyRead front.body c.args.bytes.now new.body r) c.in-Ok-Going.field-0-is c.in-Ok-Going.ensures.ok in
    next_going before c.args.bytes.now c.in-Ok-Going.len c.args.ended front new c.cut_or_more.result f c.in-Ok-Going.ensures.request
    r c.cut_or_more.ensures

-- it is refused
pub returns-in-Ok-Refused : goal.returns-in-Ok-Refused
returns-in-Ok-Refused c before kept =
    let f = subst (λ (k : Known). IsKept before c.args.bytes.now k) c.in-Front.is kept in
    let front = c.in-Front.front in
    let new = c.read_on.new.front in
    let r = subst (λ (r : BodyRead). IsBodyRead front.body c.args.bytes.now new.body r) c.in-Ok-Refused.field-0-is c.in-Ok-Refused.ensures.ok in
    next_refused before c.args.bytes.now c.args.ended front new c.in-Ok-Refused.fault f c.in-Ok-Refused.ensures.request r

-- out of memory
pub returns-in-Err : goal.returns-in-Err
returns-in-Err c before kept =
    let f = subst (λ (k : Known). IsKept before c.args.bytes.now k) c.in-Front.is kept in
    let front = c.in-Front.front in
    let new = c.read_on.new.front in (
      omega arith,
      tt,
      nothing_read before c.args.bytes.now (known.Front new) (same_front before front new f c.in-Err.ensures.request c.in-Err.ensures.err),
    )
