use Rattle.std.proofs.Common.{◌++◌, ℕ, List, IfOk, length, take, drop, subst, sym, ap, ◌∙◌, arith}
use Rattle.cd_proxy.specs.Intake.{ResponseInput, IsLeft}
use Rattle.cd_proxy.specs.Responses.{IsReading}
use Rattle.cd_proxy.specs.Taking.{IsKept}
use Rattle.cd_proxy.proofs.IntakeLemmas.{none_taken, read_on, after_error}
use Rattle.cd_proxy.proofs.intake.ResponseIntake.next.Goals as goal

pub overflow_add-self-inside-in-None : goal.overflow_add-self-inside-in-None
overflow_add-self-inside-in-None c =
    let i = c.self.inside in
    let is = c.rest_from-rest.ensures ∙ ap (drop i.start) c.as_slice.ensures.value in
    let t = none_taken i.to_head i.dropped.bytes i.buffer.items i.start c.rest_from-rest.result.now c.args.ended i.known c.take_response.new.known c.in-None.pause c.in-None.len c.self.invariant is c.in-None.ensures in
    record { fits = omega (arith, t.0, ap length c.as_slice.ensures.value) }

pub drop_read-self-inside-requires-in-None : goal.drop_read-self-inside-requires-in-None
drop_read-self-inside-requires-in-None c =
    let i = c.self.inside in
    let is = c.rest_from-rest.ensures ∙ ap (drop i.start) c.as_slice.ensures.value in
    let t = none_taken i.to_head i.dropped.bytes i.buffer.items i.start c.rest_from-rest.result.now c.args.ended i.known c.take_response.new.known c.in-None.pause c.in-None.len c.self.invariant is c.in-None.ensures in
    omega (arith, t.0)

-- bytes that were read, and are not kept
pub invariant_of-self-in-None : goal.invariant_of-self-in-None
invariant_of-self-in-None c =
    let i = c.self.inside in
    let is = c.rest_from-rest.ensures ∙ ap (drop i.start) c.as_slice.ensures.value in
    let t = none_taken i.to_head i.dropped.bytes i.buffer.items i.start c.rest_from-rest.result.now c.args.ended i.known c.take_response.new.known c.in-None.pause c.in-None.len c.self.invariant is c.in-None.ensures in
    let gone = c.and-self-inside.ensures ∙ ap (λ (b : List ℕ). i.dropped.bytes ++ b) (c.front_of.ensures.value ∙ ap (take c.in-None.len) is) in (
      c.drop_read-self-inside-in-None.ensures.half,
      subst (λ (b : List ℕ). IsKept i.to_head b c.take_response.new.known) (sym gone) t.2,
    )

-- none was
pub returns-in-None-clause-found : goal.returns-in-None-clause-found
returns-in-None-clause-found c =
    let i = c.self.inside in
    let is = c.rest_from-rest.ensures ∙ ap (drop i.start) c.as_slice.ensures.value in
    let t = none_taken i.to_head i.dropped.bytes i.buffer.items i.start c.rest_from-rest.result.now c.args.ended i.known c.take_response.new.known c.in-None.pause c.in-None.len c.self.invariant is c.in-None.ensures in
    subst (λ (v : ResponseInput). IfOk c.answer.result (IsReading v.bytes c.args.ended v.to_head)) c.self.view_is
    (c.answer.ensures.reading (i.dropped.bytes ++ drop i.start i.buffer.items) c.args.ended i.to_head t.1)

pub returns-in-None-clause-left : goal.returns-in-None-clause-left
returns-in-None-clause-left c =
    let i = c.self.inside in
    let is = c.rest_from-rest.ensures ∙ ap (drop i.start) c.as_slice.ensures.value in
    let gone = c.and-self-inside.ensures ∙ ap (λ (b : List ℕ). i.dropped.bytes ++ b) (c.front_of.ensures.value ∙ ap (take c.in-None.len) is) in
    let same = read_on i.dropped.bytes i.buffer.items c.drop_read-self-inside-in-None.new.buffer.items c.and-self-inside.result.bytes
    i.start c.in-None.len c.drop_read-self-inside-in-None.result gone c.drop_read-self-inside-in-None.ensures.rest in
    subst (λ (new : ResponseInput). IfOk c.answer.result (IsLeft c.args.self.now c.args.ended new))
    (sym (ap (λ (b : List ℕ). record { to_head = i.to_head; bytes = b }) same ∙ c.self.view_is))
    (c.answer.ensures.left c.args.self.now c.args.ended)

pub returns-in-None-clause-err : goal.returns-in-None-clause-err
returns-in-None-clause-err c =
    let i = c.self.inside in
    let is = c.rest_from-rest.ensures ∙ ap (drop i.start) c.as_slice.ensures.value in
    let gone = c.and-self-inside.ensures ∙ ap (λ (b : List ℕ). i.dropped.bytes ++ b) (c.front_of.ensures.value ∙ ap (take c.in-None.len) is) in
    let same = read_on i.dropped.bytes i.buffer.items c.drop_read-self-inside-in-None.new.buffer.items c.and-self-inside.result.bytes
    i.start c.in-None.len c.drop_read-self-inside-in-None.result gone c.drop_read-self-inside-in-None.ensures.rest in
    after_error c.answer.result _ _ (ap (λ (b : List ℕ). record { to_head = i.to_head; bytes = b }) same ∙ c.self.view_is)
