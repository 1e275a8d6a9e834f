use Rattle.std.proofs.Common.{◌++◌, ℕ, List, IfOk, length, take, drop, subst, sym, ap, ◌∙◌, arith, length-drop}
use Rattle.std.proofs.lemmas.List.{drop-drop}
use Rattle.cd_wire.specs.declared.taking.Taken.TheVariants as taken
use Rattle.cd_wire.specs.Intake.{IsNext}
use Rattle.cd_wire.specs.Requests.{BeginsRequest}
use Rattle.cd_wire.specs.Taking.{IsKept}
use Rattle.cd_wire.proofs.KeptLemmas.{taken_here, read_on, after_error}
use Rattle.cd_wire.proofs.intake.Intake.next.Goals as goal

pub take_request-requires : goal.take_request-requires
take_request-requires c =
    let i = c.self.inside in
    let is = c.rest_from-rest.ensures ∙ ap (drop i.start) c.as_slice.ensures.value in
    (i.dropped.bytes, subst (λ (r : List ℕ). IsKept i.dropped.bytes r i.known) (sym is) c.self.invariant.1)

pub overflow_add-self-inside-in-None : goal.overflow_add-self-inside-in-None
overflow_add-self-inside-in-None c =
    let i = c.self.inside in
    let left = drop i.start i.buffer.items in
    let is = c.rest_from-rest.ensures ∙ ap (drop i.start) c.as_slice.ensures.value in
    let t = taken_here i.dropped.bytes left c.rest_from-rest.result.now c.args.ended i.known c.take_request.new.known
    (taken.None c.in-None.pause c.in-None.len) c.self.invariant.1 is c.in-None.ensures in
    let half = c.self.invariant.0 in
    record { fits = omega (arith, t.0, length-drop i.start i.buffer.items, half, ap length c.as_slice.ensures.value) }

pub drop_read-self-inside-requires-in-None : goal.drop_read-self-inside-requires-in-None
drop_read-self-inside-requires-in-None c =
    let i = c.self.inside in
    let left = drop i.start i.buffer.items in
    let is = c.rest_from-rest.ensures ∙ ap (drop i.start) c.as_slice.ensures.value in
    let t = taken_here i.dropped.bytes left c.rest_from-rest.result.now c.args.ended i.known c.take_request.new.known
    (taken.None c.in-None.pause c.in-None.len) c.self.invariant.1 is c.in-None.ensures in
    let half = c.self.invariant.0 in
    omega (arith, t.0, length-drop i.start i.buffer.items, half)

-- bytes that were read, and are not kept
pub invariant_of-self-in-None : goal.invariant_of-self-in-None
invariant_of-self-in-None c =
    let i = c.self.inside in
    let left = drop i.start i.buffer.items in
    let is = c.rest_from-rest.ensures ∙ ap (drop i.start) c.as_slice.ensures.value in
    let t = taken_here i.dropped.bytes left c.rest_from-rest.result.now c.args.ended i.known c.take_request.new.known
    (taken.None c.in-None.pause c.in-None.len) c.self.invariant.1 is c.in-None.ensures in
    let gone = c.and-self-inside.ensures ∙ ap (λ (b : List ℕ). i.dropped.bytes ++ b) (c.front_of.ensures.value ∙ ap (take c.in-None.len) is) in
    let on = read_on i.dropped.bytes i.buffer.items c.drop_read-self-inside-in-None.new.buffer.items c.and-self-inside.result.bytes
    i.start c.in-None.len c.drop_read-self-inside-in-None.result gone c.drop_read-self-inside-in-None.ensures.rest in (
      c.drop_read-self-inside-in-None.ensures.half,
      subst (λ (r : List ℕ). IsKept c.and-self-inside.result.bytes r c.take_request.new.known) (sym on.0)
          (subst (λ (b : List ℕ). IsKept b (drop c.in-None.len left) c.take_request.new.known) (sym gone) t.2),
    )

-- a request was taken
pub returns-in-Request-clause-found : goal.returns-in-Request-clause-found
returns-in-Request-clause-found c =
    let i = c.self.inside in
    let left = drop i.start i.buffer.items in
    let is = c.rest_from-rest.ensures ∙ ap (drop i.start) c.as_slice.ensures.value in
    let t = taken_here i.dropped.bytes left c.rest_from-rest.result.now c.args.ended i.known c.take_request.new.known
    (taken.Request c.in-Request.request c.in-Request.len) c.self.invariant.1 is c.in-Request.ensures in
    let rest = c.drop_read-self-inside.ensures.rest ∙ sym (drop-drop c.in-Request.len i.start i.buffer.items) in
    subst (λ (r : List ℕ). BeginsRequest c.args.self.now c.in-Request.request r)
    (sym (ap (λ (b : List ℕ). b ++ drop c.drop_read-self-inside.result c.drop_read-self-inside.new.buffer.items) c.none-self-inside.ensures ∙ rest))
    (subst (λ (input : List ℕ). BeginsRequest input c.in-Request.request (drop c.in-Request.len left)) c.self.view_is t.1)

-- none was
pub returns-in-None-clause-found : goal.returns-in-None-clause-found
returns-in-None-clause-found c =
    let i = c.self.inside in
    let left = drop i.start i.buffer.items in
    let is = c.rest_from-rest.ensures ∙ ap (drop i.start) c.as_slice.ensures.value in
    let t = taken_here i.dropped.bytes left c.rest_from-rest.result.now c.args.ended i.known c.take_request.new.known
    (taken.None c.in-None.pause c.in-None.len) c.self.invariant.1 is c.in-None.ensures in
    let gone = c.and-self-inside.ensures ∙ ap (λ (b : List ℕ). i.dropped.bytes ++ b) (c.front_of.ensures.value ∙ ap (take c.in-None.len) is) in
    let on = read_on i.dropped.bytes i.buffer.items c.drop_read-self-inside-in-None.new.buffer.items c.and-self-inside.result.bytes
    i.start c.in-None.len c.drop_read-self-inside-in-None.result gone c.drop_read-self-inside-in-None.ensures.rest in
    let found = c.answer.ensures (i.dropped.bytes ++ left) c.args.ended t.1 in
    subst (λ (new : List ℕ). IfOk c.answer.result (IsNext c.args.self.now c.args.ended new)) (sym (on.1 ∙ c.self.view_is))
    (subst (λ (input : List ℕ). IfOk c.answer.result (IsNext input c.args.ended input)) c.self.view_is found)

pub returns-in-None-clause-err : goal.returns-in-None-clause-err
returns-in-None-clause-err c =
    let i = c.self.inside in
    let is = c.rest_from-rest.ensures ∙ ap (drop i.start) c.as_slice.ensures.value in
    let gone = c.and-self-inside.ensures ∙ ap (λ (b : List ℕ). i.dropped.bytes ++ b) (c.front_of.ensures.value ∙ ap (take c.in-None.len) is) in
    let on = read_on i.dropped.bytes i.buffer.items c.drop_read-self-inside-in-None.new.buffer.items c.and-self-inside.result.bytes
    i.start c.in-None.len c.drop_read-self-inside-in-None.result gone c.drop_read-self-inside-in-None.ensures.rest in
    after_error c.answer.result _ _ (on.1 ∙ c.self.view_is)
