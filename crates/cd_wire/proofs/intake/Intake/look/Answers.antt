use Rattle.std.proofs.Common.{◌++◌, [], ℕ, List, IfOk, length, take, drop, subst, sym, ap, ◌∙◌, arith, length-drop}
use Rattle.cd_wire.specs.declared.taking.Known.{Known}
use Rattle.cd_wire.specs.declared.taking.Taken.TheVariants as taken
use Rattle.cd_wire.specs.Intake.{IsLook}
use Rattle.cd_wire.specs.Requests.{BeginsRequest}
use Rattle.cd_wire.specs.Taking.{IsKept}
use Rattle.cd_wire.proofs.CutLemmas.{request_cut}
use Rattle.cd_wire.proofs.KeptLemmas.{taken_here, read_on}
use Rattle.cd_wire.proofs.RequestLaws.{BeginsRequest-append}
use Rattle.cd_wire.proofs.intake.Intake.look.Goals as goal

-- it was found before
pub returns-in-Whole-clause-found : goal.returns-in-Whole-clause-found
returns-in-Whole-clause-found c =
    let i = c.self.inside in
    let left = drop i.start i.buffer.items in
    let request = c.in-Whole.field-0 in
    let kept = subst (λ (k : Known). IsKept i.dropped.bytes left k) c.in-Whole.is c.self.invariant.1 in
    (request, left, subst (λ (t : List ℕ). BeginsRequest t request left) c.self.view_is (BeginsRequest-append i.dropped.bytes request [] left kept))

pub take_request-requires : goal.take_request-requires
take_request-requires c =
    let i = c.self.inside in
    let is = c.rest_from-rest.ensures ∙ ap (drop i.start) c.as_slice.ensures.value in
    (i.dropped.bytes, subst (λ (r : List ℕ). IsKept i.dropped.bytes r i.known) (sym is) c.self.invariant.1)

-- a request is whole
pub invariant_of-self : goal.invariant_of-self
invariant_of-self c =
    let i = c.self.inside in
    let left = drop i.start i.buffer.items in
    let request = c.in-Request.request in
    let is = c.rest_from-rest.ensures ∙ ap (drop i.start) c.as_slice.ensures.value in
    let t = taken_here i.dropped.bytes left c.rest_from-rest.result.now c.args.ended i.known c.take_request.new.known
    (taken.Request request c.in-Request.len) c.self.invariant.1 is c.in-Request.ensures in
    let gone = c.and-self-inside.ensures ∙ ap (λ (b : List ℕ). i.dropped.bytes ++ b) (c.front_of.ensures.value ∙ ap (take c.in-Request.len) is) in
    let rest = drop c.drop_read-self-inside.result c.drop_read-self-inside.new.buffer.items in
    let on = read_on i.dropped.bytes i.buffer.items c.drop_read-self-inside.new.buffer.items c.and-self-inside.result.bytes
    i.start c.in-Request.len c.drop_read-self-inside.result gone c.drop_read-self-inside.ensures.rest in (
      c.drop_read-self-inside.ensures.half,
      request_cut c.and-self-inside.result.bytes rest request
          (subst (λ (b : List ℕ). BeginsRequest b request rest) (sym on.1)
          (subst (λ (r : List ℕ). BeginsRequest (i.dropped.bytes ++ left) request r) (sym on.0) t.1)),
    )

pub returns-in-Request-clause-found : goal.returns-in-Request-clause-found
returns-in-Request-clause-found c =
    let i = c.self.inside in
    let left = drop i.start i.buffer.items in
    let request = c.in-Request.request in
    let is = c.rest_from-rest.ensures ∙ ap (drop i.start) c.as_slice.ensures.value in
    let t = taken_here i.dropped.bytes left c.rest_from-rest.result.now c.args.ended i.known c.take_request.new.known
    (taken.Request request c.in-Request.len) c.self.invariant.1 is c.in-Request.ensures in (
      request,
      drop c.in-Request.len left,
      subst (λ (input : List ℕ). BeginsRequest input request (drop c.in-Request.len left)) c.self.view_is t.1,
    )

pub returns-in-Request-clause-same : goal.returns-in-Request-clause-same
returns-in-Request-clause-same c =
    let i = c.self.inside in
    let is = c.rest_from-rest.ensures ∙ ap (drop i.start) c.as_slice.ensures.value in
    let gone = c.and-self-inside.ensures ∙ ap (λ (b : List ℕ). i.dropped.bytes ++ b) (c.front_of.ensures.value ∙ ap (take c.in-Request.len) is) in
    let on = read_on i.dropped.bytes i.buffer.items c.drop_read-self-inside.new.buffer.items c.and-self-inside.result.bytes
    i.start c.in-Request.len c.drop_read-self-inside.result gone c.drop_read-self-inside.ensures.rest in
    on.1 ∙ c.self.view_is

-- none is
pub overflow_add-self-inside-in-None : goal.overflow_add-self-inside-in-None
overflow_add-self-inside-in-None c =
    let i = c.self.inside in
    let left = drop i.start i.buffer.items in
    let is = c.rest_from-rest.ensures ∙ ap (drop i.start) c.as_slice.ensures.value in
    let t = taken_here i.dropped.bytes left c.rest_from-rest.result.now c.args.ended i.known c.take_request.new.known
    (taken.None c.in-None.pause c.in-None.len) c.self.invariant.1 is c.in-None.ensures in
    let half = c.self.invariant.0 in
    record { fits = omega (arith, t.0, length-drop i.start i.buffer.items, half, ap length c.as_slice.ensures.value) }

pub drop_read-self-inside-requires-in-None : goal.drop_read-self-inside-requires-in-None
drop_read-self-inside-requires-in-None c =
    let i = c.self.inside in
    let left = drop i.start i.buffer.items in
    let is = c.rest_from-rest.ensures ∙ ap (drop i.start) c.as_slice.ensures.value in
    let t = taken_here i.dropped.bytes left c.rest_from-rest.result.now c.args.ended i.known c.take_request.new.known
    (taken.None c.in-None.pause c.in-None.len) c.self.invariant.1 is c.in-None.ensures in
    let half = c.self.invariant.0 in
    omega (arith, t.0, length-drop i.start i.buffer.items, half)

pub invariant_of-self-in-None : goal.invariant_of-self-in-None
invariant_of-self-in-None c =
    let i = c.self.inside in
    let left = drop i.start i.buffer.items in
    let is = c.rest_from-rest.ensures ∙ ap (drop i.start) c.as_slice.ensures.value in
    let t = taken_here i.dropped.bytes left c.rest_from-rest.result.now c.args.ended i.known c.take_request.new.known
    (taken.None c.in-None.pause c.in-None.len) c.self.invariant.1 is c.in-None.ensures in
    let gone = c.and-self-inside-in-None.ensures ∙ ap (λ (b : List ℕ). i.dropped.bytes ++ b) (c.front_of-in-None.ensures.value ∙ ap (take c.in-None.len) is) in
    let on = read_on i.dropped.bytes i.buffer.items c.drop_read-self-inside-in-None.new.buffer.items c.and-self-inside-in-None.result.bytes
    i.start c.in-None.len c.drop_read-self-inside-in-None.result gone c.drop_read-self-inside-in-None.ensures.rest in (
      c.drop_read-self-inside-in-None.ensures.half,
      subst (λ (r : List ℕ). IsKept c.and-self-inside-in-None.result.bytes r c.take_request.new.known) (sym on.0)
          (subst (λ (b : List ℕ). IsKept b (drop c.in-None.len left) c.take_request.new.known) (sym gone) t.2),
    )

pub returns-in-None-clause-found : goal.returns-in-None-clause-found
returns-in-None-clause-found c =
    let i = c.self.inside in
    let left = drop i.start i.buffer.items in
    let is = c.rest_from-rest.ensures ∙ ap (drop i.start) c.as_slice.ensures.value in
    let t = taken_here i.dropped.bytes left c.rest_from-rest.result.now c.args.ended i.known c.take_request.new.known
    (taken.None c.in-None.pause c.in-None.len) c.self.invariant.1 is c.in-None.ensures in
    subst (λ (input : List ℕ). IfOk c.seen.result (IsLook input c.args.ended)) c.self.view_is
    (c.seen.ensures (i.dropped.bytes ++ left) c.args.ended t.1)

pub returns-in-None-clause-same : goal.returns-in-None-clause-same
returns-in-None-clause-same c =
    let i = c.self.inside in
    let is = c.rest_from-rest.ensures ∙ ap (drop i.start) c.as_slice.ensures.value in
    let gone = c.and-self-inside-in-None.ensures ∙ ap (λ (b : List ℕ). i.dropped.bytes ++ b) (c.front_of-in-None.ensures.value ∙ ap (take c.in-None.len) is) in
    let on = read_on i.dropped.bytes i.buffer.items c.drop_read-self-inside-in-None.new.buffer.items c.and-self-inside-in-None.result.bytes
    i.start c.in-None.len c.drop_read-self-inside-in-None.result gone c.drop_read-self-inside-in-None.ensures.rest in
    on.1 ∙ c.self.view_is
