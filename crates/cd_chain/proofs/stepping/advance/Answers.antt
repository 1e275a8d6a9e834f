use Rattle.std.proofs.Common.{ap, ◌∙◌, arith}
use Rattle.cd_chain.specs.declared.place.ErrorRoutes.{ErrorRoutes}
use Rattle.cd_chain.specs.Places.{returning}
use Rattle.cd_chain.specs.Steps.{returning_steps}
use Rattle.cd_chain.specs.Frames.{unwound}
use Rattle.cd_chain.proofs.Goings.{handler_steps, route_goes, route_steps, try_goes, try_steps, invoke_steps}
use Rattle.cd_chain.proofs.stepping.advance.Goals as goal

pub returns-in_ok-progress-in-Some-Handler-clause-less :
    goal.returns-in_ok-progress-in-Some-Handler-clause-less
returns-in_ok-progress-in-Some-Handler-clause-less c =
    let ps = c.args.places.now in
    let b = returning_steps ps c.args.returns.now in
    omega (
      arith,
      c.in_ok-progress-in-Some-Handler.ensures.less ps c.args.returns.now,
      handler_steps ps c.args.n _ c.earlier-next.result b _ c.in-Some-Handler.field-0.now c.in-Some-Handler.field-0-is
          c.in-Some-Handler.ensures.steps (c.earlier-next.ensures.steps ps c.in-Some-Handler.ensures.meaning.1),
    )

pub returns-in_ok-next-in-Some-Route-clause-meaning :
    goal.returns-in_ok-next-in-Some-Route-clause-meaning
returns-in_ok-next-in-Some-Route-clause-meaning c =
    let ps = c.args.places.now in
    ap (unwound ps c.args.frames.now)
    (c.in_ok-next-in-Some-Route.ensures.meaning (returning ps c.args.returns.now)
    ∙ route_goes ps c.args.n _ _ c.earlier-inside.result c.earlier-otherwise.result c.in_ok-chosen-in-Some-Route.chosen _ _ _ c.in-Some-Route.field-0.now
    (returning ps c.args.returns.now) c.args.scene.now c.choose.new.scene c.in-Some-Route.field-0-is c.in-Some-Route.ensures.meaning.2
    (c.earlier-inside.ensures.meaning ps c.in-Some-Route.ensures.meaning.1) (c.earlier-otherwise.ensures.meaning ps c.in-Some-Route.ensures.meaning.1)
    (c.in_ok-chosen-in-Some-Route.ensures.meaning ps (returning ps c.args.returns.now)))

pub returns-in_ok-next-in-Some-Route-clause-less :
    goal.returns-in_ok-next-in-Some-Route-clause-less
returns-in_ok-next-in-Some-Route-clause-less c =
    let ps = c.args.places.now in
    let b = returning_steps ps c.args.returns.now in
    omega (
      arith,
      c.in_ok-next-in-Some-Route.ensures.less b,
      c.in_ok-chosen-in-Some-Route.ensures.less ps b,
      route_steps ps c.args.n _ _ c.earlier-inside.result c.earlier-otherwise.result b _ _ _ c.in-Some-Route.field-0.now
          c.in-Some-Route.field-0-is c.in-Some-Route.ensures.steps
          (c.earlier-inside.ensures.steps ps c.in-Some-Route.ensures.meaning.1) (c.earlier-otherwise.ensures.steps ps c.in-Some-Route.ensures.meaning.1),
    )

pub returns-in_ok-wait-in-Some-Try-clause-meaning :
    goal.returns-in_ok-wait-in-Some-Try-clause-meaning
returns-in_ok-wait-in-Some-Try-clause-meaning c =
    let ps = c.args.places.now in
    let caught : ErrorRoutes = record { begin = c.earlier-errors.result; returns = c.args.returns.now } in
    try_goes ps c.args.frames.now c.wait.new.frames caught c.args.n _ _ c.earlier-first.result c.in-Some-Try.field-0.now c.args.scene.now
    c.in-Some-Try.field-0-is c.in-Some-Try.ensures.meaning.2
    (c.earlier-first.ensures.meaning ps c.in-Some-Try.ensures.meaning.1) (c.earlier-errors.ensures.meaning ps c.in-Some-Try.ensures.meaning.1)
    c.in_ok-wait-in-Some-Try.ensures

pub returns-in_ok-wait-in-Some-Try-clause-less : goal.returns-in_ok-wait-in-Some-Try-clause-less
returns-in_ok-wait-in-Some-Try-clause-less c =
    let ps = c.args.places.now in
    let caught : ErrorRoutes = record { begin = c.earlier-errors.result; returns = c.args.returns.now } in
    try_steps ps c.args.frames.now c.wait.new.frames caught c.args.n _ _ c.earlier-first.result c.in-Some-Try.field-0.now
    c.in-Some-Try.field-0-is c.in-Some-Try.ensures.steps
    (c.earlier-first.ensures.steps ps c.in-Some-Try.ensures.meaning.1) (c.earlier-errors.ensures.steps ps c.in-Some-Try.ensures.meaning.1)
    c.in_ok-wait-in-Some-Try.ensures

pub returns-in_ok-push-in-Some-Invoke-clause-less :
    goal.returns-in_ok-push-in-Some-Invoke-clause-less
returns-in_ok-push-in-Some-Invoke-clause-less c =
    let ps = c.args.places.now in
    omega (
      arith,
      invoke_steps ps c.args.returns.now c.push.new.self c.args.n _ _ c.earlier-inside-in-Some-Invoke.result c.earlier-next-in-Some-Invoke.result c.in-Some-Invoke.field-0.now
          c.in-Some-Invoke.field-0-is c.in-Some-Invoke.ensures.steps
          (c.earlier-inside-in-Some-Invoke.ensures.steps ps c.in-Some-Invoke.ensures.meaning.1) (c.earlier-next-in-Some-Invoke.ensures.steps ps c.in-Some-Invoke.ensures.meaning.1)
          c.in_ok-push-in-Some-Invoke.ensures.ok,
    )
