use Rattle.std.proofs.Common.{◌∙◌, arith}
use Rattle.cd_chain.proofs.Goings.{route_goes, route_steps}
use Rattle.cd_chain.proofs.stepping.over_routes.Goals as goal

pub loop-matching-smaller : goal.loop-matching-smaller
loop-matching-smaller c =
    let ps = c.args.places.now in
    omega (
      arith,
      c.skip-n-in-Some-Route.ensures.less 0,
      c.in_ok-next.ensures.less ps 0,
      route_steps ps c.loop-matching.n _ _ c.earlier-inside.result c.earlier-otherwise.result 0 _ _ _ c.in-Some-Route.field-0.now
          c.in-Some-Route.field-0-is c.in-Some-Route.ensures.steps
          (c.earlier-inside.ensures.steps ps c.in-Some-Route.ensures.meaning.1) (c.earlier-otherwise.ensures.steps ps c.in-Some-Route.ensures.meaning.1),
    )

pub loop-matching-preserved : goal.loop-matching-preserved
loop-matching-preserved c =
    let ps = c.args.places.now in
    record {
      meaning = λ back.
          c.skip-n-in-Some-Route.ensures.meaning back
          ∙ route_goes ps c.loop-matching.n _ _ c.earlier-inside.result c.earlier-otherwise.result c.in_ok-next.next _ _ _ c.in-Some-Route.field-0.now
          back c.loop-matching.scene c.choose.new.scene c.in-Some-Route.field-0-is c.in-Some-Route.ensures.meaning.2
          (c.earlier-inside.ensures.meaning ps c.in-Some-Route.ensures.meaning.1) (c.earlier-otherwise.ensures.meaning ps c.in-Some-Route.ensures.meaning.1)
          (c.in_ok-next.ensures.meaning ps back)
          ∙ c.loop-matching.invariant.meaning back;
      less = λ back. omega (
        arith,
        c.loop-matching.invariant.less back,
        c.skip-n-in-Some-Route.ensures.less back,
        c.in_ok-next.ensures.less ps back,
        route_steps ps c.loop-matching.n _ _ c.earlier-inside.result c.earlier-otherwise.result back _ _ _ c.in-Some-Route.field-0.now
            c.in-Some-Route.field-0-is c.in-Some-Route.ensures.steps
            (c.earlier-inside.ensures.steps ps c.in-Some-Route.ensures.meaning.1) (c.earlier-otherwise.ensures.steps ps c.in-Some-Route.ensures.meaning.1),
      );
    }

pub loop-matching-init : goal.loop-matching-init
loop-matching-init c = record { meaning = c.skip-n.ensures.meaning; less = c.skip-n.ensures.less }
