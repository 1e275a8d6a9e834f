use Rattle.std.proofs.Common.{◌≡◌, ◌+◌, ◌∙◌, ap, sym, arith}
use Rattle.std.specs.Prelude.{None, Some}
use Rattle.std.specs.Option.{option_copied}
use Rattle.cd_routes.specs.Invoking.{route_named}
use Rattle.cd_routes.specs.Named.{named_routes}
use Rattle.cd_routes.specs.Running.{run_route}
use Rattle.cd_routes.specs.Work.{done, weight, route_weight, named_weights}
use Rattle.cd_routes.proofs.NamedMeaning.{named_none, named_some, weight_some}
use Rattle.cd_routes.proofs.Pushes.{told_at, left_at}
use Rattle.cd_routes.proofs.running.invoke.Goals as goal

pub returns-in-None-clause-meaning : goal.returns-in-None-clause-meaning
returns-in-None-clause-meaning c =
    named_none c.args.named.now c.args.name.now (done (named_routes c.args.named.now) c.args.rest.items) c.args.scene c.requires (sym c.route_named.ensures ∙ ap option_copied c.in-None.is)

pub returns-in-Some-clause-meaning : goal.returns-in-Some-clause-meaning
returns-in-Some-clause-meaning c =
    told_at c.on_route.result (named_routes c.args.named.now) (λ n. run_route n c.in-Some.found.now.route (done n c.args.rest.items) c.args.scene) _
    (named_some c.args.named.now c.args.name.now c.in-Some.found.now (done (named_routes c.args.named.now) c.args.rest.items) c.args.scene c.requires (sym c.route_named.ensures ∙ ap option_copied c.in-Some.is))
    c.on_route.ensures.meaning

pub returns-in-Some-clause-less : goal.returns-in-Some-clause-less
returns-in-Some-clause-less c =
    left_at c.on_route.result (named_weights c.args.named.now) (λ w. weight w c.args.rest.items + route_weight w c.in-Some.found.now.route) _
    (omega (arith, weight_some c.args.named.now c.args.name.now c.in-Some.found.now c.requires (sym c.route_named.ensures ∙ ap option_copied c.in-Some.is)))
    c.on_route.ensures.less
