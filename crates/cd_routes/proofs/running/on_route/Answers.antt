use Rattle.std.proofs.Common.{arith, rules, sym}
use Rattle.cd_routes.specs.Work.{done}
use Rattle.cd_routes.proofs.Equations.{route_skipped, route_entered, route_weight_some}
use Rattle.cd_routes.proofs.Pushes.{told_same}
use Rattle.cd_routes.proofs.running.on_route.Goals as goal

pub returns-then-not-enters-clause-meaning : goal.returns-then-not-enters-clause-meaning
returns-then-not-enters-clause-meaning c = λ named. sym (route_skipped named c.args.route.now (done named c.args.rest.items) c.args.scene (search rules))

pub returns-then-not-enters-clause-less : goal.returns-then-not-enters-clause-less
returns-then-not-enters-clause-less c = λ w. omega (arith, route_weight_some w c.args.route.now)

pub returns-clause-meaning : goal.returns-clause-meaning
returns-clause-meaning c =
    told_same c.entered.result _ _ (λ named. route_entered named c.args.route.now (done named c.args.rest.items) c.args.scene (search rules)) c.entered.ensures.meaning
