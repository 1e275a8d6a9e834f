use Rattle.std.proofs.Common.{◌≡◌, ◌+◌, ◌∙◌, ◌≤◌, map, sym, arith}
use Rattle.cd_routes.specs.Running.{Named, run_routes, run_route}
use Rattle.cd_routes.specs.Work.{Weights, done, weight, total, route_weight}
use Rattle.cd_routes.proofs.Equations.{route_entered}
use Rattle.cd_routes.proofs.Pushes.{routes_begun, routes_weigh, routes_none, total_some, told_same, left_same}
use Rattle.cd_routes.proofs.running.on_routes.Goals as goal

pub returns-in-None-clause-meaning : goal.returns-in-None-clause-meaning
returns-in-None-clause-meaning c = λ named.
    routes_none named c.in-Ok.left.now (done named c.args.rest.items) c.args.scene c.in-None.ensures ∙ c.in-Ok.ensures.same named (done named c.args.rest.items)

pub returns-in-None-clause-less : goal.returns-in-None-clause-less
returns-in-None-clause-less c = λ w. omega (arith, total_some (map (route_weight w) c.args.routes.now))

pub returns-in-Ok-push-clause-meaning : goal.returns-in-Ok-push-clause-meaning
returns-in-Ok-push-clause-meaning c =
    told_same c.entered.result _ _ (λ named.
    sym (c.in-Ok.ensures.same named (done named c.args.rest.items))
    ∙ routes_begun named c.in-Ok.left.now c.in-Some.route.now c.in-Some.others c.args.rest.items c.push.new.self.items c.args.scene c.in-Some.ensures c.in-Ok-push.ensures.items
    ∙ route_entered named c.in-Some.route.now (done named c.push.new.self.items) c.args.scene (c.in-Ok.ensures.first c.in-Some.route.now c.in-Some.others.now c.in-Some.ensures)) c.entered.ensures.meaning

pub returns-in-Ok-push-clause-less : goal.returns-in-Ok-push-clause-less
returns-in-Ok-push-clause-less c =
    left_same c.entered.result (λ w. weight w c.push.new.self.items + route_weight w c.in-Some.route.now) _ (λ w.
    let e : weight w c.args.rest.items + total (map (route_weight w) c.in-Ok.left.now) ≡ weight w c.push.new.self.items + route_weight w c.in-Some.route.now =
    routes_weigh w c.in-Ok.left.now c.in-Some.route.now c.in-Some.others c.args.rest.items c.push.new.self.items c.in-Some.ensures c.in-Ok-push.ensures.items in
    omega (arith, e, c.in-Ok.ensures.less w)) c.entered.ensures.less
