use Rattle.std.proofs.Common.{◌∙◌, map, ap, sym, arith, rules}
use Rattle.cd_routes.specs.Running.{run_routes}
use Rattle.cd_routes.specs.Work.{total, route_weight}
use Rattle.cd_routes.proofs.Equations.{routes_more, route_skipped}
use Rattle.cd_routes.proofs.running.from_first_taken.Goals as goal

pub loop-route-preserved : goal.loop-route-preserved
loop-route-preserved c =
    let r = c.in-Some.route.now in
    let others = c.in-Some.others.now in
    let x = c.args.scene.now in
    record {
      same = λ named rest. sym (ap (λ rs. run_routes named rs rest x) c.in-Some.ensures ∙ routes_more named r others rest x ∙ route_skipped named r (run_routes named others rest) x (search rules)) ∙ c.loop-route.invariant.same named rest;
      less = λ w. omega (arith, c.loop-route.invariant.less w, ap (λ rs. total (map (route_weight w) rs)) c.in-Some.ensures);
    }
