use Rattle.std.proofs.Common.{arith, rules}
use Rattle.cd_leads.proofs.Totalling.{all_counted}
use Rattle.cd_routes.specs.Counting.{route_count, step_count}
use Rattle.cd_routes.proofs.Counts.{route_count_is, handler_count_is, subroute_count_is}
use Rattle.cd_routes.proofs.counting.+counting.Goals as goal

pub route_count-returns : goal.route_count-returns
route_count-returns t c = rw (route_count_is c.args.rates c.args.route.now) (search rules)

pub step_count-returns-in-Handler : goal.step_count-returns-in-Handler
step_count-returns-in-Handler t c = search (rules, handler_count_is)

pub routes_count-returns : goal.routes_count-returns
routes_count-returns t c = all_counted (route_count c.args.rates) c.args.routes.now c.loop-route.route-index c.loop-route.found _ c.loop-route.invariant.0 (omega (arith, c.loop-route-test.false)) c.loop-route.invariant.1

pub steps_count-returns : goal.steps_count-returns
steps_count-returns t c = all_counted (step_count c.args.rates) c.args.steps.now c.loop-step.step-index c.loop-step.found _ c.loop-step.invariant.0 (omega (arith, c.loop-step-test.false)) c.loop-step.invariant.1

pub step_count-returns-in-Subroute : goal.step_count-returns-in-Subroute
step_count-returns-in-Subroute t c = search (rules, subroute_count_is)
