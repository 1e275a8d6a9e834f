use Rattle.std.proofs.Common.{◌^◌, ◌-◌, ◌∷◌, ◌++◌, List, length, codes, map, ap, sym, subst}
use Rattle.std.specs.Prelude.{min}
use Rattle.cd_tree.specs.Path.{◌▸◌}
use Rattle.cd_match.specs.declared.matcher.MatcherSet.{MatcherSet}
use Rattle.cd_routes.specs.Names.{step_name}
use Rattle.cd_routes.specs.declared.route.Route.{out-Route}
use Rattle.cd_routes.specs.declared.route.Step.{Step}
use Rattle.cd_standard.specs.Plans.{in_elements, set_modules, step_modules, route_modules, handler_module}
use Rattle.cd_standard.specs.Walking.{Counts, in_subroute}
use Rattle.cd_standard.proofs.Levels.{route_modules_is, handler_step, subroute_step}
use Rattle.cd_standard.proofs.Tallies.{both_counted, counted_same, inside_counted}
use Rattle.cd_standard.proofs.counting.+counting_routes.Goals as goal

pub modules_in_route-returns : goal.modules_in_route-returns
modules_in_route-returns t c =
    let r = c.args.route.now in
    let sets = subst (λ (sets : List MatcherSet). Counts c.modules_in_sets-matching.result (in_elements 0 (map set_modules sets))) c.as_slice.ensures c.modules_in_sets-matching.ensures in
    let steps = subst (λ (steps : List Step). Counts c.modules_in_steps.result (in_elements 0 (map step_modules steps))) c.as_slice-2.ensures c.modules_in_steps.ensures in
    counted_same (λ at. in_elements 0 (map set_modules (out-Route r).matching.sets) (at ▸ codes "match") ++ in_elements 0 (map step_modules (out-Route r).handle) (at ▸ codes "handle"))
    (route_modules r) c.saturating_add.result (λ at. sym (route_modules_is r at))
    (both_counted (in_elements 0 (map set_modules (out-Route r).matching.sets)) (in_elements 0 (map step_modules (out-Route r).handle)) (λ at. at ▸ codes "match") (λ at. at ▸ codes "handle")
    c.modules_in_sets-matching.result c.modules_in_steps.result c.saturating_add.result sets steps c.saturating_add.ensures)

pub modules_in_step-returns-in-Handler : goal.modules_in_step-returns-in-Handler
modules_in_step-returns-in-Handler t c = λ at. ap (λ all. min (length all) (2 ^ 64 - 1)) (handler_step c.args.step.now c.in-Handler.field-0 at c.in-Handler.is)

pub modules_in_step-returns-in-Subroute : goal.modules_in_step-returns-in-Subroute
modules_in_step-returns-in-Subroute t c =
    let s = c.args.step.now in
    let inside = c.in-Subroute.inside in
    counted_same (λ at. handler_module (step_name s) at ∷ in_subroute inside at) (step_modules s) c.saturating_add.result (λ at. subroute_step s inside at c.in-Subroute.is)
    (inside_counted (in_subroute inside) (λ at. handler_module (step_name s) at) (λ at. at) c.modules_in_subroute.result c.saturating_add.result c.modules_in_subroute.ensures c.saturating_add.ensures)
