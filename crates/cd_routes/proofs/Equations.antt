-- The equations of the definitions, one for each kind of step, and for a route.
use Rattle.std.proofs.Common.{true, false, ◌≡◌, ◌+◌, ◌≤◌, ◌++◌, ◌&&◌, not, List, [], ◌∷◌, map, sym, ap, ◌∙◌, refl, rules, arith, if◌then◌else◌, Some, option_map}
use Rattle.cd_fill.specs.declared.scene.Scene.{Scene}
use Rattle.cd_match.specs.Holds.{holds}
use Rattle.cd_handlers.specs.Invoke.{invoked}
use Rattle.cd_handlers.specs.declared.handler.Handler.{Handler}
use Rattle.cd_handlers.specs.declared.changes.FilledChanges.{FilledChanges}
use Rattle.cd_routes.specs.declared.outcome.Outcome.{Outcome}
use Rattle.cd_routes.specs.declared.route.Route.{Route, out-Route, the_lemmas}
use Rattle.cd_routes.specs.declared.route.Subroute.{Subroute, out-Subroute}
use Rattle.cd_routes.specs.declared.route.Step.TheVariants as step
use Rattle.cd_routes.specs.Running.{Rest, with_changes, nothing_left, in_order, in_place, Named, caught, is_taken, with_group, run_route, run_routes, run_step, run_steps}
use Rattle.std.proofs.lemmas.List.Sums.{fold-append}
use Rattle.cd_routes.specs.declared.route.Step.{Step}
use Rattle.cd_routes.specs.declared.work.Work.{Work}
use Rattle.cd_routes.specs.Work.{Weights, handler_weight, all_changes, total, errors_weight, route_weight, step_weight, done, weight, item_done, item_weight}

pub run_route_is : (named : Named) (r : Route) (rest : Rest) (x : Scene) →
    run_route named r rest x ≡ (if holds (out-Route r).matching x && not (is_taken (out-Route r).group x)
    then run_steps named (out-Route r).handle (if (out-Route r).terminal then nothing_left else rest) (with_group (out-Route r).group x)
    else rest x)
unfolding run_route run_step
run_route_is named r rest x = search (rules, the_lemmas)

pub run_handler_is : (named : Named) (h : Handler) (rest : Rest) (x : Scene) → run_step named (step.Handler h) rest x ≡ in_place named (invoked h) h rest x
unfolding run_step
run_handler_is named h rest x = search (rules, the_lemmas)

pub run_subroute_is : (named : Named) (s : Subroute) (rest : Rest) (x : Scene) →
    run_step named (step.Subroute s) rest x ≡ caught (option_map (map (run_route named)) (out-Subroute s).errors) rest (run_routes named (out-Subroute s).routes rest x)
unfolding run_step run_route
run_subroute_is named s rest x = search (rules, the_lemmas)

pub route_weight_is : (w : Weights) (r : Route) → route_weight w r ≡ 1 + total (map (step_weight w) (out-Route r).handle)
unfolding route_weight step_weight
route_weight_is w r = search (rules, the_lemmas)

pub handler_weight_is : (w : Weights) (h : Handler) → step_weight w (step.Handler h) ≡ handler_weight w (invoked h)
unfolding step_weight
handler_weight_is w h = search (rules, the_lemmas)

pub subroute_weight_is : (w : Weights) (s : Subroute) → step_weight w (step.Subroute s) ≡ 1 + (total (map (route_weight w) (out-Subroute s).routes) + errors_weight (option_map (map (route_weight w)) (out-Subroute s).errors))
unfolding route_weight step_weight
subroute_weight_is w s = search (rules, the_lemmas)

-- ---- routes

pub route_skipped : (named : Named) (r : Route) (rest : Rest) (x : Scene) → false ≡ (holds (out-Route r).matching x && not (is_taken (out-Route r).group x)) → run_route named r rest x ≡ rest x
route_skipped named r rest x skipped = run_route_is named r rest x ∙ (rw (sym skipped) refl)

pub route_entered : (named : Named) (r : Route) (rest : Rest) (x : Scene) → true ≡ (holds (out-Route r).matching x && not (is_taken (out-Route r).group x)) →
    run_route named r rest x ≡ run_steps named (out-Route r).handle (if (out-Route r).terminal then nothing_left else rest) (with_group (out-Route r).group x)
route_entered named r rest x entered = run_route_is named r rest x ∙ (rw (sym entered) refl)

pub route_weight_some : (w : Weights) (r : Route) → 1 ≤ route_weight w r
route_weight_some w r = omega (arith, route_weight_is w r)

-- ---- what is still to be done

-- ---- changes

-- the last changes meet the outcome first
pub all_changes_push : (changes : List FilledChanges) (last : FilledChanges) (outcome : Outcome) →
    all_changes (changes ++ last ∷ []) outcome ≡ all_changes changes (with_changes (Some last) outcome)
unfolding all_changes
all_changes_push [] last outcome = refl
all_changes_push (first ∷ others) last outcome = ap (with_changes (Some first)) (all_changes_push others last outcome)

pub done_push : (named : Named) (work : List Work) (item : Work) → done named (work ++ item ∷ []) ≡ item_done named item (done named work)
unfolding done
done_push named work item = fold-append (λ rest i. item_done named i rest) nothing_left work (item ∷ [])

pub weight_push : (w : Weights) (work : List Work) (item : Work) → weight w (work ++ item ∷ []) ≡ weight w work + item_weight w item
unfolding weight
weight_push w work item = fold-append (λ n i. n + item_weight w i) 0 work (item ∷ [])

pub routes_more : (named : Named) (r : Route) (routes : List Route) (rest : Rest) (x : Scene) → run_routes named (r ∷ routes) rest x ≡ run_route named r (run_routes named routes rest) x
unfolding in_order
routes_more named r routes rest x = refl

pub steps_more : (named : Named) (s : Step) (steps : List Step) (rest : Rest) (x : Scene) → run_steps named (s ∷ steps) rest x ≡ run_step named s (run_steps named steps rest) x
unfolding in_order
steps_more named s steps rest x = refl
