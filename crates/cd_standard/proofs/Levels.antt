-- The equations of the modules of matchers and routes, one level at a time.
use Rattle.std.proofs.Common.{◌≡◌, List, [], ◌∷◌, ◌++◌, map, refl, sym, ap, ◌∙◌, rules, codes}
use Rattle.std.specs.List.{flat_map}
use Rattle.cd_tree.specs.Path.{◌▸◌}
use Rattle.cd_tree.specs.declared.path.Path.{Path}
use Rattle.cd_match.specs.Names.{kind_name, kind_layer, matcher_name}
use Rattle.cd_match.specs.declared.matcher.Matcher.{Matcher, out-Matcher, roll-Matcher, roll-out-Matcher, the_lemmas}
use Rattle.cd_match.specs.declared.matcher.Matcher.TheOpen.{Matcher-F}
use Rattle.cd_match.specs.declared.matcher.MatcherSet.{MatcherSet, out-MatcherSet}
use Rattle.cd_match.specs.declared.not.NotMatcher.{NotMatcher}
use Rattle.cd_handlers.specs.Names.{handler_name}
use Rattle.cd_handlers.specs.declared.handler.Handler.{Handler}
use Rattle.cd_routes.specs.Names.{subroute_name, step_name}
use Rattle.cd_routes.specs.declared.route.Route.{Route, out-Route}
use Rattle.cd_routes.specs.declared.route.Route as ring
use Rattle.cd_routes.specs.declared.route.Step.{Step}
use Rattle.cd_routes.specs.declared.route.Step.TheVariants as step
use Rattle.cd_routes.specs.declared.route.Subroute.{Subroute, out-Subroute}
use Rattle.cd_standard.specs.Plans.{planned, matcher_id, in_elements, matcher_modules, set_modules, step_modules, route_modules, routes_modules, errors_modules, handler_module}
use Rattle.cd_standard.specs.Walking.{in_layer, in_matcher, in_subroute}

matcher_rolled : (x : Matcher-F Matcher MatcherSet NotMatcher) (at : Path) → matcher_modules (roll-Matcher x) at
    ≡ planned (matcher_id (kind_name (kind_layer x))) (at ▸ kind_name (kind_layer x)) ∷ in_layer x (at ▸ kind_name (kind_layer x))
unfolding matcher_modules set_modules
matcher_rolled (Matcher-F.Host m) at = search (rules, the_lemmas)
matcher_rolled (Matcher-F.Path m) at = search (rules, the_lemmas)
matcher_rolled (Matcher-F.Method m) at = search (rules, the_lemmas)
matcher_rolled (Matcher-F.Header m) at = search (rules, the_lemmas)
matcher_rolled (Matcher-F.Query m) at = search (rules, the_lemmas)
matcher_rolled (Matcher-F.Vars m) at = search (rules, the_lemmas)
matcher_rolled (Matcher-F.Not m) at = search (rules, the_lemmas)

pub matcher_modules_is : (m : Matcher) (at : Path) → matcher_modules m at
    ≡ planned (matcher_id (matcher_name m)) (at ▸ matcher_name m) ∷ in_matcher m (at ▸ matcher_name m)
matcher_modules_is m at = ap (λ u. matcher_modules u at) (sym (roll-out-Matcher m)) ∙ matcher_rolled (out-Matcher m) at

one_by_one : (ms : List Matcher) (at : Path) → flat_map (λ m. m at) (map matcher_modules ms) ≡ flat_map (λ m. matcher_modules m at) ms
one_by_one [] at = refl
one_by_one (m ∷ ms) at = ap (λ r. matcher_modules m at ++ r) (one_by_one ms at)

set_is : (s : MatcherSet) (at : Path) → set_modules s at ≡ flat_map (λ m. m at) (map matcher_modules (out-MatcherSet s).matchers)
unfolding set_modules matcher_modules
set_is s at = search (rules, the_lemmas)

pub set_modules_is : (s : MatcherSet) (at : Path) → set_modules s at ≡ flat_map (λ m. matcher_modules m at) (out-MatcherSet s).matchers
set_modules_is s at = set_is s at ∙ one_by_one (out-MatcherSet s).matchers at

pub handler_modules_is : (h : Handler) (at : Path) → step_modules (step.Handler h) at ≡ handler_module (handler_name h) at ∷ []
unfolding step_modules
handler_modules_is h at = search (rules, ring.the_lemmas)

pub subroute_modules_is : (s : Subroute) (at : Path) → step_modules (step.Subroute s) at
    ≡ handler_module subroute_name at ∷ (routes_modules (out-Subroute s).routes (at ▸ codes "routes") ++ errors_modules (out-Subroute s).errors at)
unfolding step_modules route_modules
subroute_modules_is s at = search (rules, ring.the_lemmas)

pub route_modules_is : (r : Route) (at : Path) → route_modules r at
    ≡ in_elements 0 (map set_modules (out-Route r).matching.sets) (at ▸ codes "match") ++ in_elements 0 (map step_modules (out-Route r).handle) (at ▸ codes "handle")
unfolding step_modules route_modules
route_modules_is r at = search (rules, ring.the_lemmas)

-- ---- a step by its name

handler_named : (h : Handler) → step_name (step.Handler h) ≡ handler_name h
handler_named h = search (rules, ring.the_lemmas)

subroute_named : (s : Subroute) → step_name (step.Subroute s) ≡ subroute_name
subroute_named s = search (rules, ring.the_lemmas)

pub handler_step : (s : Step) (h : Handler) (at : Path) → s ≡ step.Handler h → handler_module (step_name s) at ∷ [] ≡ step_modules s at
handler_step s h at is =
    ap (λ n. handler_module n at ∷ []) (ap step_name is ∙ handler_named h) ∙ sym (handler_modules_is h at) ∙ ap (λ u. step_modules u at) (sym is)

pub subroute_step : (s : Step) (inside : Subroute) (at : Path) → s ≡ step.Subroute inside → handler_module (step_name s) at ∷ in_subroute inside at ≡ step_modules s at
subroute_step s inside at is =
    ap (λ n. handler_module n at ∷ in_subroute inside at) (ap step_name is ∙ subroute_named inside) ∙ sym (subroute_modules_is inside at) ∙ ap (λ u. step_modules u at) (sym is)
