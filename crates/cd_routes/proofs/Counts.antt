-- The equations of what routes count.
use Rattle.std.proofs.Common.{◌≡◌, ℕ, ◌+◌, ◌-◌, ◌^◌, List, length, map, rules, option_map, sym, ap, subst, ◌∙◌, arith}
use Rattle.std.specs.Prelude.{sum, min}
use Rattle.std.specs.List.{slice_get}
use Rattle.cd_leads.specs.Totals.{AreCounts, count_of, total}
use Rattle.cd_leads.proofs.Totalling.{min_twice, sums_end}
use Rattle.cd_handlers.specs.declared.handler.Handler.{Handler}
use Rattle.cd_routes.specs.Counting.{route_count, step_count, errors_count, all_count, own_count, named_count, server_places, expanded_count}
use Rattle.cd_routes.specs.Invoking.{leads_of}
use Rattle.cd_routes.specs.declared.server.Server.{Server}
use Rattle.cd_routes.proofs.NamedMeaning.{size}
use Rattle.cd_routes.specs.declared.counting.Rates.{Rates}
use Rattle.cd_routes.specs.declared.route.Route.{Route, out-Route, the_lemmas}
use Rattle.cd_routes.specs.declared.route.Step.TheVariants as step
use Rattle.cd_routes.specs.declared.route.Subroute.{Subroute, out-Subroute}

pub route_count_is : (rates : Rates) (r : Route) → route_count rates r ≡ rates.route + sum (map (step_count rates) (out-Route r).handle)
unfolding route_count step_count
route_count_is rates r = search (rules, the_lemmas)

pub handler_count_is : (rates : Rates) (h : Handler) → step_count rates (step.Handler h) ≡ rates.step
unfolding step_count
handler_count_is rates h = search (rules, the_lemmas)

pub subroute_count_is : (rates : Rates) (s : Subroute) → step_count rates (step.Subroute s)
    ≡ rates.step + (sum (map (route_count rates) (out-Subroute s).routes) + errors_count rates (option_map (map (route_count rates)) (out-Subroute s).errors))
unfolding route_count step_count
subroute_count_is rates s = search (rules, the_lemmas)

-- ---- with the named routes

ends : (a s t all named result top : ℕ) → all ≡ min a top → named ≡ min s top → min s top ≡ min t top → result ≡ min (all + named) top → result ≡ min (a + t) top
ends a s t all named result top all_is named_is same is = omega (arith, all_is, named_is, same, is)

-- what the routes count, and what the named routes count that they invoke, which were counted before
pub expanded_is : (rates : Rates) (s : Server) (leads : List (List ℕ)) (own counts places : List ℕ) (all named result : ℕ) → leads ≡ leads_of s.named →
    AreCounts (length s.named) own (λ n. own_count rates (slice_get s.named n)) →
    ((count : ℕ → ℕ) → AreCounts (length leads) own count → (n : ℕ) → count_of counts n ≡ min (total leads count n) (2 ^ 64 - 1)) →
    places ≡ server_places s → all ≡ min (all_count rates s.routes s.errors) (2 ^ 64 - 1) → named ≡ min (sum (map (count_of counts) places)) (2 ^ 64 - 1) → result ≡ min (all + named) (2 ^ 64 - 1) →
    result ≡ min (expanded_count rates s) (2 ^ 64 - 1)
expanded_is rates s leads own counts places all named result leads_is are right places_is all_is named_is is =
    let count : ℕ → ℕ = λ n. own_count rates (slice_get s.named n) in
    let these : AreCounts (length leads) own count = subst (λ (k : ℕ). AreCounts k own count) (size s.named ∙ sym (ap length leads_is)) are in
    let each : (n : ℕ) → min (count_of counts n) (2 ^ 64 - 1) ≡ min (named_count rates s.named n) (2 ^ 64 - 1) =
    λ n. min_twice (count_of counts n) (named_count rates s.named n) (right count these n ∙ ap (λ (ls : List (List ℕ)). min (total ls count n) (2 ^ 64 - 1)) leads_is) in
    let same : min (sum (map (count_of counts) places)) (2 ^ 64 - 1) ≡ min (sum (map (named_count rates s.named) (server_places s))) (2 ^ 64 - 1) =
    sums_end (count_of counts) (named_count rates s.named) places (λ m there. each m) ∙ ap (λ (ps : List ℕ). min (sum (map (named_count rates s.named) ps)) (2 ^ 64 - 1)) places_is in
    ends (all_count rates s.routes s.errors) _ _ all named result (2 ^ 64 - 1) all_is named_is same is
