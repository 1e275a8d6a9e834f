-- Part of the main theorem.
-- How much there is in the routes of a server, where each `invoke` counts its named route too.
use Rattle.std.specs.Prelude.{ℕ, ◌+◌, List, ◌++◌, map, sum, Option, Some, None, option_map}
use Rattle.std.specs.List.{slice_get}
use Rattle.cd_leads.specs.Totals.{total}
use Rattle.cd_routes.specs.Invoking.{leads_of, places_of, routes_invoke, errors_invoke}
use Rattle.cd_routes.specs.declared.counting.Rates.{Rates}
use Rattle.cd_routes.specs.declared.named.NamedRoute.{NamedRoute}
use Rattle.cd_routes.specs.declared.route.Route.{Route, Route-F, fold-Route}
use Rattle.cd_routes.specs.declared.route.Step.{Step, fold-Step}
use Rattle.cd_routes.specs.declared.route.Step.TheOpen.{Step-F, Subroute-F}
use Rattle.cd_routes.specs.declared.server.Server.{Server}

-- each route and each handler weighs 1, a subroute too
abbrev pub weight : Rates
weight = record { step = 1; route = 1; errors = 0 }

-- the errors of a subroute alone count: each of them may have all that follows it done a second time
abbrev pub catches : Rates
catches = record { step = 0; route = 0; errors = 1 }

-- ---- what routes count by themselves

-- error routes are counted with what is inside them
abbrev pub errors_count : Rates → Option (List ℕ) → ℕ
errors_count rates None = 0
errors_count rates (Some routes) = rates.errors + sum routes

-- one level, with the counts of what is inside in its place
abbrev pub step_count_level : Rates → Step-F ℕ ℕ ℕ → ℕ
step_count_level rates (Step-F.Handler handler) = rates.step
step_count_level rates (Step-F.Subroute inside) = rates.step + inside

abbrev pub route_count_level : Rates → Route-F ℕ ℕ ℕ → ℕ
route_count_level rates r = rates.route + sum r.handle

abbrev pub subroute_count_level : Rates → Subroute-F ℕ ℕ ℕ → ℕ
subroute_count_level rates s = sum s.routes + errors_count rates s.errors

unfoldable pub route_count : Rates → Route → ℕ
route_count rates = fold-Route ℕ ℕ ℕ (step_count_level rates) (route_count_level rates) (subroute_count_level rates)

unfoldable pub step_count : Rates → Step → ℕ
step_count rates = fold-Step ℕ ℕ ℕ (step_count_level rates) (route_count_level rates) (subroute_count_level rates)

abbrev pub routes_count : Rates → List Route → ℕ
routes_count rates routes = sum (map (route_count rates) routes)

-- the errors of a server are no subroute
abbrev pub all_count : Rates → List Route → Option (List Route) → ℕ
all_count rates routes None = routes_count rates routes
all_count rates routes (Some errors) = routes_count rates routes + routes_count rates errors

-- ---- with the named routes that they invoke

abbrev pub own_count : Rates → Option NamedRoute → ℕ
own_count rates None = 0
own_count rates (Some r) = route_count rates r.route

-- what the named route at a place counts, with those that it invokes
abbrev pub named_count : Rates → List NamedRoute → ℕ → ℕ
named_count rates named = total (leads_of named) (λ n. own_count rates (slice_get named n))

-- the places of the named routes that the routes and the errors of a server invoke
abbrev pub server_places : Server → List ℕ
server_places s = places_of s.named (routes_invoke s.routes ++ errors_invoke s.errors)

-- what the routes and the errors of a server count, and at each `invoke` the named route
abbrev pub expanded_count : Rates → Server → ℕ
expanded_count rates s = all_count rates s.routes s.errors + sum (map (named_count rates s.named) (server_places s))

-- the weight of a server's routes
abbrev pub expanded_routes : Server → ℕ
expanded_routes = expanded_count weight

-- the subroutes with errors of a server
abbrev pub error_subroutes : Server → ℕ
error_subroutes = expanded_count catches
