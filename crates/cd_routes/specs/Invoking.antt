-- Part of the main theorem.
-- Named routes: what routes invoke, and which named routes lead to which (Caddy, JSON Config Structure,
-- http.servers.named_routes and http.handlers.invoke).
use Rattle.std.specs.Prelude.{◌≡◌, ℕ, suc, List, [], ◌∷◌, ◌++◌, if◌then◌else◌, map, get_or, Option, Some, None, option_map}
use Rattle.std.specs.List.{slice_get}
use Rattle.std.specs.Str.{bytes_eq}
use Rattle.cd_leads.specs.Leads.{least_in_cycle}
use Rattle.cd_handlers.specs.Invoke.{invoked}
use Rattle.cd_routes.specs.declared.named.NamedRoute.{NamedRoute}
use Rattle.cd_routes.specs.declared.route.Route.{Route, Route-F, fold-Route}
use Rattle.cd_routes.specs.declared.route.Step.{Step, fold-Step}
use Rattle.cd_routes.specs.declared.route.Step.TheOpen.{Step-F, Subroute-F}

abbrev pub Names : Type 0
Names = List (List ℕ)

-- ---- what routes invoke

abbrev pub joined : List Names → Names
joined [] = []
joined (first ∷ others) = first ++ joined others

abbrev pub one_name : Option (List ℕ) → Names
one_name None = []
one_name (Some name) = name ∷ []

abbrev pub errors_names : Option (List Names) → Names
errors_names None = []
errors_names (Some errors) = joined errors

-- one level, with the names of what is inside in its place
abbrev pub step_names_level : Step-F Names Names Names → Names
step_names_level (Step-F.Handler handler) = one_name (invoked handler)
step_names_level (Step-F.Subroute inside) = inside

abbrev pub route_names_level : Route-F Names Names Names → Names
route_names_level r = joined r.handle

abbrev pub subroute_names_level : Subroute-F Names Names Names → Names
subroute_names_level s = joined s.routes ++ errors_names s.errors

-- the names that a route and a step invoke, in it or in its subroutes and their errors, each as often as it is there
unfoldable pub route_invokes : Route → Names
route_invokes = fold-Route Names Names Names step_names_level route_names_level subroute_names_level

unfoldable pub step_invokes : Step → Names
step_invokes = fold-Step Names Names Names step_names_level route_names_level subroute_names_level

abbrev pub routes_invoke : List Route → Names
routes_invoke routes = joined (map route_invokes routes)

abbrev pub errors_invoke : Option (List Route) → Names
errors_invoke errors = errors_names (option_map (map route_invokes) errors)

-- ---- named routes by their places

abbrev pub route_names : List NamedRoute → Names
route_names named = map (λ r. r.name) named

-- the place of a name among names; it is beyond them where it is none of them
abbrev pub place_of : Names → List ℕ → ℕ
place_of [] name = 0
place_of (first ∷ others) name = if bytes_eq name first then 0 else suc (place_of others name)

abbrev pub places_of : List NamedRoute → Names → List ℕ
places_of named names = map (place_of (route_names named)) names

-- the named route of a name
abbrev pub route_named : List NamedRoute → List ℕ → Option NamedRoute
route_named named name = slice_get named (place_of (route_names named) name)

-- ---- which lead to which

-- a named route leads to those that it invokes, and to those that these lead to: the places that each invokes
abbrev pub leads_of : List NamedRoute → List (List ℕ)
leads_of named = map (λ r. places_of named (route_invokes r.route)) named

-- none leads to itself
abbrev pub HasNoCycle : List NamedRoute → Type 0
HasNoCycle named = least_in_cycle (leads_of named) ≡ None

-- the name of the first that leads to itself
abbrev pub first_in_cycle : List NamedRoute → Option (List ℕ)
first_in_cycle named = option_map (λ n. get_or (route_names named) n []) (least_in_cycle (leads_of named))
