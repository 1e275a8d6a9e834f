-- Part of the main theorem.
-- Routes in a configuration, and the first fault there.
use Rattle.std.specs.Prelude.{ℕ, Bool, false, if◌then◌else◌, List, [], codes, unwrap_or, Option, Some, None, Result, Ok, Err}
use Rattle.std.specs.List.{list_any}
use Rattle.std.specs.Str.{bytes_eq}
use Rattle.cd_text.specs.Steps.{◌▷◌}
use Rattle.cd_module.specs.Recursion.{recursive}
use Rattle.cd_tree.specs.Path.{◌▸◌}
use Rattle.cd_tree.specs.declared.path.Path.{Path}
use Rattle.cd_tree.specs.declared.tree.Member.{Member}
use Rattle.cd_module.specs.Faults.{refused}
use Rattle.cd_module.specs.Settings.{Reader, text, truth, list_of, members, optional, name_of, object_of}
use Rattle.cd_module.specs.declared.fault.LoadFault.{LoadFault}
use Rattle.cd_module.specs.declared.fault.LoadKind.TheVariants.{BadValue}
use Rattle.cd_match.specs.Matchers.{route_sets}
use Rattle.cd_match.specs.declared.sets.Sets.{Sets}
use Rattle.cd_handlers.specs.Handlers.{handler}
use Rattle.cd_handlers.specs.Invoke.{invoked}
use Rattle.cd_routes.specs.Names.{subroute_name}
use Rattle.cd_routes.specs.declared.named.KnownName.{KnownName}
use Rattle.cd_routes.specs.declared.named.NamedRoute.{NamedRoute}
use Rattle.cd_routes.specs.declared.route.Route.{Route, roll-Route}
use Rattle.cd_routes.specs.declared.route.Subroute.{Subroute, roll-Subroute}
use Rattle.cd_routes.specs.declared.route.Step.{Step}
use Rattle.cd_routes.specs.declared.route.Step.TheVariants as kind

-- ---- which named routes there are

-- a member of an object by name, of which the name alone is looked at
abbrev pub known_name : List ℕ → Reader KnownName
known_name name t at = Ok (record { name = name })

abbrev pub names_or_none : Result (Option (List KnownName)) LoadFault → List KnownName
names_or_none (Ok (Some names)) = names
names_or_none (Ok None) = []
names_or_none (Err fault) = []

-- the names of a server's `named_routes`; none, where it is no object
unfoldable pub known_names : List Member → Path → List KnownName
known_names ms at = names_or_none (optional (object_of known_name) (codes "named_routes") ms at)

abbrev pub is_known : List KnownName → List ℕ → Bool
is_known known name = list_any (λ k. bytes_eq name k.name) known

-- a name that is invoked is one of those
abbrev pub name_tested : List KnownName → Option (List ℕ) → Path → Result (Unit {0}) LoadFault
name_tested known None at = Ok tt
name_tested known (Some name) at = if is_known known name then Ok tt else Err (refused BadValue (at ▸ codes "name"))

-- ---- routes

-- In each of these `inner` reads the routes of a subroute, and `known` are the names of named routes.

-- an `errors`: its routes
unfoldable pub error_routes : Reader (List Route) → Reader (List Route)
error_routes inner t at =
    members (codes "routes") t at ▷ λ ms.
    optional inner (codes "routes") ms at ▷ λ routes.
    Ok (unwrap_or routes [])

-- a subroute
unfoldable pub subroute : Reader (List Route) → Reader Subroute
subroute inner t at =
    members (codes "handler routes errors") t at ▷ λ ms.
    optional inner (codes "routes") ms at ▷ λ routes.
    optional (error_routes inner) (codes "errors") ms at ▷ λ errors.
    Ok (roll-Subroute (record { routes = unwrap_or routes []; errors = errors }))

-- a handler that is no subroute; the name that an `invoke` has is tested when it is read
unfoldable pub tested_handler : List KnownName → Reader Step
tested_handler known t at = handler t at ▷ λ h. name_tested known (invoked h) at ▷ λ _. Ok (kind.Handler h)

-- a handler, whose name is read before anything else
unfoldable pub step : List KnownName → Reader (List Route) → Reader Step
step known inner t at =
    name_of (codes "handler") t at ▷ λ name.
    if bytes_eq name subroute_name then (subroute inner t at ▷ λ s. Ok (kind.Subroute s))
    else tested_handler known t at

-- what a route without `match` has
abbrev pub no_sets : Sets
no_sets = record { sets = [] }

-- a route
unfoldable pub route : List KnownName → Reader (List Route) → Reader Route
route known inner t at =
    members (codes "group match handle terminal") t at ▷ λ ms.
    optional text (codes "group") ms at ▷ λ group.
    optional route_sets (codes "match") ms at ▷ λ matching.
    optional (list_of (step known inner)) (codes "handle") ms at ▷ λ handle.
    optional truth (codes "terminal") ms at ▷ λ terminal.
    Ok (roll-Route (record {
      group = group;
      matching = unwrap_or matching no_sets;
      handle = unwrap_or handle [];
      terminal = unwrap_or terminal false;
    }))

-- a list of routes, with those of subroutes inside: `routes known` is `list_of (route known (routes known))`
unfoldable pub routes : List KnownName → Reader (List Route)
routes known = recursive (λ inner. list_of (route known inner))

-- ---- named routes

-- the named route of that name
unfoldable pub named_route : List KnownName → List ℕ → Reader NamedRoute
named_route known name t at = route known (routes known) t at ▷ λ r. Ok (record { name = name; route = r })

-- an object of routes by name
abbrev pub named_routes_read : List KnownName → Reader (List NamedRoute)
named_routes_read known = object_of (named_route known)
