-- Part of the main theorem.
-- The modules and the apps of a configuration, in the order in which they are made and started.
use Rattle.std.specs.Prelude.{ℕ, suc, if◌then◌else◌, List, [], ◌∷◌, ◌++◌, map, codes, decimal, Option, Some, None, option_map}
use Rattle.std.specs.List.{flat_map}
use Rattle.cd_tree.specs.Path.{◌▸◌}
use Rattle.cd_tree.specs.declared.path.Path.{Path}
use Rattle.cd_outside.specs.declared.key.Key.TheVariants as key
use Rattle.cd_addr.specs.Addresses.{listed}
use Rattle.cd_match.specs.Names.{kind_name, kind_layer}
use Rattle.cd_match.specs.declared.matcher.Matcher.TheOpen.{Matcher-F, MatcherSet-F, NotMatcher-F}
use Rattle.cd_match.specs.declared.matcher.Matcher.{Matcher, fold-Matcher}
use Rattle.cd_match.specs.declared.matcher.MatcherSet.{MatcherSet, fold-MatcherSet}
use Rattle.cd_handlers.specs.Names.{handler_name}
use Rattle.cd_routes.specs.Names.{subroute_name}
use Rattle.cd_routes.specs.declared.listen.Listen.{Listen}
use Rattle.cd_routes.specs.declared.listen.ListenText.{ListenText}
use Rattle.cd_routes.specs.declared.named.NamedRoute.{NamedRoute}
use Rattle.cd_routes.specs.declared.route.Route.{Route, Route-F, fold-Route}
use Rattle.cd_routes.specs.declared.route.Step.{Step, fold-Step}
use Rattle.cd_routes.specs.declared.route.Step.TheOpen.{Step-F, Subroute-F}
use Rattle.cd_routes.specs.declared.server.Server.{Server}
use Rattle.cd_admin.specs.declared.admin.Admin.{Admin}
use Rattle.cd_log.specs.Logging.{key_of, output_name, writer_id}
use Rattle.cd_log.specs.declared.log.Log.{Log}
use Rattle.cd_log.specs.declared.logs.Logs.{Logs}
use Rattle.cd_standard.specs.declared.app.App.{App}
use Rattle.cd_standard.specs.declared.app.App.TheVariants.{Echo, Http}
use Rattle.cd_standard.specs.declared.configuration.Configuration.{Configuration}
use Rattle.cd_standard.specs.declared.listening.Listened.{Listened}
use Rattle.cd_legal.specs.declared.plan.PlanApp.{PlanApp}
use Rattle.cd_legal.specs.declared.plan.Plan.{Plan}
use Rattle.cd_legal.specs.declared.plan.PlanModule.{PlanModule}

-- ---- modules

-- the modules in a value, by the path of the value
abbrev pub Modules : Type 0
Modules = Path → List PlanModule

-- those in the elements of a list, from this place on
abbrev pub in_elements : ℕ → List Modules → Modules
in_elements place [] at = []
in_elements place (first ∷ others) at = first (at ▸ decimal place) ++ in_elements (suc place) others at

-- a module of this id, which opens nothing
abbrev pub planned : List ℕ → Path → PlanModule
planned id at = record { name = id; at = at; keys = [] }

-- the ids of matchers and handlers, by their names
abbrev pub matcher_id : List ℕ → List ℕ
matcher_id name = codes "http.matchers." ++ name

abbrev pub handler_id : List ℕ → List ℕ
handler_id name = codes "http.handlers." ++ name

-- ---- the modules of a route's matchers: a `not` before those of its sets

abbrev pub inside_matcher : Matcher-F Modules Modules Modules → Modules
inside_matcher (Matcher-F.Host m) at = []
inside_matcher (Matcher-F.Path m) at = []
inside_matcher (Matcher-F.Method m) at = []
inside_matcher (Matcher-F.Header m) at = []
inside_matcher (Matcher-F.Query m) at = []
inside_matcher (Matcher-F.Vars m) at = []
inside_matcher (Matcher-F.Not sets) at = sets at

-- a matcher is the member of its set that has its name
abbrev pub matcher_level : Matcher-F Modules Modules Modules → Modules
matcher_level m at =
    let name = kind_name (kind_layer m) in
    planned (matcher_id name) (at ▸ name) ∷ inside_matcher m (at ▸ name)

abbrev pub set_level : MatcherSet-F Modules Modules Modules → Modules
set_level set at = flat_map (λ m. m at) set.matchers

abbrev pub not_level : NotMatcher-F Modules Modules Modules → Modules
not_level none at = in_elements 0 none.sets at

unfoldable pub matcher_modules : Matcher → Modules
matcher_modules = fold-Matcher Modules Modules Modules matcher_level set_level not_level

unfoldable pub set_modules : MatcherSet → Modules
set_modules = fold-MatcherSet Modules Modules Modules matcher_level set_level not_level

-- ---- the modules of a route: its matchers, then its handlers; a subroute before its routes, and those before its errors

abbrev pub handler_module : List ℕ → Path → PlanModule
handler_module name at = planned (handler_id name) at

abbrev pub step_level : Step-F Modules Modules Modules → Modules
step_level (Step-F.Handler handler) at = handler_module (handler_name handler) at ∷ []
step_level (Step-F.Subroute inside) at = handler_module subroute_name at ∷ inside at

abbrev pub route_level : Route-F Modules Modules Modules → Modules
route_level route at = in_elements 0 (map set_modules route.matching.sets) (at ▸ codes "match") ++ in_elements 0 route.handle (at ▸ codes "handle")

-- the routes of an `errors`, if there is one
abbrev pub in_errors : Option (List Modules) → Modules
in_errors None at = []
in_errors (Some routes) at = in_elements 0 routes (at ▸ codes "errors" ▸ codes "routes")

abbrev pub subroute_level : Subroute-F Modules Modules Modules → Modules
subroute_level inside at = in_elements 0 inside.routes (at ▸ codes "routes") ++ in_errors inside.errors at

unfoldable pub step_modules : Step → Modules
step_modules = fold-Step Modules Modules Modules step_level route_level subroute_level

unfoldable pub route_modules : Route → Modules
route_modules = fold-Route Modules Modules Modules step_level route_level subroute_level

-- ---- the modules of a server and of an app

abbrev pub routes_modules : List Route → Modules
routes_modules routes = in_elements 0 (map route_modules routes)

abbrev pub errors_modules : Option (List Route) → Modules
errors_modules errors = in_errors (option_map (map route_modules) errors)

-- a named route stands under its name
abbrev pub named_modules : Path → NamedRoute → List PlanModule
named_modules at r = route_modules r.route (at ▸ r.name)

-- what follows the routes of a server: its error routes, then its named routes
abbrev pub after_routes : Server → Modules
after_routes s at = errors_modules s.errors at ++ flat_map (named_modules (at ▸ codes "named_routes")) s.named

-- its routes, then its error routes, then its named routes by name; a server itself is no module
abbrev pub server_modules : Path → Server → List PlanModule
server_modules servers s = routes_modules s.routes (servers ▸ s.name ▸ codes "routes") ++ after_routes s (servers ▸ s.name)

abbrev pub app_name : App → List ℕ
app_name (Echo echo) = codes "echo"
app_name (Http http) = codes "http"

abbrev pub inside_app : App → Modules
inside_app (Echo echo) at = []
inside_app (Http http) at = flat_map (server_modules (at ▸ codes "servers")) http.servers

abbrev pub app_modules : Path → App → List PlanModule
app_modules apps app = planned (app_name app) (apps ▸ app_name app) ∷ inside_app app (apps ▸ app_name app)

abbrev pub root : Path
root = record { parts = [] }

-- the writer of a log, which opens what the lines go to
abbrev pub writer_module : Path → Log → PlanModule
writer_module logs log = record { name = writer_id (output_name log.writer); at = logs ▸ log.name ▸ codes "writer"; keys = key_of log.writer ∷ [] }

-- log after log
abbrev pub writer_modules : Logs → List PlanModule
writer_modules logs = map (writer_module (root ▸ codes "logging" ▸ codes "logs")) logs.logs

-- app after app
abbrev pub apps_modules : List App → List PlanModule
apps_modules apps = flat_map (app_modules (root ▸ codes "apps")) apps

-- writers come before apps, so that each log is open before anything is served
abbrev pub modules_of : Configuration → List PlanModule
modules_of c = writer_modules c.logs ++ apps_modules c.apps

-- ---- what is listened on

-- the addresses of a text, each with the place of the text
abbrev pub text_addresses : ListenText → List Listened
text_addresses text = map (λ address. record { address = address; at = text.at }) (listed text.range)

-- text by text, and port by port
abbrev pub listen_addresses : Listen → List Listened
listen_addresses listen = flat_map text_addresses listen.texts

abbrev pub server_addresses : Server → List Listened
server_addresses server = listen_addresses server.listen

-- server after server
abbrev pub app_addresses : App → List Listened
app_addresses (Echo echo) = listen_addresses echo.listen
app_addresses (Http http) = flat_map server_addresses http.servers

-- the admin API counts as an app, unless it is disabled
abbrev pub admin_addresses : Admin → List Listened
admin_addresses admin = if admin.disabled then [] else record { address = admin.listen; at = root ▸ codes "admin" ▸ codes "listen" } ∷ []

-- all addresses, in the order in which they are opened
abbrev pub addresses_of : Configuration → List Listened
addresses_of c = admin_addresses c.admin ++ flat_map app_addresses c.apps

-- ---- apps

abbrev pub app_plan : List ℕ → List Listened → PlanApp
app_plan name addresses = record { name = name; keys = map (λ one. key.Listen one.address) addresses }

abbrev pub admin_plans : Admin → List PlanApp
admin_plans admin = if admin.disabled then [] else app_plan (codes "admin") (admin_addresses admin) ∷ []

-- the admin API, then app after app
abbrev pub apps_of : Configuration → List PlanApp
apps_of c = admin_plans c.admin ++ map (λ app. app_plan (app_name app) (app_addresses app)) c.apps

abbrev pub plan_of : Configuration → Plan
plan_of c = record { modules = modules_of c; apps = apps_of c }
