-- Part of the main theorem.
-- What a tree comes to as a configuration: the configuration with its plan, or the first fault.
use Rattle.std.specs.Prelude.{◌≡◌, ℕ, Bool, if◌then◌else◌, List, [], ◌∷◌, ◌++◌, codes, length, Option, Some, None, Result, Ok, Err}
use Rattle.std.specs.List.{flat_map, list_any}
use Rattle.cd_text.specs.Steps.{◌▷◌}
use Rattle.cd_tree.specs.Fields.{is_null}
use Rattle.cd_tree.specs.Path.{◌▸◌}
use Rattle.cd_tree.specs.declared.path.Path.{Path}
use Rattle.cd_tree.specs.declared.tree.Tree.{Tree, out-Tree}
use Rattle.cd_ids.specs.Ids.{id_fault}
use Rattle.cd_ids.specs.declared.fault.IdFault.{IdFault}
use Rattle.cd_ids.specs.declared.fault.IdFault.TheVariants as id
use Rattle.cd_outside.specs.declared.address.Address.{Address}
use Rattle.cd_addr.specs.Addresses.{is_address, written}
use Rattle.cd_module.specs.Faults.{refused, repeated_id, repeated_address, within}
use Rattle.cd_module.specs.Settings.{all_layer}
use Rattle.cd_module.specs.declared.fault.LoadFault.{LoadFault}
use Rattle.cd_module.specs.declared.fault.LoadFault.TheVariants.{NoMemory}
use Rattle.cd_module.specs.declared.fault.LoadKind.TheVariants.{WrongKind, NamedCycle}
use Rattle.cd_module.specs.declared.limits.Limit.TheVariants.{Modules, Addresses, Servers, ErrorSubroutes, ExpandedRoutes}
use Rattle.cd_routes.specs.Counting.{error_subroutes, expanded_routes}
use Rattle.cd_routes.specs.Invoking.{first_in_cycle}
use Rattle.cd_routes.specs.declared.server.Server.{Server}
use Rattle.cd_admin.specs.Admin.{admin_or_usual}
use Rattle.cd_log.specs.Logging.{logs_given}
use Rattle.cd_standard.specs.Configuration.{configuration}
use Rattle.cd_standard.specs.Plans.{modules_of, addresses_of, plan_of, root}
use Rattle.cd_standard.specs.declared.app.App.{App}
use Rattle.cd_standard.specs.declared.app.App.TheVariants.{Echo, Http}
use Rattle.cd_standard.specs.declared.checks.Check.{Check}
use Rattle.cd_standard.specs.declared.checks.Check.TheVariants as check
use Rattle.cd_standard.specs.declared.configuration.Configuration.{Configuration}
use Rattle.cd_standard.specs.declared.listening.Listened.{Listened}
use Rattle.cd_standard.specs.declared.loading.Configured.{Configured}

-- ---- ids

-- the faults of ids as faults of a configuration
abbrev pub of_ids : Option IdFault → Result (Unit {0}) LoadFault
of_ids None = Ok tt
of_ids (Some (id.Repeated name first second)) = Err (repeated_id name first second)
of_ids (Some (id.BadKind at)) = Err (refused WrongKind at)
of_ids (Some id.NoMemory) = Err NoMemory

-- ---- servers

abbrev pub app_servers : App → List Server
app_servers (Echo echo) = []
app_servers (Http http) = http.servers

abbrev pub servers_of : Configuration → List Server
servers_of c = flat_map app_servers c.apps

-- where a server's named route of that name is
abbrev pub named_route_at : Server → List ℕ → Path
named_route_at server name = root ▸ codes "apps" ▸ codes "http" ▸ codes "servers" ▸ server.name ▸ codes "named_routes" ▸ name

-- a named route that leads to itself
abbrev pub cycle_fault : Server → Option (List ℕ) → Result (Unit {0}) LoadFault
cycle_fault server None = Ok tt
cycle_fault server (Some name) = Err (refused NamedCycle (named_route_at server name))

-- what is checked of a server: that no named route leads to itself; that there are no more subroutes with errors than may be, and
-- that its routes weigh no more than they may
abbrev pub checked : Check → Server → Result (Unit {0}) LoadFault
checked check.NamedRoutes server = cycle_fault server (first_in_cycle server.named)
checked check.ErrorSubroutes server = within ErrorSubroutes (error_subroutes server)
checked check.ExpandedRoutes server = within ExpandedRoutes (expanded_routes server)

-- server after server
abbrev pub each_checked : Check → List Server → Result (Unit {0}) LoadFault
each_checked what [] = Ok tt
each_checked what (server ∷ servers) = checked what server ▷ λ _. each_checked what servers

-- no named route of these leads to itself
abbrev pub HaveNoCycle : List Server → Type 0
HaveNoCycle servers = each_checked check.NamedRoutes servers ≡ Ok tt

-- ---- limits

-- modules, addresses, servers, subroutes with errors, and expanded routes
abbrev pub limits : Configuration → Result (Unit {0}) LoadFault
limits c =
    within Modules (length (modules_of c)) ▷ λ _.
    within Addresses (length (addresses_of c)) ▷ λ _.
    within Servers (length (servers_of c)) ▷ λ _.
    each_checked check.ErrorSubroutes (servers_of c) ▷ λ _.
    each_checked check.ExpandedRoutes (servers_of c)

-- ---- addresses

abbrev pub is_among : Address → List Listened → Bool
is_among address listened = list_any (λ one. is_address address one.address) listened

-- the first address that is among those before it
abbrev pub all_distinct : List Listened → List Listened → Result (Unit {0}) LoadFault
all_distinct before [] = Ok tt
all_distinct before (one ∷ others) =
    if is_among one.address before then Err (repeated_address (written one.address) one.at) else all_distinct (before ++ one ∷ []) others

-- ---- the whole

-- what is said of the whole: cycles of named routes come before limits, and these before addresses
abbrev pub judged : Configuration → Result (Unit {0}) LoadFault
judged c =
    each_checked check.NamedRoutes (servers_of c) ▷ λ _.
    limits c ▷ λ _.
    all_distinct [] (addresses_of c)

abbrev pub planned : Configuration → Configured
planned c = record { configuration = c; plan = plan_of c }

abbrev pub accepted : Configuration → Result Configured LoadFault
accepted c = judged c ▷ λ _. Ok (planned c)

-- settings come before all that is said of the whole
abbrev pub of_settings : Tree → Result Configured LoadFault
of_settings t = configuration t root ▷ λ c. accepted c

-- ids come before settings
abbrev pub of_object : Tree → Result Configured LoadFault
of_object t = of_ids (id_fault t) ▷ λ _. of_settings t

-- what null says: nothing
abbrev pub nothing_said : Configuration
nothing_said = record { admin = admin_or_usual None; apps = []; logs = logs_given None }

-- null is a configuration, and all else is to be an object
unfoldable pub loaded : Tree → Result Configured LoadFault
loaded t = if is_null t then Ok (planned nothing_said) else (all_layer (out-Tree t) root ▷ λ _. of_object t)
