-- What a tree comes to as a configuration does not depend on memory.
use Rattle.std.proofs.Common.{◌≡◌, ◌≢◌, ℕ, true, List, [], ◌∷◌, ◌++◌, length, refl, Option, Some, None, Result, Ok, Err}
use Rattle.std.specs.Prelude.{codes, nat_le}
use Rattle.std.specs.Result.{result_map_both}
use Rattle.std.specs.Str.{bytes_eq}
use Rattle.cd_tree.specs.Fields.{is_null}
use Rattle.cd_tree.specs.declared.tree.Tree.{Tree, out-Tree}
use Rattle.cd_ids.specs.Ids.{id_fault}
use Rattle.cd_ids.specs.declared.fault.IdFault.{IdFault}
use Rattle.cd_ids.specs.declared.fault.IdFault.TheVariants as id
use Rattle.cd_ids.proofs.Sure.{id_fault-sure, is_said as is_fault_of_ids}
use Rattle.cd_module.specs.Faults.{within}
use Rattle.cd_module.specs.Limits.{most}
use Rattle.cd_module.specs.Settings.{number_or_text, object_of, all_layer, members, optional, needed}
use Rattle.cd_module.specs.declared.fault.LoadFault.{LoadFault}
use Rattle.cd_module.specs.declared.fault.LoadFault.TheVariants.{Refused, NoMemory}
use Rattle.cd_module.specs.declared.limits.Limit.{Limit}
use Rattle.cd_module.specs.declared.limits.Limit.TheVariants.{Modules, Addresses, Servers, ErrorSubroutes, ExpandedRoutes}
use Rattle.cd_module.proofs.Sure.{is_said, IsSure, never_lacks, then-sure, if-sure, number_or_text-sure, members-sure, optional-sure, needed-sure, all-sure, object_of-sure}
use Rattle.cd_routes.specs.Counting.{error_subroutes, expanded_routes}
use Rattle.cd_routes.specs.Invoking.{first_in_cycle}
use Rattle.cd_routes.specs.Server.{listen, server}
use Rattle.cd_routes.specs.declared.server.Server.{Server}
use Rattle.cd_routes.proofs.Sure.{listen-sure, server-sure}
use Rattle.cd_admin.specs.Admin.{admin}
use Rattle.cd_admin.proofs.Sure.{admin-sure}
use Rattle.cd_log.specs.Logging.{logging}
use Rattle.cd_log.proofs.Sure.{logging-sure}
use Rattle.cd_standard.specs.Acting.{plan_of_tree}
use Rattle.cd_standard.specs.Configuration.{echo, servers, http, app, apps, configuration}
use Rattle.cd_standard.specs.Loading.{of_ids, servers_of, cycle_fault, checked, each_checked, limits, is_among, all_distinct, judged, accepted, of_settings, of_object, loaded}
use Rattle.cd_standard.specs.Plans.{modules_of, addresses_of, root}
use Rattle.cd_standard.specs.declared.checks.Check.{Check}
use Rattle.cd_standard.specs.declared.checks.Check.TheVariants as check
use Rattle.cd_standard.specs.declared.configuration.Configuration.{Configuration}
use Rattle.cd_standard.specs.declared.listening.Listened.{Listened}
use Rattle.cd_standard.specs.declared.loading.Configured.{Configured}

-- ---- settings

echo-sure : IsSure echo
unfolding echo
echo-sure = record {
  sure = λ t at.
      then-sure (members (codes "listen") t at) _ (members-sure (codes "listen") t at) (λ ms.
      then-sure (needed listen (codes "listen") ms at) _ (needed-sure listen listen-sure (codes "listen") ms at) (λ addresses.
      refl));
}

servers-sure : IsSure servers
unfolding servers
servers-sure = record { sure = λ t at. then-sure (object_of server t at) _ ((object_of-sure server server-sure).sure t at) (λ found. refl) }

http-sure : IsSure http
unfolding http
http-sure = record {
  sure = λ t at.
      then-sure (members (codes "http_port https_port grace_period shutdown_delay servers") t at) _ (members-sure (codes "http_port https_port grace_period shutdown_delay servers") t at) (λ ms.
      then-sure (optional number_or_text (codes "http_port") ms at) _ (optional-sure number_or_text number_or_text-sure (codes "http_port") ms at) (λ u.
      then-sure (optional number_or_text (codes "https_port") ms at) _ (optional-sure number_or_text number_or_text-sure (codes "https_port") ms at) (λ u.
      then-sure (optional number_or_text (codes "grace_period") ms at) _ (optional-sure number_or_text number_or_text-sure (codes "grace_period") ms at) (λ u.
      then-sure (optional number_or_text (codes "shutdown_delay") ms at) _ (optional-sure number_or_text number_or_text-sure (codes "shutdown_delay") ms at) (λ u.
      then-sure (optional servers (codes "servers") ms at) _ (optional-sure servers servers-sure (codes "servers") ms at) (λ found.
      refl))))));
}

app-sure : (name : List ℕ) → IsSure (app name)
unfolding app
app-sure name = record {
  sure = λ t at. if-sure (bytes_eq name (codes "echo")) _ _ (then-sure (echo t at) _ (echo-sure.sure t at) (λ found. refl))
      (if-sure (bytes_eq name (codes "http")) _ _ (then-sure (http t at) _ (http-sure.sure t at) (λ found. refl)) refl);
}

apps-sure : IsSure apps
unfolding apps
apps-sure = record { sure = λ t at. then-sure (object_of app t at) _ ((object_of-sure app app-sure).sure t at) (λ found. refl) }

configuration-sure : IsSure configuration
unfolding configuration
configuration-sure = record {
  sure = λ t at.
      then-sure (members (codes "admin apps logging") t at) _ (members-sure (codes "admin apps logging") t at) (λ ms.
      then-sure (optional admin (codes "admin") ms at) _ (optional-sure admin admin-sure (codes "admin") ms at) (λ given.
      then-sure (optional apps (codes "apps") ms at) _ (optional-sure apps apps-sure (codes "apps") ms at) (λ found.
      then-sure (optional logging (codes "logging") ms at) _ (optional-sure logging logging-sure (codes "logging") ms at) (λ said.
      refl))));
}

-- ---- what is said of the whole

within-sure : (limit : Limit) (count : ℕ) → is_said (within limit count) ≡ true
within-sure limit count = if-sure (nat_le count (most limit)) _ _ refl refl

cycle-sure : (server : Server) (found : Option (List ℕ)) → is_said (cycle_fault server found) ≡ true
cycle-sure server None = refl
cycle-sure server (Some name) = refl

checked-sure : (what : Check) (server : Server) → is_said (checked what server) ≡ true
checked-sure check.NamedRoutes server = cycle-sure server (first_in_cycle server.named)
checked-sure check.ErrorSubroutes server = within-sure ErrorSubroutes (error_subroutes server)
checked-sure check.ExpandedRoutes server = within-sure ExpandedRoutes (expanded_routes server)

each_checked-sure : (what : Check) (servers : List Server) → is_said (each_checked what servers) ≡ true
each_checked-sure what [] = refl
each_checked-sure what (server ∷ servers) = then-sure (checked what server) _ (checked-sure what server) (λ u. each_checked-sure what servers)

limits-sure : (c : Configuration) → is_said (limits c) ≡ true
limits-sure c =
    then-sure (within Modules (length (modules_of c))) _ (within-sure Modules (length (modules_of c))) (λ u.
    then-sure (within Addresses (length (addresses_of c))) _ (within-sure Addresses (length (addresses_of c))) (λ u.
    then-sure (within Servers (length (servers_of c))) _ (within-sure Servers (length (servers_of c))) (λ u.
    then-sure (each_checked check.ErrorSubroutes (servers_of c)) _ (each_checked-sure check.ErrorSubroutes (servers_of c)) (λ u.
    each_checked-sure check.ExpandedRoutes (servers_of c)))))

distinct-sure : (before listened : List Listened) → is_said (all_distinct before listened) ≡ true
distinct-sure before [] = refl
distinct-sure before (one ∷ others) = if-sure (is_among one.address before) _ _ refl (distinct-sure (before ++ one ∷ []) others)

judged-sure : (c : Configuration) → is_said (judged c) ≡ true
judged-sure c =
    then-sure (each_checked check.NamedRoutes (servers_of c)) _ (each_checked-sure check.NamedRoutes (servers_of c)) (λ u.
    then-sure (limits c) _ (limits-sure c) (λ u. distinct-sure [] (addresses_of c)))

accepted-sure : (c : Configuration) → is_said (accepted c) ≡ true
accepted-sure c = then-sure (judged c) _ (judged-sure c) (λ u. refl)

-- ---- the whole

of_ids-sure : (o : Option IdFault) → is_fault_of_ids o ≡ true → is_said (of_ids o) ≡ true
of_ids-sure None e = refl
of_ids-sure (Some (id.Repeated name first second)) e = refl
of_ids-sure (Some (id.BadKind at)) e = refl
of_ids-sure (Some id.NoMemory) e = cc

settings-sure : (t : Tree) → is_said (of_settings t) ≡ true
settings-sure t = then-sure (configuration t root) _ (configuration-sure.sure t root) (λ c. accepted-sure c)

of_object-sure : (t : Tree) → is_said (of_object t) ≡ true
of_object-sure t = then-sure (of_ids (id_fault t)) _ (of_ids-sure (id_fault t) (id_fault-sure t)) (λ u. settings-sure t)

loaded-sure : (t : Tree) → is_said (loaded t) ≡ true
unfolding loaded
loaded-sure t = if-sure (is_null t) _ _ refl (then-sure (all_layer (out-Tree t) root) _ (all-sure (out-Tree t) root) (λ u. of_object-sure t))

plan-sure : (r : Result Configured LoadFault) → is_said r ≡ true → is_said (result_map_both (λ configured. configured.plan) (λ fault. fault) r) ≡ true
plan-sure (Ok configured) e = refl
plan-sure (Err (Refused fault)) e = refl
plan-sure (Err NoMemory) e = cc

-- the plan of a tree, or its fault, is never that memory lacks
pub plan_is_sure : (t : Tree) → plan_of_tree t ≢ Err NoMemory
plan_is_sure t = never_lacks (plan_of_tree t) (plan-sure (loaded t) (loaded-sure t))
