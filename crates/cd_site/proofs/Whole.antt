-- What the tree of sites does at a port.
use Rattle.std.proofs.Common.{◌≡◌, ℕ, ◌+◌, ◌≤◌, ◌^◌, Bool, true, false, not, ◌&&◌, ◌||◌, List, [], ◌∷◌, ◌++◌, map, length, Option, Some, None, Result, Ok, Err, refl, sym, ap, ap₂, ◌∙◌, subst, arith, decimal, append-nil}
use Rattle.std.specs.Prelude.{◌==◌, codes, if◌then◌else◌, ⊤, is_some}
use Rattle.std.specs.List.{find, list_any, list_all, flat_map}
use Rattle.std.specs.Result.{result_map_both}
use Rattle.std.specs.Str.{bytes_eq}
use Rattle.std.proofs.lemmas.List.{length-append}
use Rattle.cd_text.specs.ByKey.{by_key}
use Rattle.cd_text.specs.Steps.{◌▷◌}
use Rattle.cd_addr.specs.Addresses.{is_address}
use Rattle.cd_tree.specs.Fields.{is_null}
use Rattle.cd_tree.specs.Path.{◌▸◌}
use Rattle.cd_tree.specs.declared.path.Path.{Path}
use Rattle.cd_tree.specs.declared.tree.Tree.{Tree, out-Tree}
use Rattle.cd_wire.specs.declared.request.Request.{Request}
use Rattle.cd_ids.specs.Ids.{id_fault}
use Rattle.cd_ids.specs.declared.fault.IdFault.{IdFault}
use Rattle.cd_ids.specs.declared.fault.IdFault.TheVariants as id
use Rattle.cd_module.specs.Settings.{all_layer, number_or_text, members, optional, object_of}
use Rattle.cd_module.specs.declared.fault.LoadFault.{LoadFault}
use Rattle.cd_module.specs.declared.limits.TheConstants.{MAX_MODULES}
use Rattle.cd_routes.specs.Server.{server}
use Rattle.cd_routes.specs.declared.server.Server.{Server}
use Rattle.cd_routes.specs.Serving.{server_answer}
use Rattle.cd_legal.specs.declared.plan.Plan.{Plan}
use Rattle.cd_module_set.specs.Acts.{answer_at, by_app}
use Rattle.cd_module_set.specs.declared.target.Target.TheVariants.{Admin, App, Nobody}
use Rattle.cd_admin.specs.Admin.{admin, usual_admin, admin_or_usual}
use Rattle.cd_log.specs.Logging.{logging}
use Rattle.cd_standard.specs.Acting.{echo_at, admin_at, target_at, server_at, has_address, answer_by, acts_of, acts_in, acts_of_tree, plan_of_tree}
use Rattle.cd_standard.specs.Configuration.{servers, servers_or_none, apps_or_none, http, app, apps, configuration}
use Rattle.cd_standard.specs.Loading.{of_ids, of_settings, of_object, judged, accepted, planned, nothing_said, loaded, app_servers, servers_of}
use Rattle.cd_standard.specs.Plans.{root, server_modules, app_modules, apps_modules, writer_modules, modules_of}
use Rattle.cd_standard.specs.declared.app.App.TheVariants.{Http as IsHttp}
use Rattle.cd_standard.specs.declared.configuration.Configuration.{Configuration}
use Rattle.cd_standard.specs.declared.http.Http.{Http}
use Rattle.cd_standard.specs.declared.loading.Configured.{Configured}
use Rattle.cd_standard.proofs.Doing.{loaded_keeps}
use Rattle.cd_caddyfile.specs.Shape as shape
use Rattle.cd_caddyfile.specs.Shape.{Entry, member, object, ports_after, shape}
use Rattle.cd_caddyfile.specs.Sites.{Site}
use Rattle.cd_site.proofs.Sites.{server_answers}
use Rattle.cd_site.specs.Answering.{site_answer}
use Rattle.cd_site.specs.Ids.{HasFitIds}
use Rattle.cd_site.specs.Variables.{are_plain}
use Rattle.cd_site.proofs.Marks.{HaveFitValues, fit_at_root, in_object, in_member}
use Rattle.cd_site.proofs.Objects.{Went, went, same_value, object_solid, sorted, rolled, sorted_entries, members_are, all_set, each_entry, entries_are}
use Rattle.cd_site.proofs.Routes.{option_read}
use Rattle.cd_site.proofs.Parts.{Part, parts_from, part_name, entry_of, entries_of_parts, all_by_key, any_by_key, sum_of, sum_by_key, ends_below, all_end_below, is_small, ports_small, parts_small, port_met, part_met}
use Rattle.cd_site.proofs.Servers.{Served, servers_read, groups_within, Found, server_found, address_at}

-- ---- what was loaded

abbrev servers_path : Path
servers_path = root ▸ codes "apps" ▸ codes "http" ▸ codes "servers"

abbrev http_entries : List Entry → List Entry
http_entries es = member (codes "servers") (object es) ∷ []

abbrev apps_entries : List Entry → List Entry
apps_entries es = member (codes "http") (object (http_entries es)) ∷ []

abbrev all_entries : List Entry → List Entry
all_entries es = member (codes "apps") (object (apps_entries es)) ∷ []

none_by : (o : Option IdFault) → of_ids o ≡ Ok tt → o ≡ None
none_by None h = refl
none_by (Some (id.Repeated name first second)) h = cc
none_by (Some (id.BadKind at)) h = cc
none_by (Some id.NoMemory) h = cc

record LoadedRead (es : List Entry) (l : Configured) : Type 0 where
  fit : HasFitIds (shape.apps es) root
  read : configuration (shape.apps es) root ≡ Ok l.configuration

loaded_read : (es : List Entry) (l : Configured) → loaded (shape.apps es) ≡ Ok l → LoadedRead es l
unfolding loaded
loaded_read es l h =
    let t = shape.apps es in
    let some = ap (λ b. if b then Ok (planned nothing_said) else (all_layer (out-Tree t) root ▷ λ _. of_object t)) (sym (object_solid (all_entries es))) ∙ h in
    let layer = went (all_layer (out-Tree t) root) (λ _. of_object t) l some in
    let ids = went (of_ids (id_fault t)) (λ _. of_settings t) l layer.rest in
    let read = went (configuration t root) (λ c. accepted c) l ids.rest in
    let fine = went (judged read.value) (λ _. Ok (planned read.value)) l read.rest in
    record {
      fit = fit_at_root t (none_by (id_fault t) ids.is);
      read = read.is ∙ ap (λ (x : Configured). Ok x.configuration) (same_value (planned read.value) l fine.rest);
    }

-- ---- the configuration

record ServersRead (es : List Entry) (c : Configuration) : Type 0 where
  all : List Server
  read : each_entry server (sorted es) servers_path ≡ Ok all
  apps_are : c.apps ≡ IsHttp (record { servers = all }) ∷ []
  admin_is : c.admin ≡ usual_admin

record HttpRead (es : List Entry) (found : Http) (at : Path) : Type 0 where
  all : List Server
  read : each_entry server (sorted es) (at ▸ codes "servers") ≡ Ok all
  whole : found ≡ record { servers = all }

http_read : (es : List Entry) (found : Http) (at : Path) → all_set (sorted es) ≡ true → http (object (http_entries es)) at ≡ Ok found → HttpRead es found at
unfolding http servers
http_read es found at set h =
    let ms = went (members (codes "http_port https_port grace_period shutdown_delay servers") (object (http_entries es)) at) _ found h in
    let same : ms.value ≡ rolled (sorted (http_entries es)) = sym (same_value _ ms.value (sym (members_are (codes "http_port https_port grace_period shutdown_delay servers") (http_entries es) at refl) ∙ ms.is)) in
    let one = went (optional number_or_text (codes "http_port") ms.value at) _ found ms.rest in
    let two = went (optional number_or_text (codes "https_port") ms.value at) _ found one.rest in
    let three = went (optional number_or_text (codes "grace_period") ms.value at) _ found two.rest in
    let four = went (optional number_or_text (codes "shutdown_delay") ms.value at) _ found three.rest in
    let last = went (optional servers (codes "servers") ms.value at) _ found four.rest in
    let read = option_read servers (codes "servers") (sorted (http_entries es)) ms.value at (Some (object es)) last.value same refl (object_solid es) last.is in
    let all = went (object_of server (object es) (at ▸ codes "servers")) _ read.0 read.1 in
    record {
      all = all.value;
      read = sym (entries_are server es (at ▸ codes "servers") set) ∙ all.is;
      whole = sym (same_value _ found last.rest) ∙ ap (λ l. record { servers = l }) (ap servers_or_none read.2 ∙ ap (λ s. servers_or_none (Some s)) (sym (same_value _ read.0 all.rest)));
    }

apps_set : (es : List Entry) → all_set (sorted (apps_entries es)) ≡ true
apps_set es = rw (object_solid (http_entries es)) refl

configuration_read : (es : List Entry) (c : Configuration) → all_set (sorted es) ≡ true → configuration (shape.apps es) root ≡ Ok c → ServersRead es c
unfolding configuration apps app
configuration_read es c set h =
    let ms = went (members (codes "admin apps logging") (shape.apps es) root) _ c h in
    let same : ms.value ≡ rolled (sorted (all_entries es)) = sym (same_value _ ms.value (sym (members_are (codes "admin apps logging") (all_entries es) root refl) ∙ ms.is)) in
    let given = went (optional admin (codes "admin") ms.value root) _ c ms.rest in
    let found = went (optional apps (codes "apps") ms.value root) _ c given.rest in
    let said = went (optional logging (codes "logging") ms.value root) _ c found.rest in
    let none : given.value ≡ None = option_read admin (codes "admin") (sorted (all_entries es)) ms.value root None given.value same refl tt given.is in
    let read = option_read apps (codes "apps") (sorted (all_entries es)) ms.value root (Some (object (apps_entries es))) found.value same refl (object_solid (apps_entries es)) found.is in
    let place = root ▸ codes "apps" in
    let each = went (object_of app (object (apps_entries es)) place) _ read.0 read.1 in
    let one = went (app (codes "http") (object (http_entries es)) (place ▸ codes "http")) _ each.value (sym (entries_are app (apps_entries es) place (apps_set es)) ∙ each.is) in
    let said_http = went (http (object (http_entries es)) (place ▸ codes "http")) (λ found. Ok (IsHttp found)) one.value one.is in
    let inner = http_read es said_http.value (place ▸ codes "http") set said_http.is in
    let whole = same_value _ c said.rest in
    record {
      all = inner.all;
      read = inner.read;
      apps_are = ap (λ (x : Configuration). x.apps) (sym whole) ∙ (ap apps_or_none read.2 ∙ (ap (λ a. apps_or_none (Some a)) (sym (same_value _ read.0 each.rest))
          ∙ (sym (same_value (one.value ∷ []) each.value one.rest) ∙ (ap (λ a. a ∷ []) (sym (same_value _ one.value said_http.rest)) ∙ ap (λ h. IsHttp h ∷ []) inner.whole))));
      admin_is = ap (λ (x : Configuration). x.admin) (sym whole) ∙ ap admin_or_usual none;
    }

-- ---- what it does

servers_within : (c : Configuration) (all : List Server) → c.apps ≡ IsHttp (record { servers = all }) ∷ [] → length (flat_map (server_modules servers_path) all) ≤ length (modules_of c)
servers_within c all is =
    let whole = length-append (writer_modules c.logs) (apps_modules c.apps) in
    let same = ap (λ l. length (apps_modules l)) is in
    let one = length-append (app_modules (root ▸ codes "apps") (IsHttp (record { servers = all }))) [] in
    omega (arith, whole, same, one)

entries_set : (ss : List Site) (ps : List Part) → all_set (map (entry_of ss) ps) ≡ true
entries_set ss [] = refl
entries_set ss (p ∷ ps) = rw (object_solid (member (codes "listen") (shape.text_list ((58 ∷ decimal p.port) ∷ [])) ∷ member (codes "routes") (shape.list (shape.site_routes (shape.sites_at p.port ss) p.first)) ∷ []))
    (entries_set ss ps)

answered : (c : Configuration) (all : List Server) (ss : List Site) (port total : ℕ) (q : Request) → c.apps ≡ IsHttp (record { servers = all }) ∷ [] → c.admin ≡ usual_admin → total ≤ 2 ^ 64 →
    Found ss port total all → answer_at (acts_of c) (address_at port) q ≡ Some (site_answer ss port q)
answered c all ss port total q apps_are admin_is few found =
    let servers_are : servers_of c ≡ all = ap (λ l. flat_map app_servers l) apps_are ∙ append-nil all in
    let there : server_at c (address_at port) ≡ Some found.one = ap (find (has_address (address_at port))) servers_are ∙ found.found in
    let away : admin_at c (address_at port) ≡ false = ap (λ a. not a.disabled && is_address (address_at port) a.listen) admin_is in
    ap₂ (λ b o. by_app (if b then Admin else (if is_some o || echo_at c (address_at port) then App else Nobody)) (answer_by o q)) away there
    ∙ ap (λ a. Some a) (server_answers ss port found.n found.one q (omega (arith, found.room, few)) found.read.routes_are found.read.no_errors)

pub tree_answers : (ss : List Site) (es : List Entry) (l : Configured) (port : ℕ) (q : Request) → list_all (λ (s : Site). are_plain s.block) ss ≡ true → list_all (λ (s : Site). is_small s.address.port) ss ≡ true →
    list_any (λ (s : Site). s.address.port == port) ss ≡ true → es ≡ shape.servers (ports_after [] ss) ss 0 0 → loaded (shape.apps es) ≡ Ok l →
    answer_at (acts_of l.configuration) (address_at port) q ≡ Some (site_answer ss port q)
tree_answers ss es l port q plain small some is h =
    let parts = parts_from (ports_after [] ss) ss 0 0 in
    let ps = by_key part_name parts in
    let in_order : sorted es ≡ map (entry_of ss) ps = ap sorted (is ∙ entries_of_parts (ports_after [] ss) ss 0 0) ∙ sorted_entries (entry_of ss) parts in
    let set : all_set (sorted es) ≡ true = ap all_set in_order ∙ entries_set ss ps in
    let first = loaded_read es l h in
    let read = configuration_read es l.configuration set first.read in
    let fit = in_object es servers_path (in_member (codes "servers") (http_entries es) (root ▸ codes "apps" ▸ codes "http") (object es) refl refl
    (in_member (codes "http") (apps_entries es) (root ▸ codes "apps") (object (http_entries es)) refl refl
    (in_member (codes "apps") (all_entries es) root (object (apps_entries es)) refl refl first.fit))) in
    let served = servers_read ss ps servers_path read.all
    (all_by_key part_name (λ (p : Part). is_small p.port) parts ∙ parts_small (ports_after [] ss) ss 0 0 (ports_small [] ss small)) plain
    (subst (λ x. HaveFitValues x servers_path) in_order fit)
    (ap (λ x. each_entry server x servers_path) (sym in_order) ∙ read.read) in
    let total = sum_of ss parts in
    let found = server_found ss port total ps read.all served
    (any_by_key part_name (λ (p : Part). p.port == port) parts ∙ part_met port (ports_after [] ss) ss 0 0 (port_met port ss some))
    (all_by_key part_name (ends_below ss total) parts ∙ all_end_below (ports_after [] ss) ss 0 0 total (omega arith)) in
    answered l.configuration read.all ss port total q read.apps_are read.admin_is
    (omega (arith, sum_by_key ss parts, groups_within ss ps read.all servers_path served, servers_within l.configuration read.all read.apps_are, (loaded_keeps (shape.apps es) l h).few)) found

record IsLoaded (t : Tree) : Type 0 where
  value : Configured
  is : loaded t ≡ Ok value

loaded_from : (t : Tree) (r : Result Configured LoadFault) (plan : Plan) → loaded t ≡ r → result_map_both (λ configured. configured.plan) (λ fault. fault) r ≡ Ok plan → IsLoaded t
loaded_from t (Ok l) plan is h = record { value = l; is = is }
loaded_from t (Err fault) plan is h = cc

pub sites_answer_at : (ss : List Site) (plan : Plan) (port : ℕ) (q : Request) → list_all (λ (s : Site). are_plain s.block) ss ≡ true → list_all (λ (s : Site). is_small s.address.port) ss ≡ true →
    list_any (λ (s : Site). s.address.port == port) ss ≡ true → plan_of_tree (shape ss) ≡ Ok plan → answer_at (acts_of_tree (shape ss)) (address_at port) q ≡ Some (site_answer ss port q)
unfolding shape
sites_answer_at [] plan port q plain small some h = cc
sites_answer_at (s ∷ ss) plan port q plain small some h =
    let l = loaded_from (shape (s ∷ ss)) (loaded (shape (s ∷ ss))) plan refl h in
    ap (λ r. answer_at (acts_in r) (address_at port) q) l.is
    ∙ tree_answers (s ∷ ss) (shape.servers (ports_after [] (s ∷ ss)) (s ∷ ss) 0 0) l.value port q plain small some refl l.is
