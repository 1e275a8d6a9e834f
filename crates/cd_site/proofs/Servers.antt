-- The servers of a tree are read as the routes of the sites of their ports.
use Rattle.std.proofs.Common.{◌≡◌, ℕ, suc, ◌+◌, ◌<◌, ◌≤◌, ◌^◌, Bool, true, false, not, ◌&&◌, ◌||◌, List, [], ◌∷◌, ◌++◌, map, length, Option, Some, None, Result, Ok, Err, refl, sym, ap, ap₂, ◌∙◌, subst, arith, decimal, eqb-true, unwrap_or}
use Rattle.std.specs.Prelude.{◌==◌, codes, if◌then◌else◌, ⊤, is_some}
use Rattle.std.specs.List.{find, list_any, list_all, flat_map}
use Rattle.std.proofs.lemmas.Bool.{and_parts, eq-eqb}
use Rattle.std.proofs.lemmas.List.{length-append}
use Rattle.std.proofs.lemmas.List.Concat.{flat_map-cons}
use Rattle.cd_text.specs.Steps.{◌▷◌}
use Rattle.cd_outside.specs.declared.address.Address.{Address}
use Rattle.cd_addr.specs.Addresses.{is_address}
use Rattle.cd_tree.specs.Path.{◌▸◌}
use Rattle.cd_tree.specs.declared.path.Path.{Path}
use Rattle.cd_tree.specs.declared.tree.Tree.{Tree}
use Rattle.cd_module.specs.Settings.{members, optional, needed, unread_object}
use Rattle.cd_routes.specs.Reading.{routes, error_routes, known_names, named_routes_read}
use Rattle.cd_routes.specs.Server.{listen, listened, timeouts, protocols, server_members, server}
use Rattle.cd_routes.specs.declared.server.Server.{Server}
use Rattle.cd_standard.specs.Acting.{stdio_address, has_address}
use Rattle.cd_standard.specs.Plans.{routes_modules, after_routes, server_modules}
use Rattle.cd_caddyfile.specs.Shape as shape
use Rattle.cd_caddyfile.specs.Shape.{Entry, member, list, text_list, sites_at}
use Rattle.cd_caddyfile.specs.Sites.{Site}
use Rattle.cd_site.specs.Settings.{group_name, site_routes, all_groups}
use Rattle.cd_site.specs.Ids.{HasFitIds}
use Rattle.cd_site.specs.Variables.{are_plain}
use Rattle.cd_site.proofs.Marks.{HaveFitValues, in_member, first_value, other_values}
use Rattle.cd_site.proofs.Objects.{Went, went, same_value, list_solid, sorted, rolled, members_are, needed_there, each_entry}
use Rattle.cd_site.proofs.Routes.{option_read, routes_read, same_all_groups}
use Rattle.cd_site.proofs.Listening.{listen_read}
use Rattle.cd_site.proofs.Modules.{sites_within}
use Rattle.cd_site.proofs.Parts.{Part, entry_of, part_name, groups_at, sum_of, ends_below, is_small, plain_at, le_is}

-- ---- one server

pub record ServerRead (ss : List Site) (port n : ℕ) (s : Server) : Type 0 where
  pub listens : listened s.listen ≡ record { host = []; port = port } ∷ []
  pub routes_are : s.routes ≡ site_routes group_name ss n
  pub no_errors : s.errors ≡ None

abbrev names : List ℕ
names = codes "listen routes errors named_routes logs read_timeout read_header_timeout write_timeout idle_timeout keepalive_interval max_header_bytes automatic_https protocols strict_sni_host"

abbrev server_entries : ℕ → List Site → ℕ → List Entry
server_entries port ss n = member (codes "listen") (text_list ((58 ∷ decimal port) ∷ [])) ∷ member (codes "routes") (list (shape.site_routes ss n)) ∷ []

pub server_read : (name : List ℕ) (ss : List Site) (port n : ℕ) (at : Path) (s : Server) → port < 2 ^ 64 → list_all (λ (s : Site). are_plain s.block) ss ≡ true →
    HasFitIds (shape.server port ss n) at → server name (shape.server port ss n) at ≡ Ok s → ServerRead ss port n s
unfolding server server_members
server_read name ss port n at s small plain fit h =
    let es = server_entries port ss n in
    let ms = went (members names (shape.server port ss n) at) _ s h in
    let known = known_names ms.value at in
    let same : ms.value ≡ rolled (sorted es) = sym (same_value _ ms.value (sym (members_are names es at refl) ∙ ms.is)) in
    let addresses = went (needed listen (codes "listen") ms.value at) _ s ms.rest in
    let found = went (optional (routes known) (codes "routes") ms.value at) _ s addresses.rest in
    let errors = went (optional (error_routes (routes known)) (codes "errors") ms.value at) _ s found.rest in
    let named = went (optional (named_routes_read known) (codes "named_routes") ms.value at) _ s errors.rest in
    let logs = went (optional unread_object (codes "logs") ms.value at) _ s named.rest in
    let times = went (timeouts ms.value at) _ s logs.rest in
    let others = went (protocols ms.value at) _ s times.rest in
    let whole : record { name = name; listen = addresses.value; routes = unwrap_or found.value []; errors = errors.value; named = unwrap_or named.value []; logs = is_some logs.value } ≡ s = same_value _ s others.rest in
    let listen_is = sym (ap (λ l. needed listen (codes "listen") l at) same ∙ needed_there listen (codes "listen") (sorted es) at (text_list ((58 ∷ decimal port) ∷ [])) refl (list_solid _)) ∙ addresses.is in
    let read = option_read (routes known) (codes "routes") (sorted es) ms.value at (Some (list (shape.site_routes ss n))) found.value same refl (list_solid _) found.is in
    let none : errors.value ≡ None = option_read (error_routes (routes known)) (codes "errors") (sorted es) ms.value at None errors.value same refl tt errors.is in
    record {
      listens = ap (λ (x : Server). listened x.listen) (sym whole) ∙ listen_read port (at ▸ codes "listen") addresses.value small listen_is;
      routes_are = ap (λ (x : Server). x.routes) (sym whole) ∙ (ap (λ o. unwrap_or o []) read.2
          ∙ routes_read known ss n (at ▸ codes "routes") read.0 plain (in_member (codes "routes") es at (list (shape.site_routes ss n)) refl refl fit) read.1);
      no_errors = ap (λ (x : Server). x.errors) (sym whole) ∙ none;
    }

-- ---- all servers

abbrev pub Served : List Site → List Part → List Server → Type 0
Served ss [] [] = ⊤
Served ss [] (s ∷ servers) = ⊥
Served ss (p ∷ ps) [] = ⊥
Served ss (p ∷ ps) (s ∷ servers) = ServerRead (sites_at p.port ss) p.port p.first s × Served ss ps servers

pub servers_read : (ss : List Site) (ps : List Part) (at : Path) (servers : List Server) → list_all (λ (p : Part). is_small p.port) ps ≡ true → list_all (λ (s : Site). are_plain s.block) ss ≡ true →
    HaveFitValues (map (entry_of ss) ps) at → each_entry server (map (entry_of ss) ps) at ≡ Ok servers → Served ss ps servers
servers_read ss [] at servers small plain fit h = subst (Served ss []) (same_value [] servers h) tt
servers_read ss (p ∷ ps) at servers small plain fit h =
    let both = and_parts (is_small p.port) (list_all (λ (p : Part). is_small p.port) ps) small in
    let tree = shape.server p.port (sites_at p.port ss) p.first in
    let one = went (server (part_name p) tree (at ▸ part_name p)) _ servers h in
    let more = went (each_entry server (map (entry_of ss) ps) at) _ servers one.rest in
    let read = server_read (part_name p) (sites_at p.port ss) p.port p.first (at ▸ part_name p) one.value (omega (arith, le_is p.port 65535 both.0)) (plain_at p.port ss plain)
    (first_value (entry_of ss p) (map (entry_of ss) ps) at refl fit) one.is in
    subst (Served ss (p ∷ ps)) (same_value (one.value ∷ more.value) servers more.rest)
    (read, servers_read ss ps at more.value both.1 plain (other_values (entry_of ss p) (map (entry_of ss) ps) at fit) more.is)

-- ---- groups

pub groups_within : (ss : List Site) (ps : List Part) (servers : List Server) (at : Path) → Served ss ps servers → sum_of ss ps ≤ length (flat_map (server_modules at) servers)
groups_within ss [] [] at served = omega arith
groups_within ss [] (s ∷ servers) at served = elim served [ ]
groups_within ss (p ∷ ps) [] at served = elim served [ ]
groups_within ss (p ∷ ps) (s ∷ servers) at served =
    let place = at ▸ s.name ▸ codes "routes" in
    let split = ap length (flat_map-cons (server_modules at) s servers) ∙ length-append (server_modules at s) (flat_map (server_modules at) servers) in
    let first = length-append (routes_modules s.routes place) (after_routes s (at ▸ s.name)) in
    let own = sites_within group_name (sites_at p.port ss) p.first place in
    let same = ap (λ rs. length (routes_modules rs place)) served.0.routes_are in
    omega (arith, split, first, own, same, same_all_groups (sites_at p.port ss), groups_within ss ps servers at served.1)

-- ---- the server of a port

abbrev pub address_at : ℕ → Address
address_at port = record { host = []; port = port }

-- the server that is found, with its part
pub record Found (ss : List Site) (port total : ℕ) (servers : List Server) : Type 0 where
  pub n : ℕ
  pub one : Server
  pub found : find (has_address (address_at port)) servers ≡ Some one
  pub read : ServerRead (sites_at port ss) port n one
  pub room : n + all_groups (sites_at port ss) ≤ total

same_port : (port : ℕ) (s : Server) (p : ℕ) → listened s.listen ≡ address_at p ∷ [] → has_address (address_at port) s ≡ (port == p)
same_port port s p is = ap (list_any (is_address (address_at port))) is ∙ or_false (port == p)
  where
    or_false : (b : Bool) → (b || false) ≡ b
    or_false true = refl
    or_false false = refl

sym_equal : (a b : ℕ) (t : Bool) → (a == b) ≡ t → (b == a) ≡ t
sym_equal a b true is = ap (λ n. b == n) (eqb-true a b is) ∙ eq-eqb b b refl
sym_equal a b false is = by (b == a) refl
  where
    by : (u : Bool) → (b == a) ≡ u → u ≡ false
    by true same = let other : (a == b) ≡ true = ap (λ n. a == n) (eqb-true b a same) ∙ eq-eqb a a refl in cc
    by false same = refl

pub server_found : (ss : List Site) (port total : ℕ) (ps : List Part) (servers : List Server) → Served ss ps servers → list_any (λ (p : Part). p.port == port) ps ≡ true →
    list_all (ends_below ss total) ps ≡ true → Found ss port total servers
server_found ss port total [] servers served some below = cc
server_found ss port total (p ∷ ps) [] served some below = elim served [ ]
server_found ss port total (p ∷ ps) (s ∷ servers) served some below =
    let both = and_parts (ends_below ss total p) (list_all (ends_below ss total) ps) below in
    by (p.port == port) refl some (λ later. server_found ss port total ps servers served.1 later both.1) served.0 (le_is (p.first + groups_at ss p) total both.0)
  where
    by : (t : Bool) → (p.port == port) ≡ t → (t || list_any (λ (p : Part). p.port == port) ps) ≡ true → (list_any (λ (p : Part). p.port == port) ps ≡ true → Found ss port total servers) →
        ServerRead (sites_at p.port ss) p.port p.first s → p.first + groups_at ss p ≤ total → Found ss port total (s ∷ servers)
    by true is some later read room =
        let same : p.port ≡ port = eqb-true p.port port is in
        record {
          n = p.first;
          one = s;
          found = rw (same_port port s p.port read.listens ∙ sym_equal p.port port true is) refl;
          read = subst (λ q. ServerRead (sites_at q ss) q p.first s) same read;
          room = subst (λ q. p.first + all_groups (sites_at q ss) ≤ total) same (omega (arith, same_all_groups (sites_at p.port ss), room));
        }
    by false is some later read room =
        let inner = later some in
        record {
          n = inner.n;
          one = inner.one;
          found = rw (same_port port s p.port read.listens ∙ sym_equal p.port port false is) inner.found;
          read = inner.read;
          room = inner.room;
        }
