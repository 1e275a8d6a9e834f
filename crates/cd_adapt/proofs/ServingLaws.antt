-- The routes of sites, servers and the whole configuration, by their measured parts.
use Rattle.std.proofs.Common.{◌≡◌, ℕ, suc, ◌+◌, ◌*◌, ◌^◌, ◌≤◌, ◌<◌, ◌==◌, ◌&&◌, ◌||◌, not, Bool, true, false, if◌then◌else◌, List, [], ◌∷◌, ◌++◌, length, map, filter, get_or, drop, refl, sym, ap, subst, ◌∙◌, append_assoc, append-nil, add-one, drop-cons, length-append, arith, Option, Some, None, is_some, codes, decimal}
use Rattle.std.specs.BTreeMap.{BTreeMap, get}
use Rattle.std.specs.List.{All, list_any}
use Rattle.std.specs.Ordering.{nat_cmp}
use Rattle.std.specs.Prelude.{unwrap_or}
use Rattle.std.proofs.Math.Nat.{mul-le-mul_left}
use Rattle.std.proofs.lemmas.List.{drop_all}
use Rattle.std.proofs.lemmas.List.Elements.{All-head, All-tail}
use Rattle.std.proofs.lemmas.List.Sums.{sum_by-drop_more}
use Rattle.std.proofs.lemmas.List.Folds.{list_any-append}
use Rattle.cd_text.specs.ByKey.{by_key}
use Rattle.cd_text.proofs.ByKeyLemmas.{map-by_key}
use Rattle.cd_tree.specs.declared.tree.Tree as tree
use Rattle.cd_tree.specs.declared.tree.Tree.{Tree}
use Rattle.cd_caddyfile.specs.FileSites.{tests_named, tests_if, line_of_matcher}
use Rattle.cd_caddyfile.specs.Shape.{Entry, member, object, list, text_list, set_of, hosts, subroute, routes_of, groups_of, site_route, site_routes, all_groups, has_host, sites_at, ports_after, server, servers, apps, shape}
use Rattle.cd_caddyfile.specs.Sites.{Tests, no_tests, Site}
use Rattle.cd_caddyfile.specs.declared.named.Matchers.{Matchers}
use Rattle.cd_caddyfile.specs.declared.named.Named.{Named}
use Rattle.cd_caddyfile.specs.declared.named.TestLine.{TestLine}
use Rattle.std.specs.Str.{bytes_eq}
use Rattle.cd_parts.specs.Matching.{named_set, table_of, set_in}
use Rattle.cd_parts.specs.Measures.{measured, list_of, object_of, measured_entry}
use Rattle.cd_adapt.specs.Ports.{and_port, is_served, sites_of, told}
use Rattle.cd_adapt.specs.Serving.{AgreesAll, site_route_of, server_of, servers_by, apps_of}
use Rattle.cd_adapt.specs.Splitting.{site_made, IsWhole, size_of}
use Rattle.cd_adapt.specs.Steps.{part}
use Rattle.cd_parts.specs.declared.measured.Measured.{Measured}
use Rattle.cd_parts.specs.declared.measured.Part.{Part}
use Rattle.cd_adapt.specs.declared.splitting.SiteLines.{SiteLines}
use denote.Ref.{Bor}
use Rattle.cd_adapt.proofs.PortLaws.{size-cons}
use Rattle.cd_adapt.proofs.FrameSteps.{subroute-measured, list-of-one}
use Rattle.cd_parts.proofs.MeasureLaws.{list-measured, object-measured}

-- ---- matchers

set-here : (here : Bool) (none : Measured) (site : ℕ) (name : List ℕ) (tested : List TestLine) (m : Named) (ms : List Named) → ((m.site == site) && bytes_eq m.name name) ≡ here →
    set_in (measured (set_of no_tests)) site name (map (λ d. named_set tested d) ms) ≡ measured (set_of (tests_if tested (line_of_matcher site name ms))) →
    set_in (measured (set_of no_tests)) site name (map (λ d. named_set tested d) (m ∷ ms)) ≡ measured (set_of (tests_if tested (line_of_matcher site name (m ∷ ms))))
set-here true none site name tested m ms e known = rw e refl
set-here false none site name tested m ms e known = rw e known

sets-agree : (site : ℕ) (name : List ℕ) (tested : List TestLine) (ms : List Named) →
    set_in (measured (set_of no_tests)) site name (map (λ d. named_set tested d) ms) ≡ measured (set_of (tests_named ms tested site name))
sets-agree site name tested [] = refl
sets-agree site name tested (m ∷ ms) = set-here ((m.site == site) && bytes_eq m.name name) (measured (set_of no_tests)) site name tested m ms refl (sets-agree site name tested ms)

pub table_agrees : (m : Matchers) → AgreesAll (table_of m) (tests_named m.defined m.tested)
table_agrees m site name = sets-agree site name m.tested m.defined

-- ---- a site

pub site-route : (rs : List Tree) (host : Option (List ℕ)) →
    site_route_of (map measured rs) host ≡ measured (object (member (codes "handle") (list (subroute rs ∷ [])) ∷ (member (codes "terminal") (tree.Bool true) ∷ hosts host)))
site-route rs None =
    ap (λ x. object_of (part (codes "handle") (list_of (x ∷ [])) ∷ part (codes "terminal") (measured (tree.Bool true)) ∷ [])) (subroute-measured rs)
    ∙ (ap (λ x. object_of (part (codes "handle") x ∷ part (codes "terminal") (measured (tree.Bool true)) ∷ [])) (list-of-one (subroute rs))
    ∙ object-measured (member (codes "handle") (list (subroute rs ∷ [])) ∷ member (codes "terminal") (tree.Bool true) ∷ []))
site-route rs (Some host) =
    let set = list (object (member (codes "host") (text_list (host ∷ [])) ∷ []) ∷ []) in
    ap (λ x. object_of (part (codes "handle") (list_of (x ∷ [])) ∷ part (codes "match") (measured set) ∷ part (codes "terminal") (measured (tree.Bool true)) ∷ [])) (subroute-measured rs)
    ∙ (ap (λ x. object_of (part (codes "handle") x ∷ part (codes "match") (measured set) ∷ part (codes "terminal") (measured (tree.Bool true)) ∷ [])) (list-of-one (subroute rs))
    ∙ object-measured (member (codes "handle") (list (subroute rs ∷ [])) ∷ member (codes "match") set ∷ member (codes "terminal") (tree.Bool true) ∷ []))

pub site-route-is : (s : Site) (n : ℕ) (routes : List Measured) → routes ≡ map measured (routes_of s.block n) → site_route_of routes s.address.host ≡ measured (site_route s n)
site-route-is s n routes is = ap (λ r. site_route_of r s.address.host) is ∙ site-route (routes_of s.block n) s.address.host

-- ---- sites, one after another

map-both : {A B : Type 0} (f : A → B) (xs ys : List A) → map f (xs ++ ys) ≡ map f xs ++ map f ys
map-both f [] ys = refl
map-both f (x ∷ xs) ys = ap (λ l. f x ∷ l) (map-both f xs ys)

-- one site more, as a loop adds it
pub site-on : (s : Site) (ss : List Site) (n n' : ℕ) (old new whole : List Measured) → new ≡ old ++ measured (site_route s n) ∷ [] → n' ≡ n + groups_of s.block →
    old ++ map measured (site_routes (s ∷ ss) n) ≡ whole → new ++ map measured (site_routes ss n') ≡ whole
unfolding site_routes
site-on s ss n n' old new whole new-is n-is is =
    ap (λ k. new ++ map measured (site_routes ss k)) n-is
    ∙ (ap (λ l. l ++ map measured (site_routes ss (n + groups_of s.block))) new-is
    ∙ (append_assoc old (measured (site_route s n) ∷ []) (map measured (site_routes ss (n + groups_of s.block))) ∙ is))

pub groups-on : (s : Site) (ss : List Site) (n n' total : ℕ) → n' ≡ n + groups_of s.block → n + all_groups (s ∷ ss) ≡ total → n' + all_groups ss ≡ total
unfolding all_groups
groups-on s ss n n' total n-is is = omega (arith, n-is, is)

-- ---- the sites of a port

with-host : (at has : Bool) (tests_of : ℕ → List ℕ → Tests) (port : ℕ) (x : SiteLines) (xs : List SiteLines) → (x.address.port == port) ≡ at → is_some x.address.host ≡ has →
    map (site_made tests_of) (filter (is_served port true) xs) ≡ filter (λ s. has_host s) (filter (λ s. s.address.port == port) (map (site_made tests_of) xs)) →
    map (site_made tests_of) (filter (is_served port true) (x ∷ xs)) ≡ filter (λ s. has_host s) (filter (λ s. s.address.port == port) (map (site_made tests_of) (x ∷ xs)))
with-host true true tests_of port x xs p q known = rw (p, q) (ap (λ l. site_made tests_of x ∷ l) known)
with-host true false tests_of port x xs p q known = rw (p, q) known
with-host false has tests_of port x xs p q known = rw p known

pub served-with : (tests_of : ℕ → List ℕ → Tests) (port : ℕ) (xs : List SiteLines) →
    map (site_made tests_of) (filter (is_served port true) xs) ≡ filter (λ s. has_host s) (filter (λ s. s.address.port == port) (map (site_made tests_of) xs))
served-with tests_of port [] = refl
served-with tests_of port (x ∷ xs) = with-host (x.address.port == port) (is_some x.address.host) tests_of port x xs refl refl (served-with tests_of port xs)

without-host : (at has : Bool) (tests_of : ℕ → List ℕ → Tests) (port : ℕ) (x : SiteLines) (xs : List SiteLines) → (x.address.port == port) ≡ at → is_some x.address.host ≡ has →
    map (site_made tests_of) (filter (is_served port false) xs) ≡ filter (λ s. not (has_host s)) (filter (λ s. s.address.port == port) (map (site_made tests_of) xs)) →
    map (site_made tests_of) (filter (is_served port false) (x ∷ xs)) ≡ filter (λ s. not (has_host s)) (filter (λ s. s.address.port == port) (map (site_made tests_of) (x ∷ xs)))
without-host true true tests_of port x xs p q known = rw (p, q) known
without-host true false tests_of port x xs p q known = rw (p, q) (ap (λ l. site_made tests_of x ∷ l) known)
without-host false has tests_of port x xs p q known = rw p known

pub served-without : (tests_of : ℕ → List ℕ → Tests) (port : ℕ) (xs : List SiteLines) →
    map (site_made tests_of) (filter (is_served port false) xs) ≡ filter (λ s. not (has_host s)) (filter (λ s. s.address.port == port) (map (site_made tests_of) xs))
served-without tests_of port [] = refl
served-without tests_of port (x ∷ xs) = without-host (x.address.port == port) (is_some x.address.host) tests_of port x xs refl refl (served-without tests_of port xs)

-- the sites of a server, those with a host first
pub sites-chosen : (tests_of : ℕ → List ℕ → Tests) (port : ℕ) (xs : List SiteLines) →
    map (site_made tests_of) (filter (is_served port true) xs ++ filter (is_served port false) xs) ≡ sites_at port (map (site_made tests_of) xs)
sites-chosen tests_of port xs =
    map-both (site_made tests_of) (filter (is_served port true) xs) (filter (is_served port false) xs)
    ∙ (λ i. served-with tests_of port xs i ++ served-without tests_of port xs i)

pub server-is : (port n : ℕ) (ss : List Site) (routes : List Measured) → routes ≡ map measured (site_routes ss n) → server_of (58 ∷ decimal port) routes ≡ measured (server port ss n)
server-is port n ss routes is =
    ap (server_of (58 ∷ decimal port)) is
    ∙ (ap (λ x. object_of (part (codes "listen") (measured (text_list ((58 ∷ decimal port) ∷ []))) ∷ part (codes "routes") x ∷ [])) (list-measured (site_routes ss n))
    ∙ object-measured (member (codes "listen") (text_list ((58 ∷ decimal port) ∷ [])) ∷ member (codes "routes") (list (site_routes ss n)) ∷ []))

-- one server more
pub server-on : (at : ℕ → List Site) (port : ℕ) (ports : List ℕ) (k k' n n' : ℕ) (old new whole : List Part) →
    new ≡ old ++ part (codes "srv" ++ decimal k) (measured (server port (at port) n)) ∷ [] → k' ≡ k + 1 → n' ≡ n + all_groups (at port) →
    old ++ map measured_entry (servers_by at (port ∷ ports) k n) ≡ whole → new ++ map measured_entry (servers_by at ports k' n') ≡ whole
unfolding servers_by
server-on at port ports k k' n n' old new whole new-is k-is n-is is =
    let here = part (codes "srv" ++ decimal k) (measured (server port (at port) n)) in
    let after = map measured_entry (servers_by at ports (suc k) (n + all_groups (at port))) in
    ap (λ j. new ++ map measured_entry (servers_by at ports j n')) (k-is ∙ add-one k)
    ∙ (ap (λ j. new ++ map measured_entry (servers_by at ports (suc k) j)) n-is
    ∙ (ap (λ l. l ++ after) new-is ∙ (append_assoc old (here ∷ []) after ∙ is)))

pub servers-end : (at : ℕ → List Site) (k n : ℕ) (parts whole : List Part) → parts ++ map measured_entry (servers_by at [] k n) ≡ whole → parts ≡ whole
unfolding servers_by
servers-end at k n parts whole is = sym (append-nil parts) ∙ is

-- servers by the sites of each port are the servers
servers-same : (at : ℕ → List Site) (ss : List Site) → ((port : ℕ) → at port ≡ sites_at port ss) → (ports : List ℕ) (k n : ℕ) → servers_by at ports k n ≡ servers ports ss k n
unfolding servers_by servers
servers-same at ss same [] k n = refl
servers-same at ss same (port ∷ ports) k n =
    ap (λ here. member (codes "srv" ++ decimal k) (server port here n) ∷ servers_by at ports (suc k) (n + all_groups here)) (same port)
    ∙ ap (λ rest. member (codes "srv" ++ decimal k) (server port (sites_at port ss) n) ∷ rest) (servers-same at ss same ports (suc k) (n + all_groups (sites_at port ss)))

-- ---- ports

ports-same-if : (here : Bool) (one other : List ℕ) (p : ℕ) (ss : List Site) → list_any (λ port. port == p) one ≡ here → list_any (λ port. port == p) other ≡ here →
    ports_after one ss ≡ ports_after other ss → ports_after (p ∷ one) ss ≡ ports_after (p ∷ other) ss →
    (if list_any (λ port. port == p) one then ports_after one ss else p ∷ ports_after (p ∷ one) ss) ≡ (if list_any (λ port. port == p) other then ports_after other ss else p ∷ ports_after (p ∷ other) ss)
ports-same-if true one other p ss a b stay more = rw (a, b) stay
ports-same-if false one other p ss a b stay more = rw (a, b) (ap (λ l. p ∷ l) more)

abbrev SameIn : List ℕ → List ℕ → Type 0
SameIn one other = (p : ℕ) → list_any (λ port. port == p) one ≡ list_any (λ port. port == p) other

-- only which ports were met counts
ports-same : (one other : List ℕ) (ss : List Site) → SameIn one other → ports_after one ss ≡ ports_after other ss
unfolding ports_after
ports-same one other [] same = refl
ports-same one other (s ∷ ss) same =
    ports-same-if (list_any (λ port. port == s.address.port) other) one other s.address.port ss (same s.address.port) refl (ports-same one other ss same)
    (ports-same (s.address.port ∷ one) (s.address.port ∷ other) ss (λ p. ap (λ b. (s.address.port == p) || b) (same p)))

or-turned : (a b : Bool) → (a || (b || false)) ≡ (b || a)
or-turned true true = refl
or-turned true false = refl
or-turned false true = refl
or-turned false false = refl

added-last : (ports : List ℕ) (p : ℕ) → SameIn (ports ++ p ∷ []) (p ∷ ports)
added-last ports p q = list_any-append (λ port. port == q) ports (p ∷ []) ∙ or-turned (list_any (λ port. port == q) ports) (p == q)

pub port-met : (s : Site) (ss : List Site) (ports whole : List ℕ) → list_any (λ port. port == s.address.port) ports ≡ true →
    ports ++ ports_after ports (s ∷ ss) ≡ whole → ports ++ ports_after ports ss ≡ whole
unfolding ports_after
port-met s ss ports whole met is = ap (λ b. ports ++ (if b then ports_after ports ss else s.address.port ∷ ports_after (s.address.port ∷ ports) ss)) (sym met) ∙ is

pub port-new : (s : Site) (ss : List Site) (ports new whole : List ℕ) → list_any (λ port. port == s.address.port) ports ≡ false → new ≡ ports ++ s.address.port ∷ [] →
    ports ++ ports_after ports (s ∷ ss) ≡ whole → new ++ ports_after new ss ≡ whole
unfolding ports_after
port-new s ss ports new whole met new-is is =
    ap (λ l. l ++ ports_after l ss) new-is
    ∙ (append_assoc ports (s.address.port ∷ []) (ports_after (ports ++ s.address.port ∷ []) ss)
    ∙ (ap (λ l. ports ++ s.address.port ∷ l) (ports-same (ports ++ s.address.port ∷ []) (s.address.port ∷ ports) ss (added-last ports s.address.port))
    ∙ (ap (λ b. ports ++ (if b then ports_after ports ss else s.address.port ∷ ports_after (s.address.port ∷ ports) ss)) (sym met) ∙ is)))

pub ports-end : (ports whole : List ℕ) → ports ++ ports_after ports [] ≡ whole → ports ≡ whole
unfolding ports_after
ports-end ports whole is = sym (append-nil ports) ∙ is

-- ---- all

alone : (k : List ℕ) (t : Tree) → object_of (part k (measured t) ∷ []) ≡ measured (object (member k t ∷ []))
alone k t = object-measured (member k t ∷ [])

pub apps-is : (es : List Entry) (parts : List Part) → parts ≡ map measured_entry es → apps_of parts ≡ measured (apps es)
apps-is es parts is =
    ap apps_of is
    ∙ (ap (λ x. object_of (part (codes "apps") (object_of (part (codes "http") (object_of (part (codes "servers") x ∷ [])) ∷ [])) ∷ []))
    (ap object_of (sym (map-by_key measured_entry (λ (p : Part). p.key) es)) ∙ object-measured (by_key (λ (e : Entry). e.key) es))
    ∙ (ap (λ x. object_of (part (codes "apps") (object_of (part (codes "http") x ∷ [])) ∷ [])) (alone (codes "servers") (object es))
    ∙ (ap (λ x. object_of (part (codes "apps") x ∷ [])) (alone (codes "http") (object (member (codes "servers") (object es) ∷ [])))
    ∙ alone (codes "apps") (object (member (codes "http") (object (member (codes "servers") (object es) ∷ [])) ∷ [])))))

pub shape-none : shape [] ≡ tree.Object []
unfolding shape
shape-none = refl

pub shape-some : (s : Site) (ss : List Site) → shape (s ∷ ss) ≡ apps (servers (ports_after [] (s ∷ ss)) (s ∷ ss) 0 0)
unfolding shape
shape-some s ss = refl

-- ---- how many there are

pub sites_next : (i : ℕ) (all : List SiteLines) (x : SiteLines) → i < length all → x ≡ get_or all i x → drop i all ≡ x ∷ drop (i + 1) all
sites_next i all x within is = drop-cons all i x within ∙ (ap (λ s. s ∷ drop (suc i) all) (sym is) ∙ ap (λ k. x ∷ drop k all) (sym (add-one i)))

pub size_next : (i : ℕ) (all : List SiteLines) (x : SiteLines) → i < length all → x ≡ get_or all i x → size_of (drop i all) ≡ suc (length x.lines) + size_of (drop (i + 1) all)
size_next i all x within is = sum_by-drop_more (λ (s : SiteLines). suc (length s.lines)) all i x within ∙ ap (λ (s : SiteLines). suc (length s.lines) + size_of (drop (i + 1) all)) (sym is)

-- ---- ports, one after another

port-on-if : (met : Bool) (s : Site) (ss : List Site) (ports whole : List ℕ) → list_any (λ port. port == s.address.port) ports ≡ met →
    ports ++ ports_after ports (s ∷ ss) ≡ whole → and_port s.address.port ports ++ ports_after (and_port s.address.port ports) ss ≡ whole
port-on-if true s ss ports whole met known =
    ap (λ b. let l = if b then ports else ports ++ s.address.port ∷ [] in l ++ ports_after l ss) met ∙ port-met s ss ports whole met known
port-on-if false s ss ports whole met known =
    ap (λ b. let l = if b then ports else ports ++ s.address.port ∷ [] in l ++ ports_after l ss) met ∙ port-new s ss ports (ports ++ s.address.port ∷ []) whole met refl known

pub ports_on : (tests_of : ℕ → List ℕ → Tests) (i : ℕ) (all : List SiteLines) (x : SiteLines) (ports whole : List ℕ) → i < length all → x ≡ get_or all i x →
    ports ++ ports_after ports (map (site_made tests_of) (drop i all)) ≡ whole →
    and_port x.address.port ports ++ ports_after (and_port x.address.port ports) (map (site_made tests_of) (drop (i + 1) all)) ≡ whole
ports_on tests_of i all x ports whole within is known =
    port-on-if (list_any (λ port. port == x.address.port) ports) (site_made tests_of x) (map (site_made tests_of) (drop (i + 1) all)) ports whole refl
    (sym (ap (λ (l : List SiteLines). ports ++ ports_after ports (map (site_made tests_of) l)) (sites_next i all x within is)) ∙ known)

few-ports-if : (met : Bool) (port : ℕ) (ports : List ℕ) → length (if met then ports else ports ++ port ∷ []) ≤ length ports + 1
few-ports-if true port ports = omega arith
few-ports-if false port ports = omega (arith, length-append ports (port ∷ []))

pub few_ports : (port : ℕ) (ports : List ℕ) → length (and_port port ports) ≤ length ports + 1
few_ports port ports = few-ports-if (list_any (λ p. p == port) ports) port ports

-- ---- the sites of a port, one after another

told-next : (i : ℕ) (refs : List (Bor SiteLines)) (x : Bor SiteLines) → i < length refs → x ≡ get_or refs i x → told (drop i refs) ≡ x.now ∷ told (drop (i + 1) refs)
told-next i refs x within is =
    ap told (drop-cons refs i x within ∙ (ap (λ s. s ∷ drop (suc i) refs) (sym is) ∙ ap (λ k. x ∷ drop k refs) (sym (add-one i))))

module _ (i : ℕ) (refs : List (Bor SiteLines)) (x : Bor SiteLines) (within : i < length refs) (is : x ≡ get_or refs i x) where
  pub size_on : size_of (told (drop i refs)) ≡ suc (length x.now.lines) + size_of (told (drop (i + 1) refs))
  size_on = ap size_of (told-next i refs x within is) ∙ size-cons x.now (told (drop (i + 1) refs))

  pub whole_on : All IsWhole (told (drop i refs)) → IsWhole x.now × All IsWhole (told (drop (i + 1) refs))
  whole_on whole =
      let all = subst (All IsWhole) (told-next i refs x within is) whole in
      (All-head IsWhole x.now (told (drop (i + 1) refs)) all, All-tail IsWhole x.now (told (drop (i + 1) refs)) all)

  pub routes_on : (tests_of : ℕ → List ℕ → Tests) (n n' : ℕ) (old new whole : List Measured) →
      new ≡ old ++ measured (site_route (site_made tests_of x.now) n) ∷ [] → n' ≡ n + groups_of (site_made tests_of x.now).block →
      old ++ map measured (site_routes (map (site_made tests_of) (told (drop i refs))) n) ≡ whole →
      new ++ map measured (site_routes (map (site_made tests_of) (told (drop (i + 1) refs))) n') ≡ whole
  routes_on tests_of n n' old new whole new-is n-is known =
      site-on (site_made tests_of x.now) (map (site_made tests_of) (told (drop (i + 1) refs))) n n' old new whole new-is n-is
      (sym (ap (λ (l : List SiteLines). old ++ map measured (site_routes (map (site_made tests_of) l) n)) (told-next i refs x within is)) ∙ known)

  pub totals_on : (tests_of : ℕ → List ℕ → Tests) (n n' whole : ℕ) → n' ≡ n + groups_of (site_made tests_of x.now).block →
      n + all_groups (map (site_made tests_of) (told (drop i refs))) ≡ whole → n' + all_groups (map (site_made tests_of) (told (drop (i + 1) refs))) ≡ whole
  totals_on tests_of n n' whole n-is known =
      groups-on (site_made tests_of x.now) (map (site_made tests_of) (told (drop (i + 1) refs))) n n' whole n-is
      (sym (ap (λ (l : List SiteLines). n + all_groups (map (site_made tests_of) l)) (told-next i refs x within is)) ∙ known)

-- all have been added
pub routes_done : (tests_of : ℕ → List ℕ → Tests) (i n : ℕ) (refs : List (Bor SiteLines)) (routes whole : List Measured) → length refs ≤ i →
    routes ++ map measured (site_routes (map (site_made tests_of) (told (drop i refs))) n) ≡ whole → routes ≡ whole
unfolding site_routes
routes_done tests_of i n refs routes whole over known =
    sym (append-nil routes) ∙ (sym (ap (λ l. routes ++ map measured (site_routes (map (site_made tests_of) (told l)) n)) (drop_all i refs over)) ∙ known)

pub totals_done : (tests_of : ℕ → List ℕ → Tests) (i n whole : ℕ) (refs : List (Bor SiteLines)) → length refs ≤ i →
    n + all_groups (map (site_made tests_of) (told (drop i refs))) ≡ whole → n ≡ whole
unfolding all_groups
totals_done tests_of i n whole refs over known =
    let none = ap (λ l. all_groups (map (site_made tests_of) (told l))) (drop_all i refs over) in
    omega (arith, none, known)

pub ports_done : (tests_of : ℕ → List ℕ → Tests) (i : ℕ) (all : List SiteLines) (ports whole : List ℕ) → length all ≤ i → ports ++ ports_after ports (map (site_made tests_of) (drop i all)) ≡ whole → ports ≡ whole
ports_done tests_of i all ports whole over known =
    ports-end ports whole (sym (ap (λ (l : List SiteLines). ports ++ ports_after ports (map (site_made tests_of) l)) (drop_all i all over)) ∙ known)

-- a port without sites
module _ (tests_of : ℕ → List ℕ → Tests) (port : ℕ) (by_port : BTreeMap ℕ (List (Bor SiteLines))) where
  pub no_routes : (routes : List Measured) (n : ℕ) → get nat_cmp by_port port ≡ None → routes ≡ routes ++ map measured (site_routes (map (site_made tests_of) (sites_of port by_port)) n)
  unfolding site_routes
  no_routes routes n none = sym (append-nil routes) ∙ ap (λ found. routes ++ map measured (site_routes (map (site_made tests_of) (told (unwrap_or found []))) n)) (sym none)

  pub no_groups : (n : ℕ) → get nat_cmp by_port port ≡ None → n ≡ n + all_groups (map (site_made tests_of) (sites_of port by_port))
  unfolding all_groups
  no_groups n none =
      let here = ap (λ found. all_groups (map (site_made tests_of) (told (unwrap_or found [])))) none in
      omega (arith, here)

-- ---- servers, one after another

pub room_for : (k n most size next : ℕ) → k < n → next ≤ k * most → n ≤ most → size ≤ most → most ≤ 2 ^ 31 → next + size < 2 ^ 64
room_for k n most size next less few few-ports small large =
    let ports : k ≤ 2 ^ 31 = omega arith in
    let product : most * k ≤ most * 2 ^ 31 = mul-le-mul_left most ports in
    omega (arith, product, few, small, large)

pub servers_on : (at : ℕ → List Site) (port k n n' : ℕ) (ports : List ℕ) (old new whole : List Part) → k < length ports → port ≡ get_or ports k 0 →
    new ≡ old ++ part (codes "srv" ++ decimal k) (measured (server port (at port) n)) ∷ [] → n' ≡ n + all_groups (at port) →
    old ++ map measured_entry (servers_by at (drop k ports) k n) ≡ whole → new ++ map measured_entry (servers_by at (drop (k + 1) ports) (k + 1) n') ≡ whole
servers_on at port k n n' ports old new whole within is new-is n-is known =
    let next : drop k ports ≡ port ∷ drop (k + 1) ports = drop-cons ports k 0 within ∙ (ap (λ x. x ∷ drop (suc k) ports) (sym is) ∙ ap (λ j. port ∷ drop j ports) (sym (add-one k))) in
    server-on at port (drop (k + 1) ports) k (k + 1) n n' old new whole new-is refl n-is
    (sym (ap (λ l. old ++ map measured_entry (servers_by at l k n)) next) ∙ known)

pub servers_done : (at : ℕ → List Site) (k n : ℕ) (ports : List ℕ) (parts whole : List Part) → length ports ≤ k → parts ++ map measured_entry (servers_by at (drop k ports) k n) ≡ whole → parts ≡ whole
servers_done at k n ports parts whole over known =
    servers-end at k n parts whole (sym (ap (λ l. parts ++ map measured_entry (servers_by at l k n)) (drop_all k ports over)) ∙ known)

-- ---- a site is added

pub site_added : (tests_of : ℕ → List ℕ → Tests) (s : SiteLines) (n count next : ℕ) (old new routes : List Measured) (route : Measured) →
    count ≡ groups_of (site_made tests_of s).block → next ≡ n + count →
    ((first : ℕ) → first + groups_of (site_made tests_of s).block ≡ next → routes ≡ map measured (routes_of (site_made tests_of s).block first)) →
    route ≡ site_route_of routes s.address.host → new ≡ old ++ route ∷ [] → new ≡ old ++ measured (site_route (site_made tests_of s) n) ∷ []
site_added tests_of s n count next old new routes route count-is next-is known route-is is =
    is ∙ ap (λ r. old ++ r ∷ []) (route-is ∙ site-route-is (site_made tests_of s) n routes (known n (sym (next-is ∙ ap (λ k. n + k) count-is))))

-- ---- the whole

shape-is : (ss : List Site) → (ss ≡ [] → ⊥) → shape ss ≡ apps (servers (ports_after [] ss) ss 0 0)
shape-is [] some = absurd (some refl)
shape-is (s ∷ ss) some = shape-some s ss

none-before : (tests_of : ℕ → List ℕ → Tests) (sites : List SiteLines) → map (site_made tests_of) sites ≡ [] → sites ≡ []
none-before tests_of [] is = refl
none-before tests_of (s ∷ ss) is = absurd (omega (arith, ap length is))

pub no_sites : (tests_of : ℕ → List ℕ → Tests) (sites : List SiteLines) (made : Measured) → sites ≡ [] → made ≡ measured (tree.Object []) → made ≡ measured (shape (map (site_made tests_of) sites))
no_sites tests_of sites made none is = is ∙ (ap measured (sym shape-none) ∙ ap (λ (l : List SiteLines). measured (shape (map (site_made tests_of) l))) (sym none))

pub some_sites : (tests_of : ℕ → List ℕ → Tests) (sites : List SiteLines) (at : ℕ → List SiteLines) (ports : List ℕ) (parts : List Part) (made : Measured) → (sites ≡ [] → ⊥) →
    ((port : ℕ) → at port ≡ filter (is_served port true) sites ++ filter (is_served port false) sites) →
    ports ≡ ports_after [] (map (site_made tests_of) sites) → parts ≡ map measured_entry (servers_by (λ port. map (site_made tests_of) (at port)) ports 0 0) → made ≡ apps_of parts →
    made ≡ measured (shape (map (site_made tests_of) sites))
some_sites tests_of sites at ports parts made some at-is ports-is parts-is is =
    let ss = map (site_made tests_of) sites in
    let same = servers-same (λ port. map (site_made tests_of) (at port)) ss (λ port. ap (map (site_made tests_of)) (at-is port) ∙ sites-chosen tests_of port sites) ports 0 0 in
    is ∙ (apps-is (servers ports ss 0 0) parts (parts-is ∙ ap (map measured_entry) same) ∙ (ap (λ p. measured (apps (servers p ss 0 0))) ports-is
    ∙ ap measured (sym (shape-is ss (λ none. some (none-before tests_of sites none))))))

pub no_elements : (sites : List SiteLines) → length sites ≡ 0 → sites ≡ []
no_elements [] is = refl
no_elements (s ∷ ss) is = absurd (omega (arith, is))
