-- The configuration of a file's sites is an ordered tree.
use Rattle.std.proofs.Common.{◌≡◌, ℕ, suc, ◌+◌, ◌<◌, ◌≤◌, ◌^◌, nat_lt, Bool, true, false, not, ◌==◌, if◌then◌else◌, List, [], ◌∷◌, ◌++◌, map, filter, length, length-append, Option, Some, None, Result, Ok, Err, IfSome, refl, sym, ap, ◌∙◌, arith, decimal, append_assoc}
use Rattle.std.specs.Prelude.{All, ⊤, codes}
use Rattle.std.specs.List.{list_all}
use Rattle.std.specs.Str.{bytes_eq}
use Rattle.std.proofs.lemmas.Bool.{false≢true, false_from_ne_true, lt-ltb, ltb-false}
use Rattle.std.proofs.lemmas.Fmt.{decimal_injective}
use Rattle.std.proofs.lemmas.List.{length-map}
use Rattle.std.proofs.lemmas.List.Elements.{All-nil, All-cons, All-head, All-tail, All-append, All-filter, All-map}
use Rattle.std.proofs.lemmas.List.Sorted.{length_permutation}
use Rattle.std.proofs.lemmas.Slice.Eq.{bytes_eq-Decides}
use Rattle.json.specs.Print.{print, print_from}
use Rattle.json.specs.Token.{key, begin_object, end_object}
use Rattle.cd_text.proofs.ByKeyLemmas.{IsPermutation-by_key}
use Rattle.cd_text.specs.ByKey.{by_key}
use Rattle.cd_text.specs.Steps.{◌▷◌, refused_where, joined}
use Rattle.cd_tree.proofs.Inside.{both, length-print-front, length-print-back}
use Rattle.cd_tree.proofs.Trees.{is_ordered-Bool, is_ordered-Num, is_ordered-Text, list_ordered, empty_object_ordered, tokens-Object, member_tokens-roll}
use Rattle.cd_tree.specs.Tree.{is_ordered, tokens, member_tokens, text, depth, IsSound}
use Rattle.cd_tree.specs.declared.limits.TheConstants.{MAX_DEPTH, MAX_TEXT_BYTES}
use Rattle.cd_tree.specs.declared.tree.Member.{Member, out-Member, roll-Member}
use Rattle.cd_tree.specs.declared.tree.Tree as tree
use Rattle.cd_tree.specs.declared.tree.Tree.{Tree}
use Rattle.cd_caddyfile.specs.Adapting.{adapted, checked, within_limits}
use Rattle.cd_caddyfile.specs.Faults.{fault_at}
use Rattle.cd_caddyfile.specs.FileSites.{sites}
use Rattle.cd_caddyfile.specs.Shape.{Entry, member, object, list, text_list, given, wanted, set_of, matching, handler, field, response, status, handler_of, subroute, group, route, is_rewrite, rewrites, handles, one_if, groups_of, routes_from, routes_of, hosts, site_route, site_routes, all_groups, has_host, sites_at, ports_after, server, servers, apps, shape}
use Rattle.cd_caddyfile.specs.Sites.{Wanted, Tests, Action, vars, set_field, add_field, delete_field, redir, rewrite, respond, Block, done, act, handle, Site}
use Rattle.cd_caddyfile.specs.declared.fault.CaddyfileFault.{CaddyfileFault}
use Rattle.cd_caddyfile.specs.declared.fault.CaddyfileKind.TheVariants.{TooLong, TooDeep}
use Rattle.cd_adapt.proofs.FileParts.{HoldIn}
use Rattle.cd_adapt.proofs.Fine.{AreNamedOnce, AreFine, AreFineIf, IsFine, IsFineBlock, AreFineSites}
use Rattle.cd_adapt.proofs.SoundSteps.{AreDistinct, AreOrdered, object_is_ordered, sound_within}
use Rattle.cd_adapt.proofs.StatusParts.{IsShort, HasShortStatus, HaveShortStatuses, AnswerShortStatuses, statuses_are_short}

-- ---- keys

differ : (a b : List ℕ) → (a ≡ b → ⊥) → bytes_eq a b ≡ false
differ a b other = false_from_ne_true (bytes_eq a b) (λ same. other ((bytes_eq-Decides a b).0 same))

differ_back : (a b : List ℕ) → bytes_eq a b ≡ false → bytes_eq b a ≡ false
differ_back a b other = differ b a (λ same. false≢true (sym other ∙ (bytes_eq-Decides a b).1 (sym same)))

-- ---- entries

-- no entry has the key
abbrev Lack : List ℕ → List Entry → Type 0
Lack k es = All (λ (e : Entry). bytes_eq k e.key ≡ false) es

none_lack : (k : List ℕ) → Lack k []
none_lack k = All-nil (λ (e : Entry). bytes_eq k e.key ≡ false)

more_lack : (k : List ℕ) (e : Entry) (es : List Entry) → bytes_eq k e.key ≡ false → Lack k es → Lack k (e ∷ es)
more_lack k = All-cons (λ (e : Entry). bytes_eq k e.key ≡ false)

none_ordered : AreOrdered []
none_ordered = All-nil (λ (e : Entry). is_ordered e.value ≡ true)

more_ordered : (e : Entry) (es : List Entry) → is_ordered e.value ≡ true → AreOrdered es → AreOrdered (e ∷ es)
more_ordered = All-cons (λ (e : Entry). is_ordered e.value ≡ true)

one_distinct : (e : Entry) → AreDistinct (e ∷ [])
one_distinct e = (none_lack e.key, tt)

two_distinct : (e o : Entry) → bytes_eq e.key o.key ≡ false → AreDistinct (e ∷ o ∷ [])
two_distinct e o other = (more_lack e.key o [] other (none_lack e.key), one_distinct o)

one_ordered : (e : Entry) → is_ordered e.value ≡ true → AreOrdered (e ∷ [])
one_ordered e is = more_ordered e [] is none_ordered

two_ordered : (e o : Entry) → is_ordered e.value ≡ true → is_ordered o.value ≡ true → AreOrdered (e ∷ o ∷ [])
two_ordered e o is too = more_ordered e (o ∷ []) is (one_ordered o too)

-- an object with one member, and with two
object_of_one : (e : Entry) → is_ordered e.value ≡ true → is_ordered (object (e ∷ [])) ≡ true
object_of_one e is = object_is_ordered (e ∷ []) (one_distinct e) (one_ordered e is)

object_of_two : (e o : Entry) → bytes_eq e.key o.key ≡ false → is_ordered e.value ≡ true → is_ordered o.value ≡ true → is_ordered (object (e ∷ o ∷ [])) ≡ true
object_of_two e o other is too = object_is_ordered (e ∷ o ∷ []) (two_distinct e o other) (two_ordered e o is too)

-- ---- an entry that may not be there

given_lack : {A : Type 0} (k own : List ℕ) (f : A → Tree) (o : Option A) (es : List Entry) → bytes_eq k own ≡ false → Lack k es → Lack k (given own f o ++ es)
given_lack k own f None es other rest = rest
given_lack k own f (Some a) es other rest = more_lack k (member own (f a)) es other rest

given_distinct : {A : Type 0} (own : List ℕ) (f : A → Tree) (o : Option A) (es : List Entry) → Lack own es → AreDistinct es → AreDistinct (given own f o ++ es)
given_distinct own f None es lack rest = rest
given_distinct own f (Some a) es lack rest = (lack, rest)

given_ordered : {A : Type 0} (own : List ℕ) (f : A → Tree) (o : Option A) (es : List Entry) → IfSome o (λ a. is_ordered (f a) ≡ true) → AreOrdered es → AreOrdered (given own f o ++ es)
given_ordered own f None es is rest = rest
given_ordered own f (Some a) es is rest = more_ordered (member own (f a)) es is rest

last_lack : {A : Type 0} (k own : List ℕ) (f : A → Tree) (o : Option A) → bytes_eq k own ≡ false → Lack k (given own f o)
last_lack k own f None other = none_lack k
last_lack k own f (Some a) other = more_lack k (member own (f a)) [] other (none_lack k)

last_distinct : {A : Type 0} (own : List ℕ) (f : A → Tree) (o : Option A) → AreDistinct (given own f o)
last_distinct own f None = tt
last_distinct own f (Some a) = one_distinct (member own (f a))

last_ordered : {A : Type 0} (own : List ℕ) (f : A → Tree) (o : Option A) → IfSome o (λ a. is_ordered (f a) ≡ true) → AreOrdered (given own f o)
last_ordered own f None is = none_ordered
last_ordered own f (Some a) is = one_ordered (member own (f a)) is

if_any : {A : Type 0} (f : A → Tree) (o : Option A) → ((a : A) → is_ordered (f a) ≡ true) → IfSome o (λ a. is_ordered (f a) ≡ true)
if_any f None all = tt
if_any f (Some a) all = all a

-- ---- lists

list_of_one : (t : Tree) → is_ordered t ≡ true → is_ordered (list (t ∷ [])) ≡ true
list_of_one t is = list_ordered (t ∷ []) ∙ both _ _ is refl

texts_ordered : (all : List (List ℕ)) → list_all is_ordered (map (λ t. tree.Text t) all) ≡ true
texts_ordered [] = refl
texts_ordered (t ∷ ts) = both _ _ (is_ordered-Text t) (texts_ordered ts)

text_list_ordered : (all : List (List ℕ)) → is_ordered (text_list all) ≡ true
text_list_ordered all = list_ordered (map (λ t. tree.Text t) all) ∙ texts_ordered all

-- ---- matchers

abbrev entry_of : Wanted → Entry
entry_of one = member one.name (text_list one.values)

names_distinct : (ws : List Wanted) → AreNamedOnce ws → AreDistinct (map entry_of ws)
names_distinct [] once = tt
names_distinct (w ∷ ws) once = (All-map (λ (e : Entry). bytes_eq w.name e.key ≡ false) entry_of ws once.0, names_distinct ws once.1)

values_ordered : (ws : List Wanted) → AreOrdered (map entry_of ws)
values_ordered [] = none_ordered
values_ordered (w ∷ ws) = more_ordered (entry_of w) (map entry_of ws) (text_list_ordered w.values) (values_ordered ws)

wanted_ordered : (ws : List Wanted) → AreNamedOnce ws → IfSome (wanted ws) (λ v. is_ordered v ≡ true)
wanted_ordered [] once = tt
wanted_ordered (w ∷ ws) once = object_is_ordered (map entry_of (w ∷ ws)) (names_distinct (w ∷ ws) once) (values_ordered (w ∷ ws))

nested : (a b c d e : List Entry) → a ++ b ++ c ++ d ++ e ≡ a ++ (b ++ (c ++ (d ++ e)))
nested a b c d e = append_assoc (a ++ b ++ c) d e ∙ append_assoc (a ++ b) c (d ++ e) ∙ append_assoc a b (c ++ (d ++ e))

set_ordered : (t : Tests) → AreFine t → is_ordered (set_of t) ≡ true
set_ordered t fine =
    let query = given (codes "query") (λ v. v) (wanted t.query) in
    let header = given (codes "header") (λ v. v) (wanted t.header) ++ query in
    let host = given (codes "host") text_list t.host ++ header in
    let method = given (codes "method") text_list t.method ++ host in
    let same = nested (given (codes "path") text_list t.path) (given (codes "method") text_list t.method) (given (codes "host") text_list t.host) (given (codes "header") (λ v. v) (wanted t.header)) query in
    let header_lacks = λ (k : List ℕ) (h : bytes_eq k (codes "header") ≡ false) (q : bytes_eq k (codes "query") ≡ false).
    given_lack k (codes "header") (λ v. v) (wanted t.header) query h (last_lack k (codes "query") (λ v. v) (wanted t.query) q) in
    ap (λ es. is_ordered (object es)) same
    ∙ object_is_ordered (given (codes "path") text_list t.path ++ method)
    (given_distinct (codes "path") text_list t.path method
    (given_lack (codes "path") (codes "method") text_list t.method host refl (given_lack (codes "path") (codes "host") text_list t.host header refl (header_lacks (codes "path") refl refl)))
    (given_distinct (codes "method") text_list t.method host
    (given_lack (codes "method") (codes "host") text_list t.host header refl (header_lacks (codes "method") refl refl))
    (given_distinct (codes "host") text_list t.host header (header_lacks (codes "host") refl refl)
    (given_distinct (codes "header") (λ v. v) (wanted t.header) query (last_lack (codes "header") (codes "query") (λ v. v) (wanted t.query) refl)
    (last_distinct (codes "query") (λ v. v) (wanted t.query))))))
    (given_ordered (codes "path") text_list t.path method (if_any text_list t.path text_list_ordered)
    (given_ordered (codes "method") text_list t.method host (if_any text_list t.method text_list_ordered)
    (given_ordered (codes "host") text_list t.host header (if_any text_list t.host text_list_ordered)
    (given_ordered (codes "header") (λ v. v) (wanted t.header) query (wanted_ordered t.header fine.0)
    (last_ordered (codes "query") (λ v. v) (wanted t.query) (wanted_ordered t.query fine.1))))))

set_list_ordered : (t : Option Tests) → AreFineIf t → IfSome t (λ one. is_ordered (list (set_of one ∷ [])) ≡ true)
set_list_ordered None fine = tt
set_list_ordered (Some t) fine = list_of_one (set_of t) (set_ordered t fine)

matching_ordered : (t : Option Tests) → AreFineIf t → AreOrdered (matching t)
matching_ordered t fine = last_ordered (codes "match") (λ one. list (set_of one ∷ [])) t (set_list_ordered t fine)

matching_lacks : (k : List ℕ) (t : Option Tests) → bytes_eq k (codes "match") ≡ false → Lack k (matching t)
matching_lacks k t other = last_lack k (codes "match") (λ one. list (set_of one ∷ [])) t other

matching_distinct : (t : Option Tests) → AreDistinct (matching t)
matching_distinct t = last_distinct (codes "match") (λ one. list (set_of one ∷ [])) t

-- ---- handlers

handler_ordered : (name : List ℕ) (es : List Entry) → Lack (codes "handler") es → AreDistinct es → AreOrdered es → is_ordered (handler name es) ≡ true
handler_ordered name es lack distinct ordered =
    let first = member (codes "handler") (tree.Text name) in
    object_is_ordered (first ∷ es) (lack, distinct) (more_ordered first es (is_ordered-Text name) ordered)

handler_of_one : (name : List ℕ) (e : Entry) → bytes_eq (codes "handler") e.key ≡ false → is_ordered e.value ≡ true → is_ordered (handler name (e ∷ [])) ≡ true
handler_of_one name e other is = object_of_two (member (codes "handler") (tree.Text name)) e other (is_ordered-Text name) is

field_ordered : (name value : List ℕ) → is_ordered (field name value) ≡ true
field_ordered name value = object_of_one (member name (text_list (value ∷ []))) (text_list_ordered (value ∷ []))

response_ordered : (changes : List Entry) → is_ordered (object changes) ≡ true → is_ordered (response changes) ≡ true
response_ordered changes is = handler_of_one (codes "headers") (member (codes "response") (object changes)) refl is

status_ordered : (code : ℕ) → IsShort code → is_ordered (status code) ≡ true
status_ordered code short = is_ordered-Num (record { negative = false; size = code }) ∙ lt-ltb code (2 ^ 64) (omega (arith, short))

status_if : (code : Option ℕ) → IfSome code IsShort → IfSome code (λ n. is_ordered (status n) ≡ true)
status_if None short = tt
status_if (Some n) short = status_ordered n short

action_ordered : (a : Action) → IsFine a → HasShortStatus a → is_ordered (handler_of a) ≡ true
unfolding handler_of
action_ordered (vars name value) fine short = handler_of_one (codes "vars") (member name (tree.Text value)) (differ_back name (codes "handler") fine) (is_ordered-Text value)
action_ordered (set_field name value) fine short =
    response_ordered (member (codes "set") (field name value) ∷ []) (object_of_one (member (codes "set") (field name value)) (field_ordered name value))
action_ordered (add_field name value) fine short =
    response_ordered (member (codes "add") (field name value) ∷ []) (object_of_one (member (codes "add") (field name value)) (field_ordered name value))
action_ordered (delete_field name) fine short =
    let names = member (codes "delete") (text_list (name ∷ [])) in
    let later = member (codes "deferred") (tree.Bool true) in
    response_ordered (names ∷ later ∷ []) (object_of_two names later refl (text_list_ordered (name ∷ [])) (is_ordered-Bool true))
action_ordered (redir to code) fine short =
    let place = member (codes "headers") (field (codes "Location") to) in
    let number = member (codes "status_code") (status code) in
    handler_ordered (codes "static_response") (place ∷ number ∷ [])
    (more_lack (codes "handler") place (number ∷ []) refl (more_lack (codes "handler") number [] refl (none_lack (codes "handler"))))
    (two_distinct place number refl) (two_ordered place number (field_ordered (codes "Location") to) (status_ordered code short))
action_ordered (rewrite to) fine short = handler_of_one (codes "rewrite") (member (codes "uri") (tree.Text to)) refl (is_ordered-Text to)
action_ordered (respond body code) fine short =
    let number = given (codes "status_code") status code in
    handler_ordered (codes "static_response") (given (codes "body") (λ t. tree.Text t) body ++ number)
    (given_lack (codes "handler") (codes "body") (λ t. tree.Text t) body number refl (last_lack (codes "handler") (codes "status_code") status code refl))
    (given_distinct (codes "body") (λ t. tree.Text t) body number (last_lack (codes "body") (codes "status_code") status code refl) (last_distinct (codes "status_code") status code))
    (given_ordered (codes "body") (λ t. tree.Text t) body number (if_any (λ t. tree.Text t) body is_ordered-Text) (last_ordered (codes "status_code") status code (status_if code short)))

subroute_ordered : (routes : List Tree) → list_all is_ordered routes ≡ true → is_ordered (subroute routes) ≡ true
subroute_ordered routes are = handler_of_one (codes "subroute") (member (codes "routes") (list routes)) refl (list_ordered routes ∙ are)

-- ---- routes

route_ordered : (grouped : Bool) (n : ℕ) (t : Option Tests) (does : Tree) → AreFineIf t → is_ordered does ≡ true → is_ordered (route (if grouped then group n else []) t does) ≡ true
route_ordered true n t does fine is =
    let first = member (codes "handle") (list (does ∷ [])) in
    let own = member (codes "group") (tree.Text (codes "group" ++ decimal n)) in
    object_is_ordered (first ∷ own ∷ matching t)
    (more_lack (codes "handle") own (matching t) refl (matching_lacks (codes "handle") t refl), (matching_lacks (codes "group") t refl, matching_distinct t))
    (more_ordered first (own ∷ matching t) (list_of_one does is) (more_ordered own (matching t) (is_ordered-Text (codes "group" ++ decimal n)) (matching_ordered t fine)))
route_ordered false n t does fine is =
    let first = member (codes "handle") (list (does ∷ [])) in
    object_is_ordered (first ∷ matching t) (matching_lacks (codes "handle") t refl, matching_distinct t) (more_ordered first (matching t) (list_of_one does is) (matching_ordered t fine))

routes_ordered : (b : Block) (rewriting handling free : ℕ) → IsFineBlock b → HaveShortStatuses b → list_all is_ordered (routes_from b rewriting handling free) ≡ true
unfolding routes_from IsFineBlock HoldIn
routes_ordered done rewriting handling free fine short = refl
routes_ordered (act m a b) rewriting handling free fine short =
    both _ _ (route_ordered (is_rewrite a) rewriting m (handler_of a) fine.0 (action_ordered a fine.1.0 short.1.0)) (routes_ordered b rewriting handling free fine.1.1 short.1.1)
routes_ordered (handle m inside b) rewriting handling free fine short =
    let after = free + one_if (rewrites inside) in
    let routes = routes_from inside free after (after + one_if (handles inside)) in
    both _ _ (route_ordered true handling m (subroute routes) fine.0 (subroute_ordered routes (routes_ordered inside free after (after + one_if (handles inside)) fine.1.0 short.1.0)))
    (routes_ordered b rewriting handling (free + groups_of inside) fine.1.1 short.1.1)

-- ---- sites

host_ordered : (host : Option (List ℕ)) → AreOrdered (hosts host)
host_ordered host =
    last_ordered (codes "match") (λ h. list (object (member (codes "host") (text_list (h ∷ [])) ∷ []) ∷ [])) host
    (if_any (λ h. list (object (member (codes "host") (text_list (h ∷ [])) ∷ []) ∷ [])) host
    (λ h. list_of_one (object (member (codes "host") (text_list (h ∷ [])) ∷ [])) (object_of_one (member (codes "host") (text_list (h ∷ []))) (text_list_ordered (h ∷ [])))))

site_ordered : (s : Site) (n : ℕ) → IsFineBlock s.block → HaveShortStatuses s.block → is_ordered (site_route s n) ≡ true
site_ordered s n fine short =
    let routes = routes_of s.block n in
    let first = member (codes "handle") (list (subroute routes ∷ [])) in
    let last = member (codes "terminal") (tree.Bool true) in
    let of_host = λ (h : List ℕ). list (object (member (codes "host") (text_list (h ∷ [])) ∷ []) ∷ []) in
    let lacks = λ (k : List ℕ) (other : bytes_eq k (codes "match") ≡ false). last_lack k (codes "match") of_host s.address.host other in
    let own = routes_ordered s.block n (n + one_if (rewrites s.block)) (n + one_if (rewrites s.block) + one_if (handles s.block)) fine short in
    object_is_ordered (first ∷ last ∷ hosts s.address.host)
    (more_lack (codes "handle") last (hosts s.address.host) refl (lacks (codes "handle") refl), (lacks (codes "terminal") refl, last_distinct (codes "match") of_host s.address.host))
    (more_ordered first (last ∷ hosts s.address.host) (list_of_one (subroute routes) (subroute_ordered routes own))
    (more_ordered last (hosts s.address.host) (is_ordered-Bool true) (host_ordered s.address.host)))

sites_ordered : (ss : List Site) (n : ℕ) → AreFineSites ss → AnswerShortStatuses ss → list_all is_ordered (site_routes ss n) ≡ true
unfolding site_routes
sites_ordered [] n fine short = refl
sites_ordered (s ∷ ss) n fine short =
    both _ _ (site_ordered s n (All-head (λ (s : Site). IsFineBlock s.block) s ss fine) (All-head (λ (s : Site). HaveShortStatuses s.block) s ss short))
    (sites_ordered ss (n + groups_of s.block) (All-tail (λ (s : Site). IsFineBlock s.block) s ss fine) (All-tail (λ (s : Site). HaveShortStatuses s.block) s ss short))

-- what holds of all sites holds of those of a port
all_at : (P : Site → Type 0) (port : ℕ) (ss : List Site) → All P ss → All P (sites_at port ss)
all_at P port ss all =
    let those = filter (λ (s : Site). s.address.port == port) ss in
    let are = All-filter (λ (s : Site). s.address.port == port) P ss all in
    All-append P (filter (λ s. has_host s) those) (filter (λ s. not (has_host s)) those) (All-filter (λ s. has_host s) P those are) (All-filter (λ s. not (has_host s)) P those are)

-- ---- servers

server_ordered : (port : ℕ) (ss : List Site) (n : ℕ) → AreFineSites ss → AnswerShortStatuses ss → is_ordered (server port ss n) ≡ true
server_ordered port ss n fine short =
    object_of_two (member (codes "listen") (text_list ((58 ∷ decimal port) ∷ []))) (member (codes "routes") (list (site_routes ss n))) refl
    (text_list_ordered ((58 ∷ decimal port) ∷ [])) (list_ordered (site_routes ss n) ∙ sites_ordered ss n fine short)

servers_ordered : (ports : List ℕ) (ss : List Site) (k n : ℕ) → AreFineSites ss → AnswerShortStatuses ss → AreOrdered (servers ports ss k n)
unfolding servers
servers_ordered [] ss k n fine short = none_ordered
servers_ordered (port ∷ ports) ss k n fine short =
    let own = sites_at port ss in
    let next = n + all_groups own in
    more_ordered (member (codes "srv" ++ decimal k) (server port own n)) (servers ports ss (suc k) next)
    (server_ordered port own n (all_at (λ (s : Site). IsFineBlock s.block) port ss fine) (all_at (λ (s : Site). HaveShortStatuses s.block) port ss short))
    (servers_ordered ports ss (suc k) next fine short)

numbers_differ : (j k : ℕ) → j < k → k < 2 ^ 64 → bytes_eq (codes "srv" ++ decimal j) (codes "srv" ++ decimal k) ≡ false
numbers_differ j k less small = differ (decimal j) (decimal k) (λ same. omega (arith, less, decimal_injective j k (omega arith) small same))

later_servers : (ports : List ℕ) (ss : List Site) (j k n : ℕ) → j < k → k + length ports < 2 ^ 64 → Lack (codes "srv" ++ decimal j) (servers ports ss k n)
unfolding servers
later_servers [] ss j k n less small = none_lack (codes "srv" ++ decimal j)
later_servers (port ∷ ports) ss j k n less small =
    let own = sites_at port ss in
    let next = n + all_groups own in
    more_lack (codes "srv" ++ decimal j) (member (codes "srv" ++ decimal k) (server port own n)) (servers ports ss (suc k) next) (numbers_differ j k less (omega arith))
    (later_servers ports ss j (suc k) next (omega arith) (omega arith))

servers_distinct : (ports : List ℕ) (ss : List Site) (k n : ℕ) → k + length ports < 2 ^ 64 → AreDistinct (servers ports ss k n)
unfolding servers
servers_distinct [] ss k n small = tt
servers_distinct (port ∷ ports) ss k n small =
    let next = n + all_groups (sites_at port ss) in
    (later_servers ports ss k (suc k) next (omega arith) (omega arith), servers_distinct ports ss (suc k) next (omega arith))

servers_number : (ports : List ℕ) (ss : List Site) (k n : ℕ) → length (servers ports ss k n) ≡ length ports
unfolding servers
servers_number [] ss k n = refl
servers_number (port ∷ ports) ss k n = ap suc (servers_number ports ss (suc k) (n + all_groups (sites_at port ss)))

-- ---- the text of an object

-- each member has a byte
members_within : (b : Bool) (ms : List Member) → length ms ≤ length (print_from b (joined (map member_tokens ms)))
unfolding print_from
members_within b [] = omega arith
members_within b (m ∷ ms) = simp length-append (omega (arith, members_within false ms, length-print-back false (tokens (out-Member m).value) (joined (map member_tokens ms))))

entries_within : (es : List Entry) → length es ≤ length (text (object es))
entries_within es =
    let sorted = by_key (λ (e : Entry). e.key) es in
    let ms = map (λ (e : Entry). roll-Member (record { key = e.key; value = e.value })) sorted in
    let inside = joined (map member_tokens ms) in
    omega (
      arith,
      length_permutation es sorted (IsPermutation-by_key (λ (e : Entry). e.key) es),
      length-map sorted (λ (e : Entry). roll-Member (record { key = e.key; value = e.value })),
      members_within false ms,
      length-print-front false inside (end_object ∷ []),
      length-print-back false (begin_object ∷ []) (inside ++ end_object ∷ []),
      ap (λ ts. length (print ts)) (tokens-Object ms),
    )

-- a value is no longer than an object with it
value_within : (k : List ℕ) (t : Tree) → length (text t) ≤ length (text (object (member k t ∷ [])))
value_within k t =
    let m = roll-Member (record { key = k; value = t }) in
    let own = member_tokens m in
    omega (
      arith,
      ap (λ ts. length (print ts)) (tokens-Object (m ∷ [])),
      length-print-back false (begin_object ∷ []) ((own ++ []) ++ end_object ∷ []),
      length-print-front false (own ++ []) (end_object ∷ []),
      length-print-front false own [],
      ap (λ ts. length (print ts)) (member_tokens-roll k t),
      length-print-back false (key k ∷ []) (tokens t),
    )

-- ---- the whole

apps_ordered : (es : List Entry) → AreDistinct es → AreOrdered es → is_ordered (apps es) ≡ true
apps_ordered es distinct ordered =
    let inside = object (member (codes "servers") (object es) ∷ []) in
    object_of_one (member (codes "apps") (object (member (codes "http") inside ∷ [])))
    (object_of_one (member (codes "http") inside) (object_of_one (member (codes "servers") (object es)) (object_is_ordered es distinct ordered)))

apps_within : (es : List Entry) → length es ≤ length (text (apps es))
apps_within es =
    let inside = object (member (codes "servers") (object es) ∷ []) in
    omega (arith, entries_within es, value_within (codes "servers") (object es), value_within (codes "http") inside, value_within (codes "apps") (object (member (codes "http") inside ∷ [])))

-- the names of servers differ where there are fewer than 2^64 of them, and a text within the limits has no more
fit_shape_is_ordered : (ss : List Site) → AreFineSites ss → AnswerShortStatuses ss → length (text (shape ss)) ≤ MAX_TEXT_BYTES → is_ordered (shape ss) ≡ true
unfolding shape
fit_shape_is_ordered [] fine short fits = empty_object_ordered
fit_shape_is_ordered (s ∷ ss) fine short fits =
    let ports = ports_after [] (s ∷ ss) in
    let all = servers ports (s ∷ ss) 0 0 in
    apps_ordered all (servers_distinct ports (s ∷ ss) 0 0 (omega (arith, fits, apps_within all, servers_number ports (s ∷ ss) 0 0))) (servers_ordered ports (s ∷ ss) 0 0 fine short)

fits_by : (long : Bool) (rest : ⊤ → Result Tree CaddyfileFault) (t made : Tree) → nat_lt MAX_TEXT_BYTES (length (text t)) ≡ long → (refused_where long (fault_at 0 TooLong) ▷ rest) ≡ Ok made →
    length (text t) ≤ MAX_TEXT_BYTES
fits_by true rest t made long is = cc
fits_by false rest t made long is = ltb-false MAX_TEXT_BYTES (length (text t)) long

fits : (t made : Tree) → within_limits t ≡ Ok made → length (text t) ≤ MAX_TEXT_BYTES
fits t made is = fits_by (nat_lt MAX_TEXT_BYTES (length (text t))) (λ _. refused_where (nat_lt MAX_DEPTH (depth t)) (fault_at 0 TooDeep) ▷ λ _. Ok t) t made refl is

went_on : (c : Result ⊤ CaddyfileFault) (r : Result Tree CaddyfileFault) (t : Tree) → (c ▷ λ _. r) ≡ Ok t → r ≡ Ok t
went_on (Ok _) r t is = is
went_on (Err fault) r t is = cc

-- the tree that a file comes to is sound
pub adapted_is_sound : (bytes : List ℕ) (t : Tree) → AreFineSites (sites bytes) → adapted bytes ≡ Ok t → IsSound t
unfolding adapted
adapted_is_sound bytes t fine is =
    let whole = shape (sites bytes) in
    let within = went_on (checked bytes) (within_limits whole) t is in
    sound_within whole t (fit_shape_is_ordered (sites bytes) fine (statuses_are_short bytes) (fits whole t within)) within
