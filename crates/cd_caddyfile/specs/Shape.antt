-- Part of the main theorem.
-- The configuration of a list of sites.
use Rattle.std.specs.Prelude.{ℕ, suc, ◌+◌, ◌==◌, not, Bool, true, false, if◌then◌else◌, List, [], ◌∷◌, ◌++◌, map, filter, codes, decimal, Option, Some, None, is_some}
use Rattle.std.specs.List.{list_any}
use Rattle.cd_text.specs.ByKey.{by_key}
use Rattle.cd_caddyfile.specs.declared.entry.Entry.{Entry as AnEntry}
use Rattle.cd_tree.specs.declared.tree.Member.{roll-Member}
use Rattle.cd_tree.specs.declared.tree.Tree as tree
use Rattle.cd_tree.specs.declared.tree.Tree.{Tree}
use Rattle.cd_caddyfile.specs.Sites.{Wanted, Tests, Action, vars, set_field, add_field, delete_field, redir, rewrite, respond, Block, done, act, handle, Site}

-- ---- trees

-- a member that is to be
abbrev pub Entry : Type 0
Entry = AnEntry

abbrev pub member : List ℕ → Tree → Entry
member key value = record { key = key; value = value }

-- an object, members by rising key
abbrev pub object : List Entry → Tree
object entries = tree.Object (map (λ e. roll-Member (record { key = e.key; value = e.value })) (by_key (λ e. e.key) entries))

abbrev pub list : List Tree → Tree
list items = tree.Items items

abbrev pub text_list : List (List ℕ) → Tree
text_list all = list (map (λ t. tree.Text t) all)

-- a member, where there is a value for it
abbrev pub given : {A : Type 0} → List ℕ → (A → Tree) → Option A → List Entry
given key tree_of None = []
given key tree_of (Some value) = member key (tree_of value) ∷ []

-- ---- matchers

abbrev pub wanted : List Wanted → Option Tree
wanted [] = None
wanted (w ∷ ws) = Some (object (map (λ one. member one.name (text_list one.values)) (w ∷ ws)))

abbrev pub set_of : Tests → Tree
set_of t = object (given (codes "path") text_list t.path ++ given (codes "method") text_list t.method
    ++ given (codes "host") text_list t.host ++ given (codes "header") (λ v. v) (wanted t.header) ++ given (codes "query") (λ v. v) (wanted t.query))

-- a route's `match`
abbrev pub matching : Option Tests → List Entry
matching t = given (codes "match") (λ one. list (set_of one ∷ [])) t

-- ---- handlers

abbrev pub handler : List ℕ → List Entry → Tree
handler name members = object (member (codes "handler") (tree.Text name) ∷ members)

-- one field with one value
abbrev pub field : List ℕ → List ℕ → Tree
field name value = object (member name (text_list (value ∷ [])) ∷ [])

abbrev pub response : List Entry → Tree
response changes = handler (codes "headers") (member (codes "response") (object changes) ∷ [])

abbrev pub status : ℕ → Tree
status code = tree.Num (record { negative = false; size = code })

unfoldable pub handler_of : Action → Tree
handler_of (vars name value) = handler (codes "vars") (member name (tree.Text value) ∷ [])
handler_of (set_field name value) = response (member (codes "set") (field name value) ∷ [])
handler_of (add_field name value) = response (member (codes "add") (field name value) ∷ [])
handler_of (delete_field name) = response (member (codes "delete") (text_list (name ∷ [])) ∷ member (codes "deferred") (tree.Bool true) ∷ [])
handler_of (redir to code) =
    handler (codes "static_response") (member (codes "headers") (field (codes "Location") to) ∷ member (codes "status_code") (status code) ∷ [])
handler_of (rewrite to) = handler (codes "rewrite") (member (codes "uri") (tree.Text to) ∷ [])
handler_of (respond body code) =
    handler (codes "static_response") (given (codes "body") (λ t. tree.Text t) body ++ given (codes "status_code") status code)

abbrev pub subroute : List Tree → Tree
subroute routes = handler (codes "subroute") (member (codes "routes") (list routes) ∷ [])

-- ---- routes

abbrev pub group : ℕ → List Entry
group n = member (codes "group") (tree.Text (codes "group" ++ decimal n)) ∷ []

abbrev pub route : List Entry → Option Tests → Tree → Tree
route more t does = object (member (codes "handle") (list (does ∷ [])) ∷ (more ++ matching t))

abbrev pub is_rewrite : Action → Bool
is_rewrite (vars name value) = false
is_rewrite (set_field name value) = false
is_rewrite (add_field name value) = false
is_rewrite (delete_field name) = false
is_rewrite (redir to code) = false
is_rewrite (rewrite to) = true
is_rewrite (respond body code) = false

unfoldable pub rewrites : Block → Bool
rewrites done = false
rewrites (act m a b) = if is_rewrite a then true else rewrites b
rewrites (handle m inside b) = rewrites b

unfoldable pub handles : Block → Bool
handles done = false
handles (act m a b) = handles b
handles (handle m inside b) = true

abbrev pub one_if : Bool → ℕ
one_if test = if test then 1 else 0

-- how many groups the blocks inside need
unfoldable pub groups_inside : Block → ℕ
groups_inside done = 0
groups_inside (act m a b) = groups_inside b
groups_inside (handle m inside b) = one_if (rewrites inside) + one_if (handles inside) + groups_inside inside + groups_inside b

abbrev pub groups_of : Block → ℕ
groups_of b = one_if (rewrites b) + one_if (handles b) + groups_inside b

abbrev pub group_of : Action → ℕ → List Entry
group_of a n = if is_rewrite a then group n else []

-- the routes of a block: the group of its rewrites, that of its handles, and the first that is free
unfoldable pub routes_from : Block → ℕ → ℕ → ℕ → List Tree
routes_from done rewriting handling free = []
routes_from (act m a b) rewriting handling free = route (group_of a rewriting) m (handler_of a) ∷ routes_from b rewriting handling free
routes_from (handle m inside b) rewriting handling free =
    route (group handling) m (subroute (routes_from inside free (free + one_if (rewrites inside)) (free + one_if (rewrites inside) + one_if (handles inside))))
    ∷ routes_from b rewriting handling (free + groups_of inside)

-- the routes of a block whose first group has this number
abbrev pub routes_of : Block → ℕ → List Tree
routes_of b n = routes_from b n (n + one_if (rewrites b)) (n + one_if (rewrites b) + one_if (handles b))

-- ---- servers

abbrev pub hosts : Option (List ℕ) → List Entry
hosts host = given (codes "match") (λ h. list (object (member (codes "host") (text_list (h ∷ [])) ∷ []) ∷ [])) host

-- the route of a site
abbrev pub site_route : Site → ℕ → Tree
site_route s n = object (member (codes "handle") (list (subroute (routes_of s.block n) ∷ []))
    ∷ (member (codes "terminal") (tree.Bool true) ∷ hosts s.address.host))

unfoldable pub site_routes : List Site → ℕ → List Tree
site_routes [] n = []
site_routes (s ∷ ss) n = site_route s n ∷ site_routes ss (n + groups_of s.block)

unfoldable pub all_groups : List Site → ℕ
all_groups [] = 0
all_groups (s ∷ ss) = groups_of s.block + all_groups ss

-- the sites of a port, those with a host first
abbrev pub has_host : Site → Bool
has_host s = is_some s.address.host

abbrev pub sites_at : ℕ → List Site → List Site
sites_at port ss = filter (λ s. has_host s) (filter (λ s. s.address.port == port) ss) ++ filter (λ s. not (has_host s)) (filter (λ s. s.address.port == port) ss)

-- the ports in the order in which they first occur
unfoldable pub ports_after : List ℕ → List Site → List ℕ
ports_after before [] = []
ports_after before (s ∷ ss) =
    if list_any (λ port. port == s.address.port) before then ports_after before ss
    else s.address.port ∷ ports_after (s.address.port ∷ before) ss

abbrev pub server : ℕ → List Site → ℕ → Tree
server port ss n = object (member (codes "listen") (text_list ((58 ∷ decimal port) ∷ [])) ∷ member (codes "routes") (list (site_routes ss n)) ∷ [])

-- the servers: the number of the next one, and that of the next group
unfoldable pub servers : List ℕ → List Site → ℕ → ℕ → List Entry
servers [] ss k n = []
servers (port ∷ ports) ss k n =
    member (codes "srv" ++ decimal k) (server port (sites_at port ss) n) ∷ servers ports ss (suc k) (n + all_groups (sites_at port ss))

abbrev pub apps : List Entry → Tree
apps all = object (member (codes "apps") (object (member (codes "http") (object (member (codes "servers") (object all) ∷ [])) ∷ [])) ∷ [])

-- a file without sites says nothing
unfoldable pub shape : List Site → Tree
shape [] = tree.Object []
shape (s ∷ ss) = apps (servers (ports_after [] (s ∷ ss)) (s ∷ ss) 0 0)
