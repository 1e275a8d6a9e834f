-- Sites and servers, measured.
use Rattle.std.specs.Prelude.{ℕ, suc, ◌+◌, true, List, [], ◌∷◌, ◌++◌, codes, decimal, Option, Some, None}
use Rattle.cd_text.specs.ByKey.{by_key}
use Rattle.cd_tree.specs.declared.limits.TheConstants.{MAX_TEXT_BYTES}
use Rattle.cd_tree.specs.declared.tree.Tree as tree
use Rattle.cd_caddyfile.specs.Shape.{Entry, member, object, list, text_list, server, all_groups}
use Rattle.cd_caddyfile.specs.Sites.{Tests, Site}
use Rattle.cd_parts.specs.Matching.{set_named, Agrees}
use Rattle.cd_parts.specs.Measures.{measured, list_of, object_of}
use Rattle.cd_adapt.specs.Steps.{part, subroute_of}
use Rattle.cd_parts.specs.declared.matchers.SetTable.{SetTable}
use Rattle.cd_parts.specs.declared.measured.Measured.{Measured}
use Rattle.cd_parts.specs.declared.measured.Part.{Part}

-- each set of each site is that of these tests
abbrev pub AgreesAll : SetTable → (ℕ → List ℕ → Tests) → Type 0
AgreesAll table tests_of = (site : ℕ) → Agrees (set_named table site) (tests_of site)

abbrev pub host_parts : Option (List ℕ) → List Part
host_parts None = []
host_parts (Some host) = part (codes "match") (measured (list (object (member (codes "host") (text_list (host ∷ [])) ∷ []) ∷ []))) ∷ []

-- the route of a site with these routes
abbrev pub site_route_of : List Measured → Option (List ℕ) → Measured
site_route_of routes host =
    object_of (part (codes "handle") (list_of (subroute_of routes ∷ [])) ∷ (host_parts host ++ part (codes "terminal") (measured (tree.Bool true)) ∷ []))

-- the server of these routes, which listens to this address
abbrev pub server_of : List ℕ → List Measured → Measured
server_of address routes = object_of (part (codes "listen") (measured (text_list (address ∷ []))) ∷ part (codes "routes") (list_of routes) ∷ [])

abbrev pub apps_of : List Part → Measured
apps_of servers = object_of (part (codes "apps") (object_of (part (codes "http") (object_of (part (codes "servers") (object_of (by_key (λ (p : Part). p.key) servers)) ∷ [])) ∷ [])) ∷ [])

-- the servers of ports, where `sites_at` has the sites of a port: the number of the next one, and that of the next group
unfoldable pub servers_by : (ℕ → List Site) → List ℕ → ℕ → ℕ → List Entry
servers_by sites_at [] k n = []
servers_by sites_at (port ∷ ports) k n =
    member (codes "srv" ++ decimal k) (server port (sites_at port) n) ∷ servers_by sites_at ports (suc k) (n + all_groups (sites_at port))

-- how many lines sites have at most
abbrev pub MOST_LINES : ℕ
MOST_LINES = MAX_TEXT_BYTES + 1
