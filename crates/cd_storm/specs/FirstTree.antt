-- Part of the main theorem.
-- The configuration that a storm begins with.
use Rattle.std.specs.Prelude.{ℕ, ◌%◌, List, [], ◌∷◌, ◌++◌, codes, decimal, map}
use Rattle.std.specs.List.{range_with_len}
use Rattle.cd_tree.specs.declared.tree.Member.{Member, roll-Member}
use Rattle.cd_tree.specs.declared.tree.Tree.{Tree}
use Rattle.cd_tree.specs.declared.tree.Tree.TheVariants.{Text, Items, Object}
use Rattle.cd_storm.specs.declared.limits.TheConstants.{BODIES}
use Rattle.cd_storm.specs.Draws.{route_count, route_value}

-- ---- trees of few parts

abbrev pub member : List ℕ → Tree → Member
member key value = roll-Member (record { key = key; value = value })

-- an object with one member
abbrev pub single : List ℕ → Tree → Tree
single key value = Object (member key value ∷ [])

-- an object with two members, in this order
abbrev pub double : List ℕ → Tree → List ℕ → Tree → Tree
double key value other_key other_value = Object (member key value ∷ member other_key other_value ∷ [])

-- a list with one element
abbrev pub list_of : Tree → Tree
list_of item = Items (item ∷ [])

-- ---- routes

-- the first route sets variables, none so far: the lanes add theirs
abbrev pub opening_route : Tree
opening_route = single (codes "handle") (list_of (single (codes "handler") (Text (codes "vars"))))

-- the path of a drawn route, by its place from 0 on
abbrev pub path_of : ℕ → List ℕ
path_of place = codes "/p" ++ decimal place

-- a body, by the value that is drawn
abbrev pub body_of : ℕ → List ℕ
body_of value = codes "b" ++ decimal (value % BODIES)

-- a static response with that body
abbrev pub handler_of : ℕ → Tree
handler_of value = double (codes "body") (Text (body_of value)) (codes "handler") (Text (codes "static_response"))

-- a route for one path, which answers with a body
unfoldable pub route_of : ℕ → ℕ → Tree
route_of place value =
    double (codes "handle") (list_of (handler_of value))
    (codes "match") (list_of (single (codes "path") (list_of (Text (path_of place)))))

-- the route at a place among those that are drawn
abbrev pub drawn_route : ℕ → ℕ → Tree
drawn_route number place = route_of place (route_value number place)

-- all routes
abbrev pub routes_of : ℕ → List Tree
routes_of number = opening_route ∷ map (drawn_route number) (range_with_len 0 (route_count number))

-- ---- the whole

-- one server, `srv0`, at port 8080 of all interfaces
abbrev pub tree_with : List Tree → Tree
tree_with routes =
    single (codes "apps") (single (codes "http") (single (codes "servers") (single (codes "srv0")
    (double (codes "listen") (list_of (Text (codes ":8080"))) (codes "routes") (Items routes)))))

unfoldable pub first_tree : ℕ → Tree
first_tree number = tree_with (routes_of number)
