-- The first tree of each storm is sound.
use Rattle.std.proofs.Common.{ℕ, ◌+◌, ◌*◌, ◌%◌, ◌≤◌, ◌<◌, List, length, map, refl, arith, decimal, codes, length-append}
use Rattle.std.specs.List.{range_with_len}
use Rattle.std.proofs.lemmas.Fmt.{length-decimal-le}
use Rattle.cd_tree.specs.Tree.{IsSound}
use Rattle.cd_tree.specs.declared.tree.Tree.{Tree}
use Rattle.cd_tree.specs.declared.tree.Tree.TheVariants.{Text, Items}
use Rattle.cd_storm.specs.declared.limits.TheConstants.{BODIES}
use Rattle.cd_storm.specs.Draws.{route_count, route_value}
use Rattle.cd_storm.specs.FirstTree.{path_of, body_of, handler_of, opening_route, route_of, drawn_route, routes_of, tree_with, first_tree, single, list_of}
use Rattle.cd_storm.proofs.Fitting.{Fits, within, fits_text, fits_list_of, fits_single, fits_double, one_more_fits, range_fits, fits_items, fits_sound}

-- ---- texts

few_digits : (n : ℕ) → n < 1000 → length (decimal n) ≤ 3
few_digits n h = length-decimal-le 3 n (omega arith) (omega arith) (omega arith)

short_body : (value : ℕ) → length (body_of value) ≤ 4
short_body value = simp length-append (omega (arith, few_digits (value % BODIES) (omega arith)))

short_path : (place : ℕ) → place < 1000 → length (path_of place) ≤ 5
short_path place h = simp length-append (omega (arith, few_digits place h))

-- ---- routes

handler_fits : (value : ℕ) → Fits (handler_of value) 1 226
handler_fits value =
    within 1 226
    (fits_double (codes "body") (codes "handler") (Text (body_of value)) (Text (codes "static_response")) 0 27 93 refl
    (fits_text (body_of value) 4 (short_body value)) (fits_text (codes "static_response") 15 (omega arith)))
    (omega arith) (omega arith)

handlers_fit : (value : ℕ) → Fits (list_of (handler_of value)) 3 230
handlers_fit value = within 3 230 (fits_list_of (handler_of value) 1 226 (handler_fits value)) (omega arith) (omega arith)

sets_of : ℕ → Tree
sets_of place = list_of (single (codes "path") (list_of (Text (path_of place))))

sets_fit : (place : ℕ) → place < 1000 → Fits (sets_of place) 3 73
unfolding sets_of
sets_fit place h =
    let paths = within 1 37 (fits_list_of (Text (path_of place)) 0 33 (fits_text (path_of place) 5 (short_path place h))) (omega arith) (omega arith) in
    let set = within 2 69 (fits_single (codes "path") (list_of (Text (path_of place))) 1 37 paths) (omega arith) (omega arith) in
    within 3 73 (fits_list_of (single (codes "path") (list_of (Text (path_of place)))) 2 69 set) (omega arith) (omega arith)

route_fits : (place value : ℕ) → place < 1000 → Fits (route_of place value) 4 400
unfolding route_of sets_of
route_fits place value h =
    within 4 400 (fits_double (codes "handle") (codes "match") (list_of (handler_of value)) (sets_of place) 3 230 73 refl (handlers_fit value) (sets_fit place h))
    (omega arith) (omega arith)

opening_fits : Fits opening_route 4 400
opening_fits =
    let handler = within 1 77 (fits_single (codes "handler") (Text (codes "vars")) 0 27 (fits_text (codes "vars") 4 (omega arith))) (omega arith) (omega arith) in
    let handlers = within 2 81 (fits_list_of (single (codes "handler") (Text (codes "vars"))) 1 77 handler) (omega arith) (omega arith) in
    within 4 400 (fits_single (codes "handle") (list_of (single (codes "handler") (Text (codes "vars")))) 2 81 handlers) (omega arith) (omega arith)

-- ---- the whole

routes_fit : (number : ℕ) → Fits (Items (routes_of number)) 5 400004
routes_fit number =
    let n = route_count number in
    let few : n ≤ 999 = omega arith in
    let all = one_more_fits opening_route (map (drawn_route number) (range_with_len 0 n)) 4 400 (400 * n) opening_fits
    (range_fits (drawn_route number) 4 400 0 n (λ i h. route_fits i (route_value number i) (omega arith))) in
    within 5 400004 (fits_items (routes_of number) 4 (400 + 400 * n) all) (omega arith) (omega (arith, few))

listen_fits : Fits (list_of (Text (codes ":8080"))) 5 37
listen_fits = within 5 37 (fits_list_of (Text (codes ":8080")) 0 33 (fits_text (codes ":8080") 5 (omega arith))) (omega arith) (omega arith)

-- an object with one member, of which the key has ten bytes at most
pub wrapped : (key : List ℕ) (t : Tree) (levels bytes : ℕ) → length key ≤ 10 → Fits t levels bytes → Fits (single key t) (levels + 1) (bytes + 68)
wrapped key t levels bytes short f = within (levels + 1) (bytes + 68) (fits_single key t levels bytes f) (omega arith) (omega arith)

tree_fits : (number : ℕ) → Fits (tree_with (routes_of number)) 10 500000
tree_fits number =
    let server = fits_double (codes "listen") (codes "routes") (list_of (Text (codes ":8080"))) (Items (routes_of number)) 5 37 400004 refl listen_fits (routes_fit number) in
    within 10 500000 (wrapped (codes "apps") _ _ _ (omega arith) (wrapped (codes "http") _ _ _ (omega arith) (wrapped (codes "servers") _ _ _ (omega arith) (wrapped (codes "srv0") _ _ _ (omega arith) server))))
    (omega arith) (omega arith)

pub first_tree_sound : (number : ℕ) → IsSound (first_tree number)
unfolding first_tree
first_tree_sound number = fits_sound (first_tree number) 10 500000 (tree_fits number) (omega arith) (omega arith)
