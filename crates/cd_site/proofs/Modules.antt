-- Sites have no more groups than their routes have modules.
use Rattle.std.proofs.Common.{◌≡◌, ℕ, suc, ◌+◌, ◌≤◌, List, [], ◌∷◌, ◌++◌, map, length, Option, Some, None, ap, ◌∙◌, refl, arith, decimal}
use Rattle.std.specs.Prelude.{Bool, true, false, codes}
use Rattle.std.proofs.lemmas.List.{length-append}
use Rattle.cd_tree.specs.Path.{◌▸◌}
use Rattle.cd_tree.specs.declared.path.Path.{Path}
use Rattle.cd_match.specs.declared.sets.Sets.{Sets}
use Rattle.cd_handlers.specs.declared.handler.Handler.{Handler}
use Rattle.cd_routes.specs.Names.{subroute_name}
use Rattle.cd_routes.specs.declared.route.Route.{Route, roll-Route, out-roll-Route}
use Rattle.cd_routes.specs.declared.route.Step.{Step}
use Rattle.cd_routes.specs.declared.route.Step.TheVariants as kind
use Rattle.cd_routes.specs.declared.route.Subroute.{roll-Subroute, out-roll-Subroute}
use Rattle.cd_standard.proofs.Levels.{handler_modules_is, subroute_modules_is, route_modules_is}
use Rattle.cd_standard.specs.Plans.{in_elements, set_modules, step_modules, route_modules, routes_modules, errors_modules, handler_module}
use Rattle.cd_caddyfile.specs.Sites.{Site}
use Rattle.cd_site.specs.Sequences.{Sequence, done, act, once, inside, has_once, has_inside, one_if, groups_inside, groups_of, route, subroute, routes_from, routes_of}
use Rattle.cd_site.specs.Settings.{host_sets, block_sequence, site_route, site_routes, all_groups}

-- the modules of a route have those of its step
step_within : (g : Option (List ℕ)) (m : Sets) (s : Step) (t : Bool) (at : Path) →
    length (step_modules s (at ▸ codes "handle" ▸ decimal 0)) ≤ length (route_modules (roll-Route (record { group = g; matching = m; handle = s ∷ []; terminal = t })) at)
step_within g m s t at =
    let whole = route_modules_is (roll-Route (record { group = g; matching = m; handle = s ∷ []; terminal = t })) at
    ∙ ap (λ r. in_elements 0 (map set_modules r.matching.sets) (at ▸ codes "match") ++ in_elements 0 (map step_modules r.handle) (at ▸ codes "handle"))
    (out-roll-Route (record { group = g; matching = m; handle = s ∷ []; terminal = t })) in
    let outer = length-append (in_elements 0 (map set_modules m.sets) (at ▸ codes "match")) (step_modules s (at ▸ codes "handle" ▸ decimal 0) ++ []) in
    let inner = length-append (step_modules s (at ▸ codes "handle" ▸ decimal 0)) [] in
    omega (arith, ap length whole, outer, inner)

handler_within : (g : Option (List ℕ)) (m : Sets) (h : Handler) (at : Path) → 1 ≤ length (route_modules (route g m (kind.Handler h)) at)
handler_within g m h at =
    omega (arith, step_within g m (kind.Handler h) false at, ap length (handler_modules_is h (at ▸ codes "handle" ▸ decimal 0)))

subroute_within : (g : Option (List ℕ)) (m : Sets) (rs : List Route) (t : Bool) (at : Path) →
    1 + length (routes_modules rs (at ▸ codes "handle" ▸ decimal 0 ▸ codes "routes"))
    ≤ length (route_modules (roll-Route (record { group = g; matching = m; handle = subroute rs ∷ []; terminal = t })) at)
subroute_within g m rs t at =
    let place = at ▸ codes "handle" ▸ decimal 0 in
    let whole = subroute_modules_is (roll-Subroute (record { routes = rs; errors = None })) place
    ∙ ap (λ s. handler_module subroute_name place ∷ (routes_modules s.routes (place ▸ codes "routes") ++ errors_modules s.errors place))
    (out-roll-Subroute (record { routes = rs; errors = None })) in
    let split = length-append (routes_modules rs (place ▸ codes "routes")) (errors_modules None place) in
    omega (arith, step_within g m (subroute rs) t at, ap length whole, split)

sequence_within : (name : ℕ → List ℕ) (p : Sequence) (rw1 hd1 n i : ℕ) (at : Path) → groups_of p ≤ length (in_elements i (map route_modules (routes_from name p rw1 hd1 n)) at)
unfolding routes_from groups_inside
sequence_within name done rw1 hd1 n i at = omega arith
sequence_within name (act m h p) rw1 hd1 n i at =
    let split = length-append (route_modules (route None m (kind.Handler h)) (at ▸ decimal i)) (in_elements (suc i) (map route_modules (routes_from name p rw1 hd1 n)) at) in
    omega (arith, split, sequence_within name p rw1 hd1 n (suc i) at)
sequence_within name (once m h p) rw1 hd1 n i at =
    let split = length-append (route_modules (route (Some (name rw1)) m (kind.Handler h)) (at ▸ decimal i)) (in_elements (suc i) (map route_modules (routes_from name p rw1 hd1 n)) at) in
    omega (arith, split, handler_within (Some (name rw1)) m h (at ▸ decimal i), sequence_within name p rw1 hd1 n (suc i) at)
sequence_within name (inside m q p) rw1 hd1 n i at =
    let rs = routes_from name q n (n + one_if (has_once q)) (n + one_if (has_once q) + one_if (has_inside q)) in
    let split = length-append (route_modules (route (Some (name hd1)) m (subroute rs)) (at ▸ decimal i)) (in_elements (suc i) (map route_modules (routes_from name p rw1 hd1 (n + groups_of q))) at) in
    omega (
      arith,
      split,
      subroute_within (Some (name hd1)) m rs false (at ▸ decimal i),
      sequence_within name q n (n + one_if (has_once q)) (n + one_if (has_once q) + one_if (has_inside q)) 0 (at ▸ decimal i ▸ codes "handle" ▸ decimal 0 ▸ codes "routes"),
      sequence_within name p rw1 hd1 (n + groups_of q) (suc i) at,
    )

sites_from : (name : ℕ → List ℕ) (ss : List Site) (n i : ℕ) (at : Path) → all_groups ss ≤ length (in_elements i (map route_modules (site_routes name ss n)) at)
unfolding site_routes all_groups
sites_from name [] n i at = omega arith
sites_from name (s ∷ ss) n i at =
    let split = length-append (route_modules (site_route name s n) (at ▸ decimal i)) (in_elements (suc i) (map route_modules (site_routes name ss (n + groups_of (block_sequence s)))) at) in
    omega (
      arith,
      split,
      subroute_within None (host_sets s.address.host) (routes_of name (block_sequence s) n) true (at ▸ decimal i),
      sequence_within name (block_sequence s) n (n + one_if (has_once (block_sequence s))) (n + one_if (has_once (block_sequence s)) + one_if (has_inside (block_sequence s))) 0
          (at ▸ decimal i ▸ codes "handle" ▸ decimal 0 ▸ codes "routes"),
      sites_from name ss (n + groups_of (block_sequence s)) (suc i) at,
    )

pub sites_within : (name : ℕ → List ℕ) (ss : List Site) (n : ℕ) (at : Path) → all_groups ss ≤ length (routes_modules (site_routes name ss n) at)
sites_within name ss n at = sites_from name ss n 0 at
