-- The routes of a subroute are read as all routes are.
use Rattle.std.proofs.Common.{◌≡◌, ℕ, List, refl, arith, rules}
use Rattle.std.specs.Prelude.{codes}
use Rattle.std.specs.Str.{bytes_eq}
use Rattle.cd_tree.specs.Tree.{depth}
use Rattle.cd_tree.specs.declared.path.Path.{Path}
use Rattle.cd_tree.specs.declared.tree.Tree.{Tree}
use Rattle.cd_module.specs.Settings.{Reader, text, list_of, optional, name_of}
use Rattle.cd_module.proofs.Recursion.{Agree, Inward, unfolds, ▷-same, list_of-same, optional-same}
use Rattle.cd_module.proofs.Bare.{if_same}
use Rattle.cd_module.proofs.Inside.{members-same}
use Rattle.cd_match.specs.Matchers.{route_sets}
use Rattle.cd_routes.specs.Reading.{routes, route, step, subroute, error_routes}
use Rattle.cd_routes.specs.declared.named.KnownName.{KnownName}
use Rattle.cd_routes.specs.declared.route.Route.{Route}

errors-same : (f g : Reader (List Route)) (n : ℕ) → Agree n f g → Agree n (error_routes f) (error_routes g)
unfolding error_routes
errors-same f g n a = search (rules, members-same, ▷-same, optional-same)

subroute-same : (f g : Reader (List Route)) (n : ℕ) → Agree n f g → Agree n (subroute f) (subroute g)
unfolding subroute
subroute-same f g n a = search (rules, members-same, ▷-same, optional-same, errors-same)

step-same : (known : List KnownName) (f g : Reader (List Route)) (n : ℕ) → Agree n f g → Agree n (step known f) (step known g)
unfolding step
step-same known f g n a = record {
  same = λ s p h. ▷-same (name_of (codes "handler") s p) (name_of (codes "handler") s p) _ _ refl (λ name.
      if_same (bytes_eq name (codes "subroute")) _ _ _ _ (▷-same (subroute f s p) (subroute g s p) _ _ ((subroute-same f g n a).same s p h) (λ x. refl)) refl);
}

steps-same : (known : List KnownName) (f g : Reader (List Route)) (n : ℕ) → Agree n f g → Agree n (list_of (step known f)) (list_of (step known g))
steps-same known f g n a = record { same = λ s p h. list_of-same (step known f) (step known g) n (step-same known f g n a) s p (omega arith) }

route-same : (known : List KnownName) (f g : Reader (List Route)) (n : ℕ) → Agree n f g → Agree n (route known f) (route known g)
unfolding route
route-same known f g n a = record {
  same = λ s p h. members-same n (codes "group match handle terminal") s p _ _ (omega arith) (λ ms w.
      ▷-same (optional text (codes "group") ms p) (optional text (codes "group") ms p) _ _ refl (λ group.
      ▷-same (optional route_sets (codes "match") ms p) (optional route_sets (codes "match") ms p) _ _ refl (λ sets.
      ▷-same (optional (list_of (step known f)) (codes "handle") ms p) (optional (list_of (step known g)) (codes "handle") ms p) _ _ (optional-same (list_of (step known f)) (list_of (step known g)) n (steps-same known f g n a) (codes "handle") ms p w) (λ steps. refl))));
}

pub routes-inward : (known : List KnownName) → Inward (λ inner. list_of (route known inner))
routes-inward known = record { same = λ f g t at a. list_of-same (route known f) (route known g) (depth t) (route-same known f g (depth t) a) t at (omega arith) }

pub routes_are : (known : List KnownName) (t : Tree) (at : Path) → routes known t at ≡ list_of (route known (routes known)) t at
unfolding routes
routes_are known = unfolds (λ inner. list_of (route known inner)) (routes-inward known)
