-- What named routes do and weigh, where none leads to itself.
use Rattle.std.proofs.Common.{◌≡◌, true, false, ◌||◌, Bool, ℕ, zero, suc, ◌+◌, ◌≤◌, inl, inr, List, [], ◌∷◌, length, get_or, map, Option, Some, None, sym, ap, subst, ◌∙◌, refl, arith}
use Rattle.std.proofs.lemmas.List.{length-map}
use Rattle.std.specs.Prelude.{nat_eq}
use Rattle.std.specs.List.{list_any, slice_get}
use Rattle.std.specs.Str.{bytes_eq}
use Rattle.std.proofs.lemmas.Slice.Eq.{bytes_eq-Decides}
use Rattle.std.proofs.lemmas.Bool.Decides.{Decides-eqb}
use Rattle.cd_leads.specs.Leads.{names, numbers}
use Rattle.cd_leads.specs.Depth.{to_depth, IsLevel}
use Rattle.cd_leads.proofs.Leading.{or_left, or_right, or_split}
use Rattle.cd_leads.proofs.Numbers.{unknown_none, no_cycle_of, level_settles, more_depth}
use Rattle.cd_handlers.specs.Invoke.{invoked}
use Rattle.cd_handlers.specs.declared.handler.Handler.{Handler}
use Rattle.cd_routes.specs.declared.named.NamedRoute.{NamedRoute}
use Rattle.cd_routes.specs.declared.route.Route.{Route}
use Rattle.cd_routes.specs.declared.route.Step.TheVariants as step
use Rattle.cd_routes.specs.Invoking.{Names, one_name, route_invokes, route_names, place_of, places_of, route_named, leads_of, HasNoCycle}
use Rattle.cd_routes.specs.Named.{by_name, passes, named_does, named_to, named_routes}
use Rattle.cd_routes.specs.Running.{Rest, Middleware, Named, in_place, step_level, routed, nested, run_route, run_step}
use Rattle.cd_routes.specs.Work.{Weights, handler_weight, step_weight_level, route_weight_level, subroute_weight_level, route_weight, named_weighs, weights_to, named_weights}
use Rattle.cd_routes.specs.declared.work.Work.{Work}
use Rattle.cd_fill.specs.declared.scene.Scene.{Scene}
use Rattle.cd_routes.proofs.Depends.{Agree, IsOfNames, depends}
use Rattle.cd_routes.proofs.Equations.{run_handler_is}

-- ---- names and places

mapped_in : (f : List ℕ → ℕ) (ns : Names) (name : List ℕ) → list_any (bytes_eq name) ns ≡ true → list_any (nat_eq (f name)) (map f ns) ≡ true
mapped_in f [] name there = cc
mapped_in f (n ∷ ns) name there = elim (or_split (bytes_eq name n) (list_any (bytes_eq name) ns) there) [
  | inl first ↦ or_left (nat_eq (f name) (f n)) (list_any (nat_eq (f name)) (map f ns)) ((Decides-eqb (f name) (f n)).1 (ap f ((bytes_eq-Decides name n).0 first)))
  | inr later ↦ or_right (nat_eq (f name) (f n)) (list_any (nat_eq (f name)) (map f ns)) (mapped_in f ns name later)
]

mapped_got : {X : Type 0} (g : X → List ℕ) (xs : List X) (n : ℕ) (x : X) → slice_get xs n ≡ Some x → get_or (map g xs) n [] ≡ g x
mapped_got g [] n x is = cc
mapped_got g (y ∷ xs) zero x is = ap g (some_is y x is)
  where
    some_is : {X : Type 0} (a b : X) → Some a ≡ Some b → a ≡ b
    some_is a b e = cc
mapped_got g (y ∷ xs) (suc n) x is = mapped_got g xs n x is

pub led : (named : List NamedRoute) (n : ℕ) (r : NamedRoute) → slice_get named n ≡ Some r → get_or (leads_of named) n [] ≡ places_of named (route_invokes r.route)
led named n r is = mapped_got (λ (s : NamedRoute). places_of named (route_invokes s.route)) named n r is

pub size : (named : List NamedRoute) → length named ≡ length (leads_of named)
size named = sym (length-map named (λ (s : NamedRoute). places_of named (route_invokes s.route)))

pub agree_by_places : {A : Type 0} (named : List NamedRoute) (f g : ℕ → A) (n : ℕ) (r : NamedRoute) → slice_get named n ≡ Some r → ((m : ℕ) → names (leads_of named) n m ≡ true → f m ≡ g m) →
    Agree (by_name (route_names named) f) (by_name (route_names named) g) (route_invokes r.route)
agree_by_places named f g n r is same = record {
  to = λ name there. same (place_of (route_names named) name)
      (subst (λ ns. list_any (nat_eq (place_of (route_names named) name)) ns ≡ true) (sym (led named n r is)) (mapped_in (place_of (route_names named)) (route_invokes r.route) name there));
}

found_here : (n : List ℕ) → list_any (bytes_eq n) (n ∷ []) ≡ true
found_here n = or_left (bytes_eq n n) false ((bytes_eq-Decides n n).1 refl)

-- ---- what they do

placed_same : (f g : Named) (name : Option (List ℕ)) (h : Handler) → Agree f g (one_name name) → in_place f name h ≡ in_place g name h
placed_same f g None h agree = refl
placed_same f g (Some name) h agree = agree.to name (found_here name)

done_of_names : IsOfNames step_level
done_of_names = record { handler = λ f g h agree. placed_same f g (invoked h) h agree; subroute = λ f g u. refl }

pub run_depends : (r : Route) (f g : Named) → Agree f g (route_invokes r) → run_route f r ≡ run_route g r
unfolding run_route
run_depends r f g agree = depends Middleware step_level routed nested done_of_names r f g agree

abbrev does : List NamedRoute → (ℕ → Middleware) → ℕ → Middleware
does named inner n = named_does (slice_get named n) (by_name (route_names named) inner)

does_near : (named : List NamedRoute) (f g : ℕ → Middleware) (n : ℕ) (found : Option NamedRoute) → slice_get named n ≡ found → ((m : ℕ) → names (leads_of named) n m ≡ true → f m ≡ g m) →
    named_does found (by_name (route_names named) f) ≡ named_does found (by_name (route_names named) g)
does_near named f g n None is same = refl
does_near named f g n (Some r) is same = run_depends r.route (by_name (route_names named) f) (by_name (route_names named) g) (agree_by_places named f g n r is same)

does_level : (named : List NamedRoute) → IsLevel nat_eq (names (leads_of named)) (numbers (leads_of named)) (does named) passes
does_level named = record {
  near = λ f g n same. does_near named f g n (slice_get named n) refl same;
  unknown = λ f n absent. ap (λ found. named_does found (by_name (route_names named) f)) (unknown_none (leads_of named) named n (size named) absent);
}

-- the named route of a place does what its route does
pub place_is : (named : List NamedRoute) (place : ℕ) → HasNoCycle named → named_to named (length named) place ≡ named_does (slice_get named place) (named_routes named)
unfolding named_routes
place_is named place none =
    ap (λ d. to_depth (does named) passes d place) (size named)
    ∙ level_settles (leads_of named) (does named) passes place (does_level named) (no_cycle_of (leads_of named) none)
    ∙ ap (λ d. does named (to_depth (does named) passes d) place) (sym (size named))

pub named_is : (named : List NamedRoute) (name : List ℕ) → HasNoCycle named → named_routes named name ≡ named_does (route_named named name) (named_routes named)
unfolding named_routes
named_is named name none = place_is named (place_of (route_names named) name) none

pub enough_depth : (named : List NamedRoute) (depth place : ℕ) → HasNoCycle named → length named ≤ depth → named_to named depth place ≡ named_to named (length named) place
enough_depth named depth place none enough =
    more_depth (leads_of named) (does named) passes depth place (does_level named) (no_cycle_of (leads_of named) none) (omega (arith, enough, size named))
    ∙ ap (λ d. to_depth (does named) passes d place) (sym (size named))

pub invoke_does : (named : List NamedRoute) (h : Handler) (rest : Rest) (x : Scene) (name : List ℕ) → HasNoCycle named → invoked h ≡ Some name →
    run_step (named_routes named) (step.Handler h) rest x ≡ named_does (route_named named name) (named_routes named) rest x
invoke_does named h rest x name none invokes_it =
    run_handler_is (named_routes named) h rest x ∙ ap (λ n. in_place (named_routes named) n h rest x) invokes_it
    ∙ ap (λ (f : Middleware). f rest x) (named_is named name none)

pub named_none : (named : List NamedRoute) (name : List ℕ) (rest : Rest) (x : Scene) → HasNoCycle named → route_named named name ≡ None → rest x ≡ named_routes named name rest x
named_none named name rest x none is = sym (ap (λ (f : Middleware). f rest x) (named_is named name none ∙ ap (λ found. named_does found (named_routes named)) is))

pub named_some : (named : List NamedRoute) (name : List ℕ) (r : NamedRoute) (rest : Rest) (x : Scene) → HasNoCycle named → route_named named name ≡ Some r →
    named_routes named name rest x ≡ run_route (named_routes named) r.route rest x
named_some named name r rest x none is = ap (λ (f : Middleware). f rest x) (named_is named name none ∙ ap (λ found. named_does found (named_routes named)) is)

-- ---- what they weigh

weighed_same : (f g : Weights) (name : Option (List ℕ)) → Agree f g (one_name name) → handler_weight f name ≡ handler_weight g name
weighed_same f g None agree = refl
weighed_same f g (Some name) agree = ap (λ (n : ℕ). 2 + n) (agree.to name (found_here name))

weights_of_names : IsOfNames step_weight_level
weights_of_names = record { handler = λ f g h agree. weighed_same f g (invoked h) agree; subroute = λ f g u. refl }

weight_depends : (r : Route) (f g : Weights) → Agree f g (route_invokes r) → route_weight f r ≡ route_weight g r
unfolding route_weight
weight_depends r f g agree = depends ℕ step_weight_level route_weight_level subroute_weight_level weights_of_names r f g agree

abbrev weighs : List NamedRoute → (ℕ → ℕ) → ℕ → ℕ
weighs named inner n = named_weighs (slice_get named n) (by_name (route_names named) inner)

weighs_near : (named : List NamedRoute) (f g : ℕ → ℕ) (n : ℕ) (found : Option NamedRoute) → slice_get named n ≡ found → ((m : ℕ) → names (leads_of named) n m ≡ true → f m ≡ g m) →
    named_weighs found (by_name (route_names named) f) ≡ named_weighs found (by_name (route_names named) g)
weighs_near named f g n None is same = refl
weighs_near named f g n (Some r) is same = weight_depends r.route (by_name (route_names named) f) (by_name (route_names named) g) (agree_by_places named f g n r is same)

weighs_level : (named : List NamedRoute) → IsLevel nat_eq (names (leads_of named)) (numbers (leads_of named)) (weighs named) 0
weighs_level named = record {
  near = λ f g n same. weighs_near named f g n (slice_get named n) refl same;
  unknown = λ f n absent. ap (λ found. named_weighs found (by_name (route_names named) f)) (unknown_none (leads_of named) named n (size named) absent);
}

pub weight_is : (named : List NamedRoute) (name : List ℕ) → HasNoCycle named → named_weights named name ≡ named_weighs (route_named named name) (named_weights named)
unfolding named_weights
weight_is named name none =
    ap (λ d. to_depth (weighs named) 0 d (place_of (route_names named) name)) (size named)
    ∙ level_settles (leads_of named) (weighs named) 0 (place_of (route_names named) name) (weighs_level named) (no_cycle_of (leads_of named) none)
    ∙ ap (λ d. weighs named (to_depth (weighs named) 0 d) (place_of (route_names named) name)) (sym (size named))

pub weight_some : (named : List NamedRoute) (name : List ℕ) (r : NamedRoute) → HasNoCycle named → route_named named name ≡ Some r → named_weights named name ≡ route_weight (named_weights named) r.route
weight_some named name r none is = weight_is named name none ∙ ap (λ found. named_weighs found (named_weights named)) is
