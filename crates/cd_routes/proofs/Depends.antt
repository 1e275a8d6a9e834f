-- What a fold over routes gives depends on the named routes that they invoke alone.
use Rattle.std.proofs.Common.{◌≡◌, true, false, Bool, ℕ, List, [], ◌∷◌, ◌++◌, map, Option, Some, None, sym, ap, subst, ◌∙◌, refl}
use Rattle.std.specs.List.{list_any}
use Rattle.std.specs.Str.{bytes_eq}
use Rattle.std.proofs.lemmas.List.Folds.{list_any-append}
use Rattle.cd_leads.proofs.Leading.{or_left, or_right}
use Rattle.cd_handlers.specs.Invoke.{invoked}
use Rattle.cd_handlers.specs.declared.handler.Handler.{Handler}
use Rattle.cd_routes.specs.declared.route.Route.{Route, Route-F, ind-Route, fold-Route, fold-roll-Route, roll-Route}
use Rattle.cd_routes.specs.declared.route.Step.{Step, fold-Step, fold-roll-Step, roll-Step}
use Rattle.cd_routes.specs.declared.route.Step.TheOpen.{Step-F, Subroute-F}
use Rattle.cd_routes.specs.declared.route.Step.TheFolds.{map-Step, map-Route, map-Subroute}
use Rattle.cd_routes.specs.declared.route.Subroute.{Subroute, fold-Subroute, fold-roll-Subroute, roll-Subroute}
use Rattle.cd_routes.specs.Invoking.{Names, joined, one_name, step_names_level, route_names_level, subroute_names_level, route_invokes}

-- both say the same of these names
pub record Agree {A : Type 0} (f g : List ℕ → A) (ns : Names) : Type 0 where
  pub to : (n : List ℕ) → list_any (bytes_eq n) ns ≡ true → f n ≡ g n

agree_front : {A : Type 0} (f g : List ℕ → A) (xs ys : Names) → Agree f g (xs ++ ys) → Agree f g xs
agree_front f g xs ys agree = record { to = λ n there. agree.to n (list_any-append (bytes_eq n) xs ys ∙ or_left (list_any (bytes_eq n) xs) (list_any (bytes_eq n) ys) there) }

agree_back : {A : Type 0} (f g : List ℕ → A) (xs ys : Names) → Agree f g (xs ++ ys) → Agree f g ys
agree_back f g xs ys agree = record { to = λ n there. agree.to n (list_any-append (bytes_eq n) xs ys ∙ or_right (list_any (bytes_eq n) xs) (list_any (bytes_eq n) ys) there) }

abbrev step_names : Step → Names
step_names = fold-Step Names Names Names step_names_level route_names_level subroute_names_level

abbrev route_names : Route → Names
route_names = fold-Route Names Names Names step_names_level route_names_level subroute_names_level

abbrev subroute_names : Subroute → Names
subroute_names = fold-Subroute Names Names Names step_names_level route_names_level subroute_names_level

-- a fold of which the level of a step alone looks at what names stand for, and at that of the name that a handler invokes alone
pub record IsOfNames {A : Type 0} (level : (List ℕ → A) → Step-F A A A → A) : Type 0 where
  pub handler : (f g : List ℕ → A) (h : Handler) → Agree f g (one_name (invoked h)) → level f (Step-F.Handler h) ≡ level g (Step-F.Handler h)
  pub subroute : (f g : List ℕ → A) (u : A) → level f (Step-F.Subroute u) ≡ level g (Step-F.Subroute u)

module _ (A : Type 0) (level : (List ℕ → A) → Step-F A A A → A) (routed : Route-F A A A → A) (nested : Subroute-F A A A → A) (of_names : IsOfNames level) where
  abbrev steps_do : (List ℕ → A) → Step → A
  steps_do f = fold-Step A A A (level f) routed nested

  abbrev routes_do : (List ℕ → A) → Route → A
  routes_do f = fold-Route A A A (level f) routed nested

  abbrev subroutes_do : (List ℕ → A) → Subroute → A
  subroutes_do f = fold-Subroute A A A (level f) routed nested

  -- what gives the same, where both say the same of its names
  abbrev Same : {X : Type 0} → ((List ℕ → A) → X → A) → (X → Names) → X → Type 0
  Same does names x = (f g : List ℕ → A) → Agree f g (names x) → does f x ≡ does g x

  same_all : {X : Type 0} (does : (List ℕ → A) → X → A) (names : X → Names) (es : List ((x : X) × Same does names x)) (f g : List ℕ → A) →
      Agree f g (joined (map names (map (λ e. e.0) es))) → map (does f) (map (λ e. e.0) es) ≡ map (does g) (map (λ e. e.0) es)
  same_all does names [] f g agree = refl
  same_all does names (e ∷ es) f g agree =
      let first : does f e.0 ≡ does g e.0 = e.1 f g (agree_front f g (names e.0) (joined (map names (map (λ d. d.0) es))) agree) in
      let others = same_all does names es f g (agree_back f g (names e.0) (joined (map names (map (λ d. d.0) es))) agree) in
      ap (λ m. m ∷ map (does f) (map (λ d. d.0) es)) first ∙ ap (λ ms. does g e.0 ∷ ms) others

  -- a part with a proof beside it
  abbrev Steps : Type 0
  Steps = (s : Step) × Same steps_do step_names s

  abbrev Routes : Type 0
  Routes = (r : Route) × Same routes_do route_names r

  abbrev Subroutes : Type 0
  Subroutes = (u : Subroute) × Same subroutes_do subroute_names u

  step_made : (y : Step-F Steps Routes Subroutes) → Same steps_do step_names (roll-Step (map-Step Steps Routes Subroutes Step Route Subroute (λ e. e.0) (λ e. e.0) (λ e. e.0) y))
  step_made (Step-F.Handler h) f g agree =
      fold-roll-Step A A A (level f) routed nested (Step-F.Handler h)
      ∙ of_names.handler f g h (subst (Agree f g) (fold-roll-Step Names Names Names step_names_level route_names_level subroute_names_level (Step-F.Handler h)) agree)
      ∙ sym (fold-roll-Step A A A (level g) routed nested (Step-F.Handler h))
  step_made (Step-F.Subroute u) f g agree =
      fold-roll-Step A A A (level f) routed nested (Step-F.Subroute u.0)
      ∙ ap (λ (a : A). level f (Step-F.Subroute a)) (u.1 f g (subst (Agree f g) (fold-roll-Step Names Names Names step_names_level route_names_level subroute_names_level (Step-F.Subroute u.0)) agree))
      ∙ of_names.subroute f g (subroutes_do g u.0)
      ∙ sym (fold-roll-Step A A A (level g) routed nested (Step-F.Subroute u.0))

  route_made : (y : Route-F Steps Routes Subroutes) → Same routes_do route_names (roll-Route (map-Route Steps Routes Subroutes Step Route Subroute (λ e. e.0) (λ e. e.0) (λ e. e.0) y))
  route_made y f g agree =
      let d : Route-F Step Route Subroute = map-Route Steps Routes Subroutes Step Route Subroute (λ e. e.0) (λ e. e.0) (λ e. e.0) y in
      fold-roll-Route A A A (level f) routed nested d
      ∙ ap (λ hs. routed (record { group = y.group; matching = y.matching; handle = hs; terminal = y.terminal }))
      (same_all steps_do step_names y.handle f g (subst (Agree f g) (fold-roll-Route Names Names Names step_names_level route_names_level subroute_names_level d) agree))
      ∙ sym (fold-roll-Route A A A (level g) routed nested d)

  abbrev plain_subroute : List Routes → Option (List Routes) → Subroute-F Step Route Subroute
  plain_subroute routes errors = map-Subroute Steps Routes Subroutes Step Route Subroute (λ e. e.0) (λ e. e.0) (λ e. e.0) (record { routes = routes; errors = errors })

  nested_with : (f g : List ℕ → A) (errors : Option (List A)) (routes : List Routes) → Agree f g (joined (map route_names (map (λ (e : Routes). e.0) routes))) →
      nested (record { routes = map (routes_do f) (map (λ (e : Routes). e.0) routes); errors = errors }) ≡ nested (record { routes = map (routes_do g) (map (λ (e : Routes). e.0) routes); errors = errors })
  nested_with f g errors routes agree = ap (λ rs. nested (record { routes = rs; errors = errors })) (same_all routes_do route_names routes f g agree)

  subroute_made : (routes : List Routes) (errors : Option (List Routes)) → Same subroutes_do subroute_names (roll-Subroute (plain_subroute routes errors))
  subroute_made routes None f g agree =
      let both = subst (Agree f g) (fold-roll-Subroute Names Names Names step_names_level route_names_level subroute_names_level (plain_subroute routes None)) agree in
      fold-roll-Subroute A A A (level f) routed nested (plain_subroute routes None)
      ∙ nested_with f g None routes (agree_front f g (joined (map route_names (map (λ (e : Routes). e.0) routes))) [] both)
      ∙ sym (fold-roll-Subroute A A A (level g) routed nested (plain_subroute routes None))
  subroute_made routes (Some es) f g agree =
      let inside : Names = joined (map route_names (map (λ (e : Routes). e.0) routes)) in
      let caught_by : Names = joined (map route_names (map (λ (e : Routes). e.0) es)) in
      let both = subst (Agree f g) (fold-roll-Subroute Names Names Names step_names_level route_names_level subroute_names_level (plain_subroute routes (Some es))) agree in
      fold-roll-Subroute A A A (level f) routed nested (plain_subroute routes (Some es))
      ∙ nested_with f g (Some (map (routes_do f) (map (λ (e : Routes). e.0) es))) routes (agree_front f g inside caught_by both)
      ∙ ap (λ hs. nested (record { routes = map (routes_do g) (map (λ (e : Routes). e.0) routes); errors = Some hs })) (same_all routes_do route_names es f g (agree_back f g inside caught_by both))
      ∙ sym (fold-roll-Subroute A A A (level g) routed nested (plain_subroute routes (Some es)))

  pub depends : (r : Route) (f g : List ℕ → A) → Agree f g (route_invokes r) → fold-Route A A A (level f) routed nested r ≡ fold-Route A A A (level g) routed nested r
  unfolding route_invokes
  depends = ind-Route (Same steps_do step_names) (Same routes_do route_names) (Same subroutes_do subroute_names)
      (λ x y is. subst (λ z. Same steps_do step_names (roll-Step z)) is (step_made y))
      (λ x y is. subst (λ z. Same routes_do route_names (roll-Route z)) is (route_made y))
      (λ x y is. subst (λ z. Same subroutes_do subroute_names (roll-Subroute z)) is (subroute_made y.routes y.errors))
