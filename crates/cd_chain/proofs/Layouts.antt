-- What an added place means, by the settings that it was made of.
use Rattle.std.proofs.Common.{◌≡◌, true, false, Bool, ℕ, suc, ◌+◌, ◌≤◌, List, [], ◌∷◌, ◌++◌, length, map, get_or, if◌then◌else◌, Option, Some, None, option_map, sym, ap, ◌∙◌, refl, arith, length-append}
use Rattle.cd_fill.specs.declared.scene.Scene.{Scene}
use Rattle.cd_handlers.specs.declared.handler.Handler.{Handler}
use Rattle.cd_handlers.specs.Invoke.{invoked}
use Rattle.cd_match.specs.declared.sets.Sets.{Sets}
use Rattle.cd_routes.specs.declared.outcome.Outcome.{Outcome}
use Rattle.cd_routes.specs.declared.outcome.Outcome.TheVariants.{Answered, Failed}
use Rattle.cd_routes.specs.declared.route.Route.{Route, out-Route}
use Rattle.cd_routes.specs.declared.route.Step.{Step}
use Rattle.cd_routes.specs.declared.route.Step.TheVariants as step
use Rattle.cd_routes.specs.declared.route.Subroute.{Subroute, out-Subroute}
use Rattle.cd_routes.specs.Invoking.{Names, place_of}
use Rattle.cd_routes.specs.Running.{Rest, Middleware, Named, nothing_left, in_order, in_place, caught, run_route, run_routes, run_step, run_steps}
use Rattle.cd_routes.specs.Work.{total, errors_weight, route_weight, step_weight}
use Rattle.cd_routes.proofs.Equations.{run_route_is, run_subroute_is}
use Rattle.cd_chain.specs.declared.index.Entry.{Entry}
use Rattle.cd_chain.specs.declared.index.Index.{Index}
use Rattle.cd_chain.specs.declared.place.Place.{Place}
use Rattle.cd_chain.specs.declared.place.Place.TheVariants as place
use Rattle.cd_chain.specs.Growing.{Grows}
use Rattle.cd_chain.specs.Indexes.{AreSound}
use Rattle.cd_chain.specs.Places.{or_failed, ended, route_does, place_does, meanings, at}
use Rattle.cd_chain.specs.Steps.{counts, no_steps, place_steps, steps_at}
use Rattle.cd_chain.specs.Laying.{entered_by, AreLaid, Laid, MayLay}
use Rattle.cd_chain.proofs.Laid.{laid_new, laid_kept, laid_end}

-- ---- weights

-- an `invoke` weighs what another handler does
abbrev pub plain : List ℕ → ℕ
plain name = 0

abbrev pub route_size : Route → ℕ
route_size r = route_weight plain r

abbrev pub step_size : Step → ℕ
step_size s = step_weight plain s

-- ---- growing

alike : (f g : Rest) → ((x : Scene) → f x ≡ g x) → f ≡ g
alike f g same = λ i x. same x i

added : (old new : List Place) (p : Place) (n : ℕ) → new ≡ old ++ p ∷ [] → n ≡ length new → at new n ≡ place_does (meanings old) p
added old new p n is number =
    let size : n ≡ suc (length old) = omega (arith, number, ap length is, length-append old (p ∷ [])) in
    ap (λ all. at all n) is ∙ ap (λ k. at (old ++ p ∷ []) k) size ∙ laid_new place_does ended old p

pub grows_by : (old new : List Place) (p : Place) → new ≡ old ++ p ∷ [] → Grows old new
grows_by old new p is = record {
  longer = omega (arith, ap length is, length-append old (p ∷ []));
  kept = λ n within. ap (λ all. at all n) is ∙ laid_kept place_does ended old (p ∷ []) n within;
  steps = λ n within. ap (λ all. steps_at all n) is ∙ laid_kept place_steps no_steps old (p ∷ []) n within;
}

pub grows_on : (old mid new : List Place) → Grows old mid → Grows mid new → Grows old new
grows_on old mid new first second = record {
  longer = omega (arith, first.longer, second.longer);
  kept = λ n within. second.kept n (omega (arith, within, first.longer)) ∙ first.kept n within;
  steps = λ n within. second.steps n (omega (arith, within, first.longer)) ∙ first.steps n within;
}

pub grows_same : (places : List Place) → Grows places places
grows_same places = record { longer = omega arith; kept = λ n within. refl; steps = λ n within. refl }

-- what is entered stays
pub entered_kept : (old new : List Place) (entries : List ℕ) (names : Names) → AreLaid old entries → Grows old new → entered_by new entries names ≡ entered_by old entries names
entered_kept old new entries names laid grows = λ i name. grows.kept (get_or entries (place_of names name) 1) (laid (place_of names name)) i

pub still_laid : (old new : List Place) (entries : List ℕ) → AreLaid old entries → Grows old new → AreLaid new entries
still_laid old new entries laid grows = λ n. omega (arith, laid n, grows.longer)

-- ---- handlers

pub handler_added : (e : Named) (h : Handler) (old new : List Place) (rest n : ℕ) (back : Rest) → invoked h ≡ None → new ≡ old ++ place.Handler h rest ∷ [] → n ≡ length new →
    at new n back ≡ in_place e (invoked h) h (at old rest back)
unfolding place_does
handler_added e h old new rest n back none is number =
    ap (λ (f : Middleware). f back) (added old new (place.Handler h rest) n is number) ∙ sym (ap (λ i. in_place e i h (at old rest back)) none)

pub invoke_added : (names : Names) (name : List ℕ) (h : Handler) (entries : List ℕ) (m into : ℕ) (old new : List Place) (rest n : ℕ) (back : Rest) → invoked h ≡ Some name → m ≡ place_of names name → into ≡ get_or entries m 1 →
    new ≡ old ++ place.Invoke into rest ∷ [] → n ≡ length new → at new n back ≡ in_place (entered_by old entries names) (invoked h) h (at old rest back)
unfolding place_does
invoke_added names name h entries m into old new rest n back some place_is into_is is number =
    ap (λ (f : Middleware). f back) (added old new (place.Invoke into rest) n is number)
    ∙ ap (λ k. at old k (at old rest back)) (into_is ∙ ap (λ j. get_or entries j 1) place_is)
    ∙ sym (ap (λ i. in_place (entered_by old entries names) i h (at old rest back)) some)

-- ---- routes

pub rest_of : (places : List Place) (terminal : Bool) (rest : ℕ) (back : Rest) → at places (if terminal then 0 else rest) back ≡ (if terminal then nothing_left else at places rest back)
rest_of places true rest back = ap (λ (f : Middleware). f back) (laid_end place_does ended places)
rest_of places false rest back = refl

pub route_added : (e : Named) (r : Route) (old mid new : List Place) (rest inside n : ℕ) (entry : Option Entry) (back : Rest) →
    at mid inside back ≡ run_steps e (out-Route r).handle (at old (if (out-Route r).terminal then 0 else rest) back) → at mid rest ≡ at old rest →
    new ≡ mid ++ place.Route (out-Route r).matching (out-Route r).group inside rest entry ∷ [] → n ≡ length new → at new n back ≡ run_route e r (at old rest back)
unfolding place_does
route_added e r old mid new rest inside n entry back inside_is rest_is is number =
    ap (λ (f : Middleware). f back) (added mid new (place.Route (out-Route r).matching (out-Route r).group inside rest entry) n is number)
    ∙ ap (λ (f : Rest). route_does (out-Route r).matching (out-Route r).group f (at mid rest back)) (inside_is ∙ ap (run_steps e (out-Route r).handle) (rest_of old (out-Route r).terminal rest back))
    ∙ ap (λ (f : Middleware). route_does (out-Route r).matching (out-Route r).group (run_steps e (out-Route r).handle (if (out-Route r).terminal then nothing_left else at old rest back)) (f back)) rest_is
    ∙ alike _ _ (λ x. sym (run_route_is e r (at old rest back) x))

-- it takes more steps than what follows it
pub route_falls : (old mid new : List Place) (rest inside n : ℕ) (matching : Sets) (group : Option (List ℕ)) (entry : Option Entry) (back : ℕ) → steps_at mid rest ≡ steps_at old rest →
    new ≡ mid ++ place.Route matching group inside rest entry ∷ [] → n ≡ length new → steps_at old rest back ≤ steps_at new n back
unfolding place_steps
route_falls old mid new rest inside n matching group entry back rest_is is number =
    let size : n ≡ suc (length mid) = omega (arith, number, ap length is, length-append mid (place.Route matching group inside rest entry ∷ [])) in
    let e : steps_at new n back ≡ place_steps (counts mid) (place.Route matching group inside rest entry) back =
    ap (λ all. steps_at all n back) is ∙ ap (λ k. steps_at (mid ++ place.Route matching group inside rest entry ∷ []) k back) size
    ∙ ap (λ (f : ℕ → ℕ). f back) (laid_new place_steps no_steps mid (place.Route matching group inside rest entry)) in
    omega (arith, e, ap (λ (f : ℕ → ℕ). f back) rest_is)

-- ---- subroutes

caught_is : (errors : List Middleware) (rest : Rest) (outcome : Outcome) → caught (Some errors) rest outcome ≡ or_failed (in_order errors rest) outcome
unfolding caught
caught_is errors rest (Answered a) = refl
caught_is errors rest (Failed x status message) = refl

caught_none : (rest : Rest) (outcome : Outcome) → caught None rest outcome ≡ outcome
unfolding caught
caught_none rest outcome = refl

pub plain_added : (e : Named) (s : Subroute) (old new : List Place) (rest n : ℕ) (back : Rest) → (out-Subroute s).errors ≡ None →
    at new n back ≡ run_routes e (out-Subroute s).routes (at old rest back) → at new n back ≡ run_step e (step.Subroute s) (at old rest back)
plain_added e s old new rest n back none is =
    is ∙ alike _ _ (λ x. sym (run_subroute_is e s (at old rest back) x
    ∙ ap (λ errors. caught (option_map (map (run_route e)) errors) (at old rest back) (run_routes e (out-Subroute s).routes (at old rest back) x)) none
    ∙ caught_none (at old rest back) (run_routes e (out-Subroute s).routes (at old rest back) x)))

abbrev failed_after : Rest → Rest → Rest
failed_after errors first x = or_failed errors (first x)

pub try_added : (e : Named) (s : Subroute) (errors : List Route) (old mid late new : List Place) (rest first second n : ℕ) (back : Rest) → (out-Subroute s).errors ≡ Some errors →
    at mid first back ≡ run_routes e (out-Subroute s).routes (at old rest back) → at mid rest ≡ at old rest →
    at late second back ≡ run_routes e errors (at mid rest back) → at late first ≡ at mid first →
    new ≡ late ++ place.Try first second ∷ [] → n ≡ length new → at new n back ≡ run_step e (step.Subroute s) (at old rest back)
unfolding place_does
try_added e s errors old mid late new rest first second n back some first_is rest_is second_is kept is number =
    ap (λ (f : Middleware). f back) (added late new (place.Try first second) n is number)
    ∙ ap (failed_after (at late second back)) (ap (λ (f : Middleware). f back) kept ∙ first_is)
    ∙ ap (λ (g : Rest). failed_after g (run_routes e (out-Subroute s).routes (at old rest back))) (second_is ∙ ap (λ (f : Middleware). run_routes e errors (f back)) rest_is)
    ∙ alike _ _ (λ x. sym (run_subroute_is e s (at old rest back) x
    ∙ ap (λ given. caught (option_map (map (run_route e)) given) (at old rest back) (run_routes e (out-Subroute s).routes (at old rest back) x)) some
    ∙ caught_is (map (run_route e) errors) (at old rest back) (run_routes e (out-Subroute s).routes (at old rest back) x)))

-- ---- lists, of which the last is laid out first

in_order_push : {A : Type 0} (f : A → Middleware) (xs : List A) (y : A) (rest : Rest) → in_order (map f (xs ++ y ∷ [])) rest ≡ in_order (map f xs) (f y rest)
unfolding in_order
in_order_push f [] y rest = refl
in_order_push f (x ∷ xs) y rest = ap (f x) (in_order_push f xs y rest)

last_first : {A : Type 0} (f : A → Middleware) (left others : List A) (last : A) (rest : Rest) → left ≡ others ++ last ∷ [] → in_order (map f left) rest ≡ in_order (map f others) (f last rest)
last_first f left others last rest is = ap (λ xs. in_order (map f xs) rest) is ∙ in_order_push f others last rest

total_push : {A : Type 0} (f : A → ℕ) (xs : List A) (y : A) → total (map f (xs ++ y ∷ [])) ≡ f y + total (map f xs)
total_push f [] y = omega arith
total_push f (x ∷ xs) y = omega (arith, total_push f xs y)

lighter : {A : Type 0} (f : A → ℕ) (left others : List A) (last : A) → left ≡ others ++ last ∷ [] → total (map f left) ≡ f last + total (map f others)
lighter f left others last is = ap (λ xs. total (map f xs)) is ∙ total_push f others last

pub none_left : {A : Type 0} (f : A → Middleware) (left : List A) (rest : Rest) → left ≡ [] → rest ≡ in_order (map f left) rest
unfolding in_order
none_left f left rest is = sym (ap (λ xs. in_order (map f xs) rest) is)

pub errors_weigh : (errors : Option (List Route)) (given : List Route) → errors ≡ Some given → total (map route_size given) ≤ errors_weight (option_map (map route_size) errors)
errors_weigh errors given is = rw is (omega arith)

some_total : (ns : List ℕ) → 1 ≤ total ns
some_total [] = omega arith
some_total (n ∷ ns) = omega (arith, some_total ns)

-- the elements of a list are laid out but for those that are left: before them is done what all do
pub record LaidBut {A : Type 0} (does : A → Middleware) (size : A → ℕ) (old new : List Place) (indexes : List Index) (all left : List A) (rest begin : ℕ) : Type 0 where
  pub meaning : (back : Rest) → in_order (map does left) (at new begin back) ≡ in_order (map does all) (at old rest back)
  pub within : begin ≤ length new
  pub grows : Grows old new
  pub sound : AreSound new indexes
  pub less : total (map size left) ≤ total (map size all)

pub none_yet : {A : Type 0} (does : A → Middleware) (size : A → ℕ) (places : List Place) (indexes : List Index) (all : List A) (rest : ℕ) → rest ≤ length places → AreSound places indexes → LaidBut does size places places indexes all all rest rest
none_yet does size places indexes all rest within sound = record { meaning = λ back. refl; within = within; grows = grows_same places; sound = sound; less = omega arith }

pub may_next : {A : Type 0} (does : A → Middleware) (size : A → ℕ) (old new : List Place) (before after : List Index) (entries : List ℕ) (all left : List A) (rest begin : ℕ) → MayLay old before entries rest → LaidBut does size old new after all left rest begin → MayLay new after entries begin
may_next does size old new before after entries all left rest begin may laid = record { rest = laid.within; entries = still_laid old new entries may.entries laid.grows; sound = laid.sound }

pub next_small : {A : Type 0} (does : A → Middleware) (size : A → ℕ) (old new : List Place) (indexes : List Index) (all left others : List A) (last : A) (rest begin : ℕ) → LaidBut does size old new indexes all left rest begin → left ≡ others ++ last ∷ [] → 1 + size last ≤ total (map size all)
next_small does size old new indexes all left others last rest begin laid is = omega (arith, lighter size left others last is, some_total (map size others), laid.less)

pub next_laid : {A : Type 0} (does : Named → A → Middleware) (size : A → ℕ) (old mid new : List Place) (before between after : List Index) (entries : List ℕ) (names : Names) (all left others : List A) (last : A) (rest begin n : ℕ) →
    MayLay old before entries rest → LaidBut (does (entered_by old entries names)) size old mid between all left rest begin → left ≡ others ++ last ∷ [] →
    Laid (does (entered_by mid entries names) last) mid new after begin n → LaidBut (does (entered_by old entries names)) size old new after all others rest n
next_laid does size old mid new before between after entries names all left others last rest begin n may laid is made =
    let e : Named = entered_by old entries names in
    let same : entered_by mid entries names ≡ e = entered_kept old mid entries names may.entries laid.grows in
    record {
      meaning = λ back. ap (in_order (map (does e) others)) (made.meaning back ∙ ap (λ (g : Named). does g last (at mid begin back)) same)
          ∙ sym (last_first (does e) left others last (at mid begin back) is)
          ∙ laid.meaning back;
      within = made.within;
      grows = grows_on old mid new laid.grows made.grows;
      sound = made.sound;
      less = omega (arith, lighter size left others last is, laid.less);
    }

pub all_laid : {A : Type 0} (does : A → Middleware) (size : A → ℕ) (old new : List Place) (before after : List Index) (all left : List A) (rest begin : ℕ) → LaidBut does size old new before all left rest begin → left ≡ [] → AreSound new after →
    Laid (in_order (map does all)) old new after rest begin
all_laid does size old new before after all left rest begin laid none sound = record {
  meaning = λ back. none_left does left (at new begin back) none ∙ laid.meaning back;
  within = laid.within;
  grows = laid.grows;
  sound = sound;
}
