-- Named routes laid out one after another, each after those that it invokes.
use Rattle.std.proofs.Common.{◌≡◌, true, ℕ, zero, suc, ◌+◌, ◌<◌, ◌≤◌, ◌⊎◌, inl, inr, List, [], ◌∷◌, ◌++◌, length, get_or, map, take, drop, Option, Some, None, sym, ap, subst, ◌∙◌, refl, arith, append_assoc, append-nil, get_or-set_same, get_or-set_other, length-set}
use Rattle.std.specs.Prelude.{slice_set}
use Rattle.std.specs.List.{slice_get}
use Rattle.std.proofs.lemmas.Grind.{common_steps}
use Rattle.std.proofs.lemmas.List.{drop_all, length-map}
use Rattle.cd_leads.specs.Leads.{names}
use Rattle.cd_leads.specs.Orders.{IsOf, Settled, AllSettled, IsOrder}
use Rattle.cd_leads.proofs.Numbers.{got_none, got_small}
use Rattle.cd_leads.proofs.Walks.{of_front, of_last, of_either, same_or_not}
use Rattle.cd_routes.specs.declared.named.NamedRoute.{NamedRoute}
use Rattle.cd_routes.specs.declared.route.Route.{Route}
use Rattle.cd_routes.specs.Running.{Rest, Middleware, run_route}
use Rattle.cd_routes.specs.Invoking.{Names, HasNoCycle, leads_of, route_names}
use Rattle.cd_routes.specs.Named.{named_does, named_routes, passes}
use Rattle.cd_routes.proofs.NamedMeaning.{agree_by_places, place_is, run_depends, size}
use Rattle.cd_chain.specs.declared.index.Index.{Index}
use Rattle.cd_chain.specs.declared.place.Place.{Place}
use Rattle.cd_chain.specs.declared.place.Place.TheVariants as place
use Rattle.cd_chain.specs.Places.{at, ended, place_does}
use Rattle.cd_chain.specs.Laying.{entered, entered_by, named_at, route_left, AreLaid, Laid, Lays, LaidAs, LaysOne}
use Rattle.cd_chain.proofs.Laid.{laid_new}
use Rattle.cd_chain.proofs.Standing.{all_named}

-- ---- numbers

one_beyond : (entries : List ℕ) (n : ℕ) → length entries ≤ n → get_or entries n 1 ≡ 1
one_beyond entries n beyond = grind (arith, common_steps)

small_or_beyond : (n m : ℕ) → (n < m) ⊎ (m ≤ n)
small_or_beyond n m = grind arith

settled_at : (lists : List (List ℕ)) (before order : List ℕ) (i : ℕ) → AllSettled lists before order → i < length order → Settled lists (before ++ take i order) (get_or order i 0)
settled_at lists before [] i all within = absurd (omega arith)
settled_at lists before (n ∷ order) zero all within = simp append-nil all.0
settled_at lists before (n ∷ order) (suc i) all within = simp append_assoc at (settled_at lists (before ++ n ∷ []) order i all.1 (omega (arith, within)))

taken_more : (order : List ℕ) (i : ℕ) → i < length order → take (i + 1) order ≡ take i order ++ get_or order i 0 ∷ []
taken_more order i within = grind (arith, common_steps)

-- a number that is none does nothing
beyond_stands : (named : List NamedRoute) (places : List Place) (entries : List ℕ) (n : ℕ) → HasNoCycle named → at places 1 ≡ passes → length entries ≡ length named → length named ≤ n → entered places entries n ≡ named_at named n
beyond_stands named places entries n none returns same beyond =
    ap (at places) (one_beyond entries n (omega (arith, same, beyond))) ∙ returns
    ∙ sym (place_is named n none ∙ ap (λ found. named_does found (named_routes named)) (got_none named n beyond))

-- a slot that is emptied
emptied : (slots : List (Option Route)) (v n : ℕ) → get_or slots v None ≡ None → get_or (slice_set slots v None) n None ≡ get_or slots n None
emptied [] v n is = refl
emptied (s ∷ slots) zero zero is = sym is
emptied (s ∷ slots) zero (suc n) is = refl
emptied (s ∷ slots) (suc v) zero is = refl
emptied (s ∷ slots) (suc v) (suc n) is = emptied slots v n is

emptied_here : (slots : List (Option Route)) (v : ℕ) → get_or (slice_set slots v None) v None ≡ None
emptied_here [] v = refl
emptied_here (s ∷ slots) zero = refl
emptied_here (s ∷ slots) (suc v) = emptied_here slots v

-- ---- what needs no order

pub one_keeps : (names : Names) (old new : List Place) (entries after : List ℕ) (n : ℕ) (slot : Option Route) → 1 ≤ length old → AreLaid old entries → LaidAs names old new entries after n slot → (1 ≤ length new) × AreLaid new after
one_keeps names old new entries after n None some laid is = (rw is.0 some, rw (is.0, is.1) laid)
one_keeps names old new entries after n (Some route) some laid is = (
  omega (arith, some, is.3.longer),
  λ m. elim (same_or_not m n) [
    | inl same ↦ elim (small_or_beyond n (length entries)) [
      | inl small ↦ omega (arith, is.2, ap (λ l. get_or l m 1) is.1, ap (λ k. get_or (slice_set entries n is.0) k 1) same, get_or-set_same entries n is.0 1 small)
      | inr beyond ↦ omega (arith, some, is.3.longer, ap (λ l. get_or l m 1) is.1, ap (λ k. get_or (slice_set entries n is.0) k 1) same, one_beyond (slice_set entries n is.0) n (omega (arith, beyond, length-set entries n is.0)))
    ]
    | inr other ↦ omega (arith, laid m, is.3.longer, ap (λ l. get_or l m 1) is.1, get_or-set_other entries n m is.0 1 other)
  ],
)

-- ---- one step

none_beyond : (named : List NamedRoute) (v : ℕ) → route_left (slice_get named v) ≡ None → length named ≤ v
none_beyond [] v e = omega arith
none_beyond (r ∷ named) zero e = cc
none_beyond (r ∷ named) (suc v) e = omega (arith, none_beyond named v e)

step_none : (named : List NamedRoute) (places : List Place) (entries laid : List ℕ) (slots : List (Option Route)) (v : ℕ) → HasNoCycle named → Lays named places entries slots laid → get_or slots v None ≡ None →
    Lays named places entries (slice_set slots v None) (laid ++ v ∷ [])
step_none named places entries laid slots v none lays is = record {
  returns = lays.returns;
  some = lays.some;
  size = lays.size;
  places_laid = lays.places_laid;
  stand = λ n there. elim (of_either laid v n there) [
    | inl front ↦ lays.stand n front
    | inr last ↦ subst (λ k. entered places entries k ≡ named_at named k) last (stands_here (lays.left v))
  ];
  left = λ n. elim (lays.left n) [
    | inl done_before ↦ inl (of_front laid (v ∷ []) n done_before.0, emptied slots v n is ∙ done_before.1)
    | inr still ↦ inr (emptied slots v n is ∙ still)
  ];
}
  where
    stands_here : (IsOf laid v × (get_or slots v None ≡ None)) ⊎ (get_or slots v None ≡ route_left (slice_get named v)) → entered places entries v ≡ named_at named v
    stands_here (inl before) = lays.stand v before.0
    stands_here (inr still) = beyond_stands named places entries v none lays.returns lays.size (none_beyond named v (sym still ∙ is))

-- the named route whose route this is
abbrev Holds : List NamedRoute → ℕ → Route → Type 0
Holds named v r = (one : NamedRoute) × (slice_get named v ≡ Some one) × (one.route ≡ r)

holds_of : (named : List NamedRoute) (v : ℕ) (found : Option NamedRoute) (r : Route) → slice_get named v ≡ found → route_left found ≡ Some r → Holds named v r
holds_of named v None r is e = cc
holds_of named v (Some one) r is e = (one, is, same_route one.route r e)
  where
    same_route : (a b : Route) → Some a ≡ Some b → a ≡ b
    same_route a b e = cc

found_there : (named : List NamedRoute) (slots : List (Option Route)) (laid : List ℕ) (v : ℕ) (r : Route) → get_or slots v None ≡ Some r →
    (IsOf laid v × (get_or slots v None ≡ None)) ⊎ (get_or slots v None ≡ route_left (slice_get named v)) → Holds named v r
found_there named slots laid v r is (inl before) = let e = before.1 in cc
found_there named slots laid v r is (inr still) = holds_of named v (slice_get named v) r refl (sym still ∙ is)

alike : (f g : Middleware) → ((back : Rest) → f back ≡ g back) → f ≡ g
alike f g same = λ i back. same back i

-- a named route that was laid out before a `Return`, after those that it invokes, does there what it does
route_stands : (named : List NamedRoute) (old new : List Place) (entries : List ℕ) (v begin : ℕ) (r : Route) → HasNoCycle named → Holds named v r → at old 1 ≡ passes →
    ((m : ℕ) → names (leads_of named) v m ≡ true → entered old entries m ≡ named_at named m) →
    ((back : Rest) → at new begin back ≡ run_route (entered_by old entries (route_names named)) r (at old 1 back)) → at new begin ≡ named_at named v
unfolding named_routes
route_stands named old new entries v begin r none here returns stand laid =
    alike (at new begin) (run_route (entered_by old entries (route_names named)) r) (λ back. laid back ∙ ap (λ (f : Middleware). run_route (entered_by old entries (route_names named)) r (f back)) returns)
    ∙ ap (λ q. run_route (entered_by old entries (route_names named)) q) (sym here.2)
    ∙ run_depends here.0.route (entered_by old entries (route_names named)) (named_routes named) (agree_by_places named (entered old entries) (named_at named) v here.0 here.1 stand)
    ∙ sym (place_is named v none ∙ ap (λ found. named_does found (named_routes named)) here.1)

step_some : (named : List NamedRoute) (old new : List Place) (entries after laid : List ℕ) (slots : List (Option Route)) (v : ℕ) (r : Route) → HasNoCycle named → Settled (leads_of named) laid v →
    Lays named old entries slots laid → get_or slots v None ≡ Some r → LaidAs (route_names named) old new entries after v (Some r) → Lays named new after (slice_set slots v None) (laid ++ v ∷ [])
step_some named old new entries after laid slots v r none settled lays is made =
    let here : Holds named v r = found_there named slots laid v r is (lays.left v) in
    let small : v < length entries = omega (arith, lays.size, got_small named v here.0 here.1) in
    let kept = one_keeps (route_names named) old new entries after v (Some r) lays.some lays.places_laid made in
    let stand : (m : ℕ) → names (leads_of named) v m ≡ true → entered old entries m ≡ named_at named m = λ m there. elim (small_or_beyond m (length named)) [
      | inl less ↦ lays.stand m (settled m there (omega (arith, less, size named)))
      | inr beyond ↦ beyond_stands named old entries m none lays.returns lays.size beyond
    ] in
    let stands : at new made.0 ≡ named_at named v = route_stands named old new entries v made.0 r none here lays.returns stand made.4 in
    record {
      returns = made.3.kept 1 lays.some ∙ lays.returns;
      some = kept.0;
      size = rw made.1 (length-set entries v made.0 ∙ lays.size);
      places_laid = kept.1;
      stand = λ n there. elim (same_or_not n v) [
        | inl same ↦ ap (λ l. at new (get_or l n 1)) made.1 ∙ ap (λ k. at new (get_or (slice_set entries v made.0) k 1)) same ∙ ap (at new) (get_or-set_same entries v made.0 1 small) ∙ stands ∙ ap (named_at named) (sym same)
        | inr other ↦ elim (of_either laid v n there) [
          | inl front ↦ ap (λ l. at new (get_or l n 1)) made.1 ∙ ap (at new) (get_or-set_other entries v n made.0 1 other) ∙ made.3.kept (get_or entries n 1) (lays.places_laid n) ∙ lays.stand n front
          | inr last ↦ absurd (other (sym last))
        ]
      ];
      left = λ n. elim (same_or_not n v) [
        | inl same ↦ inl (subst (IsOf (laid ++ v ∷ [])) (sym same) (of_last laid v), subst (λ k. get_or (slice_set slots v None) k None ≡ None) (sym same) (emptied_here slots v))
        | inr other ↦ elim (lays.left n) [
          | inl before ↦ inl (of_front laid (v ∷ []) n before.0, get_or-set_other slots v n None None other ∙ before.1)
          | inr still ↦ inr (get_or-set_other slots v n None None other ∙ still)
        ]
      ];
    }

by_slot : (named : List NamedRoute) (old new : List Place) (entries after laid : List ℕ) (slots : List (Option Route)) (v : ℕ) (slot : Option Route) → HasNoCycle named → Settled (leads_of named) laid v →
    Lays named old entries slots laid → get_or slots v None ≡ slot → LaidAs (route_names named) old new entries after v slot → Lays named new after (slice_set slots v None) (laid ++ v ∷ [])
by_slot named old new entries after laid slots v None none settled lays is made =
    subst (λ ps. Lays named ps after (slice_set slots v None) (laid ++ v ∷ [])) (sym made.0)
    (subst (λ es. Lays named old es (slice_set slots v None) (laid ++ v ∷ [])) (sym made.1) (step_none named old entries laid slots v none lays is))
by_slot named old new entries after laid slots v (Some r) none settled lays is made = step_some named old new entries after laid slots v r none settled lays is made

pub step_lays : (named : List NamedRoute) (ns : Names) (old new : List Place) (entries after order : List ℕ) (slots left : List (Option Route)) (i : ℕ) → HasNoCycle named → ns ≡ route_names named → IsOrder (leads_of named) order → i < length order →
    Lays named old entries slots (take i order) → LaysOne ns old new slots left entries after (get_or order i 0) → Lays named new after left (take (i + 1) order)
step_lays named ns old new entries after order slots left i none same is within lays made =
    subst (Lays named new after left) (sym (taken_more order i within))
    (subst (λ l. Lays named new after l (take i order ++ get_or order i 0 ∷ [])) (sym made.0)
    (by_slot named old new entries after (take i order) slots (get_or order i 0) (get_or slots (get_or order i 0) None) none (settled_at (leads_of named) [] order i is.settled within) lays refl
    (subst (λ m. LaidAs m old new entries after (get_or order i 0) (get_or slots (get_or order i 0) None)) same made.1)))

pub all_lie : (named : List NamedRoute) (places : List Place) (entries order : List ℕ) (slots : List (Option Route)) (i : ℕ) → HasNoCycle named → IsOrder (leads_of named) order → length order ≤ i →
    Lays named places entries slots (take i order) → (n : ℕ) → entered places entries n ≡ named_at named n
all_lie named places entries order slots i none is end lays n = elim (small_or_beyond n (length named)) [
  | inl small ↦ lays.stand n (subst (λ ns. IsOf ns n) (sym (taken_all order i end)) (is.complete n (omega (arith, small, size named))))
  | inr beyond ↦ beyond_stands named places entries n none lays.returns lays.size beyond
]
  where
    taken_all : (order : List ℕ) (i : ℕ) → length order ≤ i → take i order ≡ order
    taken_all order i end = grind (arith, common_steps)

-- ---- the step of the code

pub lays_nothing : (names : Names) (places : List Place) (slots left : List (Option Route)) (entries : List ℕ) (n : ℕ) → get_or slots n None ≡ None → left ≡ slice_set slots n None → LaysOne names places places slots left entries entries n
lays_nothing names places slots left entries n none is = (is, subst (LaidAs names places places entries entries n) (sym none) (refl, refl))

pub lays_route : (names : Names) (old new : List Place) (indexes : List Index) (slots left : List (Option Route)) (entries after : List ℕ) (n begin : ℕ) (r : Route) → get_or slots n None ≡ Some r → left ≡ slice_set slots n None → after ≡ slice_set entries n begin →
    Laid (run_route (entered_by old entries names) r) old new indexes 1 begin → LaysOne names old new slots left entries after n
lays_route names old new indexes slots left entries after n begin r some is put laid = (is, subst (LaidAs names old new entries after n) (sym some) (begin, put, laid.within, laid.grows, laid.meaning))

-- ---- before the first

-- a `Return` alone passes on
return_passes : (places : List Place) → places ≡ place.Return ∷ [] → at places 1 ≡ passes
unfolding place_does
return_passes places is = ap (λ ps. at ps 1) is ∙ laid_new place_does ended [] place.Return

left_at : (named : List NamedRoute) (n : ℕ) → get_or (map (λ (r : NamedRoute). Some r.route) named) n None ≡ route_left (slice_get named n)
left_at [] n = refl
left_at (r ∷ named) zero = refl
left_at (r ∷ named) (suc n) = left_at named n

pub none_laid : (named : List NamedRoute) (places : List Place) (entries : List ℕ) (slots : List (Option Route)) → places ≡ place.Return ∷ [] → length entries ≡ length named → ((n : ℕ) → get_or entries n 1 ≡ 1) →
    slots ≡ map (λ (r : NamedRoute). Some r.route) named → Lays named places entries slots []
none_laid named places entries slots is same ones all = record {
  returns = return_passes places is;
  some = omega (arith, ap length is);
  size = same;
  places_laid = λ n. omega (arith, ones n, ap length is);
  stand = λ n there. absurd there;
  left = λ n. inr (ap (λ ss. get_or ss n None) all ∙ left_at named n);
}

-- ---- after the last

-- with all of them laid out
pub all_entered : (named : List NamedRoute) (ns : Names) (first places : List Place) (entries after : List ℕ) (slots : List (Option Route)) (order : List ℕ) → HasNoCycle named → ns ≡ route_names named → slots ≡ map (λ (r : NamedRoute). Some r.route) named →
    first ≡ place.Return ∷ [] → length entries ≡ length ns → ((n : ℕ) → get_or entries n 1 ≡ 1) → IsOrder (leads_of named) order →
    (HasNoCycle named → ns ≡ route_names named → IsOrder (leads_of named) order → Lays named first entries slots [] → (n : ℕ) → entered places after n ≡ named_at named n) → entered_by places after ns ≡ named_routes named
all_entered named ns first places entries after slots order none same all is count ones ordered stand =
    all_named named places after ns same (stand none same ordered (none_laid named first entries slots is (count ∙ ap length same ∙ length-map named (λ (r : NamedRoute). r.name)) ones all))

-- a slice of a whole vector that is written back
pub written_back : (new items : List ℕ) (len : ℕ) → length new ≡ length items → length items ≤ len → take len (new ++ drop (length new) items) ≡ new
written_back new items len same fits =
    ap (λ rest. take len (new ++ rest)) (drop_all (length new) items (omega (arith, same))) ∙ ap (take len) (append-nil new) ∙ whole new len (omega (arith, same, fits))
  where
    whole : (xs : List ℕ) (n : ℕ) → length xs ≤ n → take n xs ≡ xs
    whole xs n fits = grind (arith, common_steps)
