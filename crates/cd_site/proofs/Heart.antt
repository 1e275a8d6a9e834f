-- The routes of a sequence lead where the sequence leads, with other groups taken.
use Rattle.std.proofs.Common.{◌≡◌, ◌≢◌, ℕ, ◌+◌, ◌<◌, ◌≤◌, Bool, true, false, ◌&&◌, ◌||◌, not, if◌then◌else◌, List, [], ◌∷◌, ◌++◌, map, Option, Some, None, refl, sym, ap, ◌∙◌, subst, rules, arith, option_map}
use Rattle.std.specs.List.{list_any}
use Rattle.std.specs.Str.{bytes_eq}
use Rattle.std.proofs.lemmas.Slice.Eq.{bytes_eq-Decides}
use Rattle.cd_fill.specs.declared.scene.Scene.{Scene}
use Rattle.cd_match.specs.Holds.{holds}
use Rattle.cd_match.specs.declared.sets.Sets.{Sets}
use Rattle.cd_handlers.specs.Effect as handlers
use Rattle.cd_handlers.specs.Effect.{deferred}
use Rattle.cd_handlers.specs.Invoke.{invoked}
use Rattle.cd_handlers.specs.declared.changes.FilledChanges.{FilledChanges}
use Rattle.cd_handlers.specs.declared.handler.Handler.{Handler}
use Rattle.cd_handlers.specs.declared.outcome.Effect.{Effect}
use Rattle.cd_handlers.specs.declared.outcome.Effect.TheVariants as effect
use Rattle.cd_routes.specs.Serving.{settled as answer_of}
use Rattle.cd_routes.specs.Running.{Rest, Named, in_place, nothing_left, in_order, after, handled, caught, with_changes, is_taken, with_group, run_route, run_routes, run_step, run_steps}
use Rattle.cd_routes.specs.declared.outcome.Outcome.{Outcome}
use Rattle.cd_routes.specs.declared.outcome.Outcome.TheVariants.{Answered, Failed}
use Rattle.cd_routes.specs.declared.route.Route.{Route, out-roll-Route}
use Rattle.cd_routes.specs.declared.route.Step.{Step}
use Rattle.cd_routes.specs.declared.route.Step.TheVariants as step
use Rattle.cd_routes.specs.declared.route.Subroute.{roll-Subroute, out-roll-Subroute}
use Rattle.cd_routes.proofs.Equations.{run_route_is, run_handler_is, run_subroute_is, routes_more}
use Rattle.cd_site.specs.Sequences.{Sequence, done, act, once, inside, Course, on, ends, breaks, all_changed, push, went, then_on, does, settled, has_once, has_inside, one_if, groups_inside, groups_of, route, subroute, routes_from, routes_of, AreDistinct}
use Rattle.cd_site.proofs.Blind.{regrouped, effect_regrouped, IsBlindSets, IsBlindHandler, AreBlind}

-- ---- truth values

or_false : (b : Bool) → (b || false) ≡ b
or_false true = refl
or_false false = refl

and_true : (b : Bool) → (b && true) ≡ b
and_true true = refl
and_true false = refl

or_true : (b : Bool) → (b || true) ≡ true
or_true true = refl
or_true false = refl

or_assoc : (a b c : Bool) → ((a || b) || c) ≡ (a || (b || c))
or_assoc true b c = refl
or_assoc false b c = refl

-- ---- what a route with one step does

route_is : (named : Named) (g : Option (List ℕ)) (m : Sets) (s : Step) (rs : List Route) (rest : Rest) (x : Scene) →
    run_routes named (route g m s ∷ rs) rest x
    ≡ (if holds m x && not (is_taken g x) then run_step named s (run_routes named rs rest) (with_group g x) else run_routes named rs rest x)
unfolding in_order
route_is named g m s rs rest x = routes_more named (route g m s) rs rest x ∙ (run_route_is named (route g m s) (run_routes named rs rest) x
    ∙ ap (λ r. if holds r.matching x && not (is_taken r.group x)
    then run_steps named r.handle (if r.terminal then nothing_left else run_routes named rs rest) (with_group r.group x) else run_routes named rs rest x)
    (out-roll-Route (record { group = g; matching = m; handle = s ∷ []; terminal = false })))

pub handler_route : (named : Named) (g : Option (List ℕ)) (m : Sets) (h : Handler) → invoked h ≡ None → (rs : List Route) (rest : Rest) (x : Scene) →
    run_routes named (route g m (step.Handler h) ∷ rs) rest x
    ≡ (if holds m x && not (is_taken g x) then handled h (run_routes named rs rest) (with_group g x) else run_routes named rs rest x)
handler_route named g m h itself rs rest x = route_is named g m (step.Handler h) rs rest x
    ∙ ap (λ o. if holds m x && not (is_taken g x) then o else run_routes named rs rest x)
    (run_handler_is named h (run_routes named rs rest) (with_group g x) ∙ ap (λ i. in_place named i h (run_routes named rs rest) (with_group g x)) itself)

pub subroute_route : (named : Named) (g : Option (List ℕ)) (m : Sets) (is rs : List Route) (rest : Rest) (x : Scene) →
    run_routes named (route g m (subroute is) ∷ rs) rest x
    ≡ (if holds m x && not (is_taken g x) then run_routes named is (run_routes named rs rest) (with_group g x) else run_routes named rs rest x)
unfolding caught
subroute_route named g m is rs rest x = route_is named g m (subroute is) rs rest x
    ∙ ap (λ o. if holds m x && not (is_taken g x) then o else run_routes named rs rest x)
    (run_subroute_is named (roll-Subroute (record { routes = is; errors = None })) (run_routes named rs rest) (with_group g x)
    ∙ ap (λ r. caught (option_map (map (run_route named)) r.errors) (run_routes named rs rest) (run_routes named r.routes (run_routes named rs rest) (with_group g x)))
    (out-roll-Subroute (record { routes = is; errors = None })))

-- ---- changes met before

abbrev pub cut : List FilledChanges → Outcome → Outcome
cut cs (Answered a) = Answered (all_changed cs a)
cut cs (Failed x status message) = Failed x status message

cut_changes : (left : Option FilledChanges) (cs : List FilledChanges) (o : Outcome) → cut cs (with_changes left o) ≡ cut (push left cs) o
unfolding with_changes all_changed
cut_changes None cs (Answered a) = refl
cut_changes None cs (Failed x status message) = refl
cut_changes (Some c) cs (Answered a) = refl
cut_changes (Some c) cs (Failed x status message) = refl

cut_none : (o : Outcome) → cut [] o ≡ o
unfolding all_changed
cut_none (Answered a) = refl
cut_none (Failed x status message) = refl

-- ---- names that differ

bytes_differ : (xs ys : List ℕ) → (xs ≡ ys → ⊥) → bytes_eq xs ys ≡ false
bytes_differ xs ys differ = search (rules, bytes_eq-Decides xs ys, differ)

bytes_same : (xs : List ℕ) → bytes_eq xs xs ≡ true
bytes_same xs = search (rules, bytes_eq-Decides xs xs)

module _ (named : Named) (name : ℕ → List ℕ) (limit : ℕ) (names : AreDistinct name limit) where
  -- ---- groups

  abbrev pub taken : ℕ → List (List ℕ) → Bool
  taken k gs = list_any (bytes_eq (name k)) gs

  taken_push : (k g : ℕ) (gs : List (List ℕ)) → taken k (gs ++ name g ∷ []) ≡ (taken k gs || bytes_eq (name k) (name g))
  taken_push k g [] = or_false (bytes_eq (name k) (name g))
  taken_push k g (h ∷ gs) = ap (λ b. bytes_eq (name k) h || b) (taken_push k g gs) ∙ sym (or_assoc (bytes_eq (name k) h) (taken k gs) (bytes_eq (name k) (name g)))

  other_group : (k g : ℕ) (gs : List (List ℕ)) → k < limit → g < limit → k ≢ g → taken k (gs ++ name g ∷ []) ≡ taken k gs
  other_group k g gs low below other = taken_push k g gs
      ∙ ap (λ b. taken k gs || b) (bytes_differ (name k) (name g) (λ same. other (names.distinct k g low below same))) ∙ or_false (taken k gs)

  same_group : (g : ℕ) (gs : List (List ℕ)) → taken g (gs ++ name g ∷ []) ≡ true
  same_group g gs = taken_push g g gs ∙ ap (λ b. taken g gs || b) (bytes_same (name g)) ∙ or_true (taken g gs)

  -- a flag says whether the group is taken; the groups of the sequence are below those that are free, and all below the limit
  pub record Fits (b : Sequence) (rw1 hd1 n : ℕ) (r h : Bool) (gs : List (List ℕ)) : Type 0 where
    pub rewrites : has_once b ≡ true → taken rw1 gs ≡ r
    pub handles : has_inside b ≡ true → taken hd1 gs ≡ h
    pub apart : has_once b ≡ true → rw1 ≢ hd1
    pub low_rewriting : has_once b ≡ true → rw1 < n
    pub low_handling : has_inside b ≡ true → hd1 < n
    pub free : (k : ℕ) → n ≤ k → k < limit → taken k gs ≡ false
    pub room : n + groups_inside b ≤ limit

  -- a group that is none of the sequence's
  pub record IsOut (b : Sequence) (rw1 hd1 n k : ℕ) : Type 0 where
    pub no_rewrite : has_once b ≡ true → k ≢ rw1
    pub no_handle : has_inside b ≡ true → k ≢ hd1
    pub outside : n ≤ k → n + groups_inside b ≤ k

  abbrev pub Kept : Sequence → ℕ → ℕ → ℕ → List (List ℕ) → List (List ℕ) → Type 0
  Kept b rw1 hd1 n gs new = (k : ℕ) → k < limit → IsOut b rw1 hd1 n k → taken k new ≡ taken k gs

  -- an outcome is that of a course, whose scene may have more groups
  abbrev pub Leads : Sequence → Rest → List (List ℕ) → ℕ → ℕ → ℕ → Outcome → Course → Type 0
  Leads b rest gs rw1 hd1 n o (on y cs) = (new : List (List ℕ)) × Kept b rw1 hd1 n gs new × (o ≡ cut cs (rest (regrouped new y)))
  Leads b rest gs rw1 hd1 n o (ends a) = o ≡ Answered a
  Leads b rest gs rw1 hd1 n o (breaks y status message) = (new : List (List ℕ)) × (o ≡ Failed (regrouped new y) status message)

  moved : (b c : Sequence) (rest : Rest) (gs old : List (List ℕ)) (rw1 hd1 n1 rw2 hd2 n2 : ℕ) (o : Outcome) (course : Course) →
      ((new : List (List ℕ)) → Kept b rw1 hd1 n1 gs new → Kept c rw2 hd2 n2 old new) →
      Leads b rest gs rw1 hd1 n1 o course → Leads c rest old rw2 hd2 n2 o course
  moved b c rest gs old rw1 hd1 n1 rw2 hd2 n2 o (on y cs) keeps l = (l.0, keeps l.0 l.1, l.2)
  moved b c rest gs old rw1 hd1 n1 rw2 hd2 n2 o (ends a) keeps l = l
  moved b c rest gs old rw1 hd1 n1 rw2 hd2 n2 o (breaks y status message) keeps l = l

  -- a handler: its effect, and the changes that it leaves
  acted : (b : Sequence) (rest k : Rest) (gs old : List (List ℕ)) (rw1 hd1 n : ℕ) (left : Option FilledChanges) (cs : List FilledChanges)
      (next : Scene → List FilledChanges → Course) (e : Effect) →
      ((y : Scene) → Leads b rest old rw1 hd1 n (cut (push left cs) (k (regrouped gs y))) (next y (push left cs))) →
      Leads b rest old rw1 hd1 n (cut cs (after left k (effect_regrouped gs e))) (went e left cs next)
  acted b rest k gs old rw1 hd1 n left cs next (effect.Next y) further =
      subst (λ o. Leads b rest old rw1 hd1 n o (next y (push left cs))) (sym (cut_changes left cs (k (regrouped gs y)))) (further y)
  acted b rest k gs old rw1 hd1 n left cs next (effect.Answered a) further = refl
  acted b rest k gs old rw1 hd1 n left cs next (effect.Failed y status message) further = (gs, refl)

  -- the same of a handler that doesn't see groups
  handled_blind : (b : Sequence) (rest k : Rest) (gs old : List (List ℕ)) (rw1 hd1 n : ℕ) (cs : List FilledChanges)
      (next : Scene → List FilledChanges → Course) (h : Handler) (x : Scene) → IsBlindHandler h →
      ((y : Scene) (more : List FilledChanges) → Leads b rest old rw1 hd1 n (cut more (k (regrouped gs y))) (next y more)) →
      Leads b rest old rw1 hd1 n (cut cs (handled h k (regrouped gs x))) (went (handlers.effect h x) (deferred h x) cs next)
  handled_blind b rest k gs old rw1 hd1 n cs next h x blind further =
      subst (λ e. Leads b rest old rw1 hd1 n (cut cs (after (deferred h (regrouped gs x)) k e)) (went (handlers.effect h x) (deferred h x) cs next)) (sym (blind.effects gs x))
      (subst (λ left. Leads b rest old rw1 hd1 n (cut cs (after left k (effect_regrouped gs (handlers.effect h x)))) (went (handlers.effect h x) (deferred h x) cs next)) (sym (blind.leaves gs x))
      (acted b rest k gs old rw1 hd1 n (deferred h x) cs next (handlers.effect h x) (λ y. further y (push (deferred h x) cs))))

  chained : (i b : Sequence) (rest1 rest : Rest) (gs1 gs : List (List ℕ)) (rw1 hd1 n1 rw2 hd2 n2 : ℕ) (next : Scene → List FilledChanges → Course) (o : Outcome) (course : Course) →
      Leads i rest1 gs1 rw1 hd1 n1 o course →
      ((y : Scene) (new : List (List ℕ)) (cs : List FilledChanges) → Kept i rw1 hd1 n1 gs1 new →
      Leads b rest gs rw2 hd2 n2 (cut cs (rest1 (regrouped new y))) (next y cs)) →
      Leads b rest gs rw2 hd2 n2 o (then_on course next)
  chained i b rest1 rest gs1 gs rw1 hd1 n1 rw2 hd2 n2 next o (on y cs) l further =
      subst (λ x. Leads b rest gs rw2 hd2 n2 x (next y cs)) (sym l.2) (further y l.0 cs l.1)
  chained i b rest1 rest gs1 gs rw1 hd1 n1 rw2 hd2 n2 next o (ends a) l further = l
  chained i b rest1 rest gs1 gs rw1 hd1 n1 rw2 hd2 n2 next o (breaks y status message) l further = l

  both_ways : (b : Sequence) (rest : Rest) (gs : List (List ℕ)) (rw1 hd1 n : ℕ) (cs : List FilledChanges) (s t : Bool) (o o' whole : Outcome) (c c' : Course) → s ≡ t →
      whole ≡ (if s then o else o') →
      Leads b rest gs rw1 hd1 n (cut cs o) c → Leads b rest gs rw1 hd1 n (cut cs o') c' →
      Leads b rest gs rw1 hd1 n (cut cs whole) (if t then c else c')
  both_ways b rest gs rw1 hd1 n cs s t o o' whole c c' same is one other =
      subst (λ w. Leads b rest gs rw1 hd1 n (cut cs w) (if t then c else c')) (sym (is ∙ ap (λ u. if u then o else o') same)) (by t)
    where
      by : (u : Bool) → Leads b rest gs rw1 hd1 n (cut cs (if u then o else o')) (if u then c else c')
      by true = one
      by false = other

  -- ---- which groups fit

  fits_step : (b c : Sequence) (rw1 hd1 n : ℕ) (r h : Bool) (gs : List (List ℕ)) → has_once b ≡ has_once c → has_inside b ≡ has_inside c → groups_inside b ≡ groups_inside c →
      Fits c rw1 hd1 n r h gs → Fits b rw1 hd1 n r h gs
  fits_step b c rw1 hd1 n r h gs same_rw same_hd same_in f = record {
    rewrites = λ is. f.rewrites (sym same_rw ∙ is);
    handles = λ is. f.handles (sym same_hd ∙ is);
    apart = λ is. f.apart (sym same_rw ∙ is);
    low_rewriting = λ is. f.low_rewriting (sym same_rw ∙ is);
    low_handling = λ is. f.low_handling (sym same_hd ∙ is);
    free = f.free;
    room = omega (arith, f.room, same_in);
  }

  fits_skipped : (b : Sequence) (m : Sets) (e : Handler) (rw1 hd1 n : ℕ) (r h : Bool) (gs : List (List ℕ)) →
      Fits (once m e b) rw1 hd1 n r h gs → Fits b rw1 hd1 n r h gs
  unfolding groups_inside
  fits_skipped b m e rw1 hd1 n r h gs f = record {
    rewrites = λ _. f.rewrites refl;
    handles = f.handles;
    apart = λ _. f.apart refl;
    low_rewriting = λ _. f.low_rewriting refl;
    low_handling = f.low_handling;
    free = f.free;
    room = f.room;
  }

  fits_rewritten : (b : Sequence) (m : Sets) (e : Handler) (rw1 hd1 n : ℕ) (r h : Bool) (gs : List (List ℕ)) →
      Fits (once m e b) rw1 hd1 n r h gs → Fits b rw1 hd1 n true h (gs ++ name rw1 ∷ [])
  unfolding groups_inside
  fits_rewritten b m e rw1 hd1 n r h gs f = record {
    rewrites = λ _. same_group rw1 gs;
    handles = λ is. other_group hd1 rw1 gs (omega (arith, f.low_handling is, f.room)) (omega (arith, f.low_rewriting refl, f.room)) (λ same. f.apart refl (sym same)) ∙ f.handles is;
    apart = λ _. f.apart refl;
    low_rewriting = λ _. f.low_rewriting refl;
    low_handling = f.low_handling;
    free = λ k above low. other_group k rw1 gs low (omega (arith, f.low_rewriting refl, f.room)) (λ same. omega (arith, f.low_rewriting refl, same, above)) ∙ f.free k above low;
    room = f.room;
  }

  fits_passed : (i b : Sequence) (m : Sets) (rw1 hd1 n : ℕ) (r h : Bool) (gs : List (List ℕ)) →
      Fits (inside m i b) rw1 hd1 n r h gs → Fits b rw1 hd1 (n + groups_of i) r h gs
  unfolding groups_inside
  fits_passed i b m rw1 hd1 n r h gs f = record {
    rewrites = f.rewrites;
    handles = λ _. f.handles refl;
    apart = f.apart;
    low_rewriting = λ is. omega (arith, f.low_rewriting is);
    low_handling = λ _. omega (arith, f.low_handling refl);
    free = λ k above low. f.free k (omega (arith, above)) low;
    room = omega (arith, f.room);
  }

  fits_inside : (i b : Sequence) (m : Sets) (rw1 hd1 n : ℕ) (r h : Bool) (gs : List (List ℕ)) → Fits (inside m i b) rw1 hd1 n r h gs →
      Fits i n (n + one_if (has_once i)) (n + one_if (has_once i) + one_if (has_inside i)) false false (gs ++ name hd1 ∷ [])
  unfolding groups_inside
  fits_inside i b m rw1 hd1 n r h gs f = record {
    rewrites = λ is. unused n (omega arith) (omega (arith, f.room, ap one_if is));
    handles = λ is. unused (n + one_if (has_once i)) (omega arith) (omega (arith, f.room, ap one_if is));
    apart = λ is same. grows (has_once i) is same;
    low_rewriting = λ is. low (has_once i) (one_if (has_inside i)) is;
    low_handling = λ is. lower (has_inside i) (n + one_if (has_once i)) is;
    free = λ k above small. unused k (omega (arith, above)) small;
    room = omega (arith, f.room);
  }
    where
      unused : (k : ℕ) → n ≤ k → k < limit → taken k (gs ++ name hd1 ∷ []) ≡ false
      unused k above small = other_group k hd1 gs small (omega (arith, f.low_handling refl, f.room)) (λ same. omega (arith, f.low_handling refl, same, above)) ∙ f.free k above small

      grows : (t : Bool) → t ≡ true → n ≡ n + one_if t → ⊥
      grows true is same = omega (arith, same)
      grows false is same = search (rules, is)

      low : (t : Bool) (j : ℕ) → t ≡ true → n < n + one_if t + j
      low true j is = omega arith
      low false j is = search (rules, is)

      lower : (t : Bool) (j : ℕ) → t ≡ true → j < j + one_if t
      lower true j is = omega arith
      lower false j is = search (rules, is)

  fits_handled : (i b : Sequence) (m : Sets) (rw1 hd1 n : ℕ) (r h : Bool) (gs mid : List (List ℕ)) → Fits (inside m i b) rw1 hd1 n r h gs →
      Kept i n (n + one_if (has_once i)) (n + one_if (has_once i) + one_if (has_inside i)) (gs ++ name hd1 ∷ []) mid →
      Fits b rw1 hd1 (n + groups_of i) r true mid
  unfolding groups_inside
  fits_handled i b m rw1 hd1 n r h gs mid f keeps = record {
    rewrites = λ is. below rw1 (f.low_rewriting is) ∙ other_group rw1 hd1 gs (omega (arith, f.low_rewriting is, f.room)) (omega (arith, f.low_handling refl, f.room)) (f.apart is) ∙ f.rewrites is;
    handles = λ _. below hd1 (f.low_handling refl) ∙ same_group hd1 gs;
    apart = f.apart;
    low_rewriting = λ is. omega (arith, f.low_rewriting is);
    low_handling = λ _. omega (arith, f.low_handling refl);
    free = λ k above small. beyond k above small
        ∙ other_group k hd1 gs small (omega (arith, f.low_handling refl, f.room)) (λ same. omega (arith, f.low_handling refl, same, above)) ∙ f.free k (omega (arith, above)) small;
    room = omega (arith, f.room);
  }
    where
      below : (k : ℕ) → k < n → taken k mid ≡ taken k (gs ++ name hd1 ∷ [])
      below k low = keeps k (omega (arith, low, f.room)) (record {
        no_rewrite = λ _ same. omega (arith, low, same);
        no_handle = λ _ same. omega (arith, low, same);
        outside = λ above. omega (arith, low, above);
      })

      own : (k : ℕ) → n + groups_of i ≤ k → one_if (has_once i) ≡ 1 → k ≡ n → ⊥
      own k above one same = omega (arith, above, one, same)

      its : (k : ℕ) → n + groups_of i ≤ k → one_if (has_inside i) ≡ 1 → k ≡ n + one_if (has_once i) → ⊥
      its k above one same = omega (arith, above, one, same)

      beyond : (k : ℕ) → n + groups_of i ≤ k → k < limit → taken k mid ≡ taken k (gs ++ name hd1 ∷ [])
      beyond k above small = keeps k small (record {
        no_rewrite = λ is same. own k above (ap one_if is) same;
        no_handle = λ is same. its k above (ap one_if is) same;
        outside = λ _. omega (arith, above);
      })

  -- ---- which groups are kept

  kept_step : (b c : Sequence) (rw1 hd1 n : ℕ) (gs new : List (List ℕ)) → has_once b ≡ has_once c → has_inside b ≡ has_inside c → groups_inside b ≡ groups_inside c →
      Kept b rw1 hd1 n gs new → Kept c rw1 hd1 n gs new
  kept_step b c rw1 hd1 n gs new same_rw same_hd same_in keeps k small out = keeps k small (record {
    no_rewrite = λ is. out.no_rewrite (sym same_rw ∙ is);
    no_handle = λ is. out.no_handle (sym same_hd ∙ is);
    outside = λ above. omega (arith, out.outside above, same_in);
  })

  kept_more : (b : Sequence) (m : Sets) (e : Handler) (rw1 hd1 n : ℕ) (gs new : List (List ℕ)) →
      Kept b rw1 hd1 n gs new → Kept (once m e b) rw1 hd1 n gs new
  unfolding groups_inside
  kept_more b m e rw1 hd1 n gs new keeps k small out = keeps k small (record {
    no_rewrite = λ _. out.no_rewrite refl;
    no_handle = out.no_handle;
    outside = out.outside;
  })

  kept_rewritten : (b : Sequence) (m : Sets) (e : Handler) (rw1 hd1 n : ℕ) (gs new : List (List ℕ)) → rw1 < limit →
      Kept b rw1 hd1 n (gs ++ name rw1 ∷ []) new → Kept (once m e b) rw1 hd1 n gs new
  unfolding groups_inside
  kept_rewritten b m e rw1 hd1 n gs new fits keeps k small out = keeps k small (record {
    no_rewrite = λ _. out.no_rewrite refl;
    no_handle = out.no_handle;
    outside = out.outside;
  }) ∙ other_group k rw1 gs small fits (out.no_rewrite refl)

  kept_passed : (i b : Sequence) (m : Sets) (rw1 hd1 n : ℕ) (gs new : List (List ℕ)) →
      Kept b rw1 hd1 (n + groups_of i) gs new → Kept (inside m i b) rw1 hd1 n gs new
  unfolding groups_inside
  kept_passed i b m rw1 hd1 n gs new keeps k small out = keeps k small (record {
    no_rewrite = out.no_rewrite;
    no_handle = λ _. out.no_handle refl;
    outside = λ above. omega (arith, out.outside (omega (arith, above)));
  })

  kept_handled : (i b : Sequence) (m : Sets) (rw1 hd1 n : ℕ) (gs mid new : List (List ℕ)) → hd1 < limit →
      Kept i n (n + one_if (has_once i)) (n + one_if (has_once i) + one_if (has_inside i)) (gs ++ name hd1 ∷ []) mid →
      Kept b rw1 hd1 (n + groups_of i) mid new → Kept (inside m i b) rw1 hd1 n gs new
  unfolding groups_inside
  kept_handled i b m rw1 hd1 n gs mid new fits within further k small out =
      further k small (record {
        no_rewrite = out.no_rewrite;
        no_handle = λ _. out.no_handle refl;
        outside = λ above. omega (arith, out.outside (omega (arith, above)));
      })
      ∙ within k small (record {
        no_rewrite = λ is same. own (ap one_if is) same;
        no_handle = λ is same. its (ap one_if is) same;
        outside = λ above. omega (arith, out.outside (omega (arith, above)));
      })
      ∙ other_group k hd1 gs small fits (out.no_handle refl)
    where
      own : one_if (has_once i) ≡ 1 → k ≡ n → ⊥
      own one same = omega (arith, out.outside (omega (arith, same)), one, same)

      its : one_if (has_inside i) ≡ 1 → k ≡ n + one_if (has_once i) → ⊥
      its one same = omega (arith, out.outside (omega (arith, same)), one, same)

  headed : (b c : Sequence) (rest : Rest) (gs : List (List ℕ)) (rw1 hd1 n : ℕ) (o : Outcome) (course : Course) →
      has_once b ≡ has_once c → has_inside b ≡ has_inside c → groups_inside b ≡ groups_inside c →
      Leads b rest gs rw1 hd1 n o course → Leads c rest gs rw1 hd1 n o course
  headed b c rest gs rw1 hd1 n o course same_rw same_hd same_in =
      moved b c rest gs gs rw1 hd1 n rw1 hd1 n o course (λ new. kept_step b c rw1 hd1 n gs new same_rw same_hd same_in)

  -- ---- the heart

  test_plain : (m : Sets) → IsBlindSets m → (gs : List (List ℕ)) (x : Scene) → (holds m (regrouped gs x) && not (is_taken None (regrouped gs x))) ≡ holds m x
  test_plain m blind gs x = and_true (holds m (regrouped gs x)) ∙ blind.same gs x

  test_group : (m : Sets) → IsBlindSets m → (g : ℕ) (gs : List (List ℕ)) (x : Scene) (r : Bool) → taken g gs ≡ r →
      (holds m (regrouped gs x) && not (is_taken (Some (name g)) (regrouped gs x))) ≡ (holds m x && not r)
  test_group m blind g gs x r is = ap (λ t. t && not (taken g gs)) (blind.same gs x) ∙ ap (λ t. holds m x && not t) is

  pub leads : (b : Sequence) (rw1 hd1 n : ℕ) (r h : Bool) (x : Scene) (gs : List (List ℕ)) (cs : List FilledChanges) (rest : Rest) →
      AreBlind b → Fits b rw1 hd1 n r h gs →
      Leads b rest gs rw1 hd1 n (cut cs (run_routes named (routes_from name b rw1 hd1 n) rest (regrouped gs x))) (does b r h x cs)
  unfolding in_order does routes_from groups_inside
  leads done rw1 hd1 n r h x gs cs rest blind f = (gs, (λ k small out. refl), refl)
  leads (act m e b) rw1 hd1 n r h x gs cs rest blind f =
      let go : (y : Scene) (more : List FilledChanges) → Leads (act m e b) rest gs rw1 hd1 n (cut more (run_routes named (routes_from name b rw1 hd1 n) rest (regrouped gs y))) (does b r h y more) =
      λ y more. headed b (act m e b) rest gs rw1 hd1 n _ _ refl refl refl (leads b rw1 hd1 n r h y gs more rest blind.2 (fits_step b (act m e b) rw1 hd1 n r h gs refl refl refl f)) in
      both_ways (act m e b) rest gs rw1 hd1 n cs _ _ _ _ _ _ _ (test_plain m blind.0 gs x)
      (handler_route named None m e blind.1.itself (routes_from name b rw1 hd1 n) rest (regrouped gs x))
      (handled_blind (act m e b) rest (run_routes named (routes_from name b rw1 hd1 n) rest) gs gs rw1 hd1 n cs (does b r h) e x blind.1 go) (go x cs)
  leads (once m e b) rw1 hd1 n r h x gs cs rest blind f =
      let go : (y : Scene) (more : List FilledChanges) → Leads (once m e b) rest gs rw1 hd1 n (cut more (run_routes named (routes_from name b rw1 hd1 n) rest (regrouped (gs ++ name rw1 ∷ []) y))) (does b true h y more) =
      λ y more. moved b (once m e b) rest (gs ++ name rw1 ∷ []) gs rw1 hd1 n rw1 hd1 n _ _ (λ new. kept_rewritten b m e rw1 hd1 n gs new (omega (arith, f.low_rewriting refl, f.room)))
      (leads b rw1 hd1 n true h y (gs ++ name rw1 ∷ []) more rest blind.2 (fits_rewritten b m e rw1 hd1 n r h gs f)) in
      both_ways (once m e b) rest gs rw1 hd1 n cs _ _ _ _ _ _ _ (test_group m blind.0 rw1 gs x r (f.rewrites refl))
      (handler_route named (Some (name rw1)) m e blind.1.itself (routes_from name b rw1 hd1 n) rest (regrouped gs x))
      (handled_blind (once m e b) rest (run_routes named (routes_from name b rw1 hd1 n) rest) (gs ++ name rw1 ∷ []) gs rw1 hd1 n cs (does b true h) e x blind.1 go)
      (moved b (once m e b) rest gs gs rw1 hd1 n rw1 hd1 n _ _ (λ new. kept_more b m e rw1 hd1 n gs new)
      (leads b rw1 hd1 n r h x gs cs rest blind.2 (fits_skipped b m e rw1 hd1 n r h gs f)))
  leads (inside m i b) rw1 hd1 n r h x gs cs rest blind f =
      both_ways (inside m i b) rest gs rw1 hd1 n cs _ _ _ _ _ _ _ (test_group m blind.0 hd1 gs x h (f.handles refl))
      (subroute_route named (Some (name hd1)) m (routes_from name i n (n + one_if (has_once i)) (n + one_if (has_once i) + one_if (has_inside i))) (routes_from name b rw1 hd1 (n + groups_of i)) rest (regrouped gs x))
      (chained i (inside m i b) (run_routes named (routes_from name b rw1 hd1 (n + groups_of i)) rest) rest (gs ++ name hd1 ∷ []) gs
      n (n + one_if (has_once i)) (n + one_if (has_once i) + one_if (has_inside i)) rw1 hd1 n (does b r true) _ (does i false false x cs)
      (leads i n (n + one_if (has_once i)) (n + one_if (has_once i) + one_if (has_inside i)) false false x (gs ++ name hd1 ∷ []) cs
      (run_routes named (routes_from name b rw1 hd1 (n + groups_of i)) rest) blind.1 (fits_inside i b m rw1 hd1 n r h gs f))
      (λ y mid more keeps. moved b (inside m i b) rest mid gs rw1 hd1 (n + groups_of i) rw1 hd1 n _ _
      (λ new. kept_handled i b m rw1 hd1 n gs mid new (omega (arith, f.low_handling refl, f.room)) keeps)
      (leads b rw1 hd1 (n + groups_of i) r true y mid more rest blind.2 (fits_handled i b m rw1 hd1 n r h gs mid f keeps))))
      (moved b (inside m i b) rest gs gs rw1 hd1 (n + groups_of i) rw1 hd1 n _ _ (λ new. kept_passed i b m rw1 hd1 n gs new)
      (leads b rw1 hd1 (n + groups_of i) r h x gs cs rest blind.2 (fits_passed i b m rw1 hd1 n r h gs f)))

  -- ---- at the beginning

  fits_at_first : (b : Sequence) (n : ℕ) → n + groups_of b ≤ limit → Fits b n (n + one_if (has_once b)) (n + one_if (has_once b) + one_if (has_inside b)) false false []
  fits_at_first b n room = record {
    rewrites = λ _. refl;
    handles = λ _. refl;
    apart = λ is same. grows (has_once b) is same;
    low_rewriting = λ is. low (has_once b) (one_if (has_inside b)) is;
    low_handling = λ is. lower (has_inside b) (n + one_if (has_once b)) is;
    free = λ k above small. refl;
    room = omega (arith, room);
  }
    where
      grows : (t : Bool) → t ≡ true → n ≡ n + one_if t → ⊥
      grows true is same = omega (arith, same)
      grows false is same = search (rules, is)

      low : (t : Bool) (j : ℕ) → t ≡ true → n < n + one_if t + j
      low true j is = omega arith
      low false j is = search (rules, is)

      lower : (t : Bool) (j : ℕ) → t ≡ true → j < j + one_if t
      lower true j is = omega arith
      lower false j is = search (rules, is)

  concluded : (b : Sequence) (gs : List (List ℕ)) (rw1 hd1 n : ℕ) (o : Outcome) (course : Course) →
      Leads b nothing_left gs rw1 hd1 n o course → answer_of named None o ≡ settled course
  unfolding nothing_left
  concluded b gs rw1 hd1 n o (on y cs) l = ap (answer_of named None) l.2
  concluded b gs rw1 hd1 n o (ends a) l = ap (answer_of named None) l
  concluded b gs rw1 hd1 n o (breaks y status message) l = ap (answer_of named None) l.1

  pub routes_mean : (p : Sequence) (n : ℕ) (x : Scene) → AreBlind p → n + groups_of p ≤ limit → x.groups ≡ [] →
      answer_of named None (run_routes named (routes_of name p n) nothing_left x) ≡ settled (does p false false x [])
  routes_mean p n x blind room none =
      ap (λ gs. answer_of named None (run_routes named (routes_of name p n) nothing_left (regrouped gs x))) none
      ∙ (ap (answer_of named None) (sym (cut_none (run_routes named (routes_of name p n) nothing_left (regrouped [] x))))
      ∙ concluded p [] n (n + one_if (has_once p)) (n + one_if (has_once p) + one_if (has_inside p)) (cut [] (run_routes named (routes_of name p n) nothing_left (regrouped [] x)))
      (does p false false x [])
      (leads p n (n + one_if (has_once p)) (n + one_if (has_once p) + one_if (has_inside p)) false false x [] [] nothing_left blind (fits_at_first p n room)))
