-- A history without the entries of an abandoned draft.
use Rattle.std.proofs.Common.{◌≡◌, ◌≢◌, ℕ, ◌+◌, ◌==◌, zero, suc, Bool, true, false, ◌&&◌, not, cond, nat_lt, List, [], ◌∷◌, ◌++◌, take, slice_get, Option, Some, None, refl, sym, ap, subst, ◌∙◌, eq-eqb}
use Rattle.std.specs.Prelude.{◌||◌}
use Rattle.std.proofs.lemmas.Bool.{eqb-true, eqb-false}
use Rattle.cd_outside.specs.declared.key.Key.{Key}
use Rattle.cd_outside.specs.declared.holder.Holder.{Holder}
use Rattle.cd_outside.specs.declared.holder.Pair.{Pair}
use Rattle.cd_outside.specs.Keys.{key_eq, keys_in, pairs_for}
use Rattle.cd_legal.specs.declared.part.Part.{Part}
use Rattle.cd_legal.specs.declared.part.Part.TheVariants.{Instance, App}
use Rattle.cd_legal.specs.declared.limits.TheConstants.{MAX_DRAFTS}
use Rattle.cd_legal.specs.declared.entry.Entry.{Entry}
use Rattle.cd_legal.specs.declared.entry.Entry.TheVariants.{Draft, Made, Started, Publish, Abandon, Stopped, Retire, Cleaned}
use Rattle.cd_legal.specs.declared.state.State.{State}
use Rattle.cd_legal.specs.declared.state.Drafted.{Drafted}
use Rattle.cd_legal.specs.State.{opening_state, holds, holds_if_there, has_number, change_at, conf_of, part_of, part_keys, opened_in, instances_ready, keys_for, new_draft, is_live, of_draft, all_stopped, draft_of, apps_stopped}
use Rattle.cd_legal.specs.Legal.{keys_fit, is_open, may_open, may_stop, may_clean, is_complete, allowed, after, legal_from, legal, state_from, state_of}
use Rattle.cd_legal.specs.Abandoned.{is_entry_of, is_draft, without_draft, is_abandoned_in, pairs_of_others, Leaves}
use Rattle.cd_legal.proofs.Histories.{both, first, second}
use Rattle.cd_legal.proofs.Places.{get_change_other, length_change, change_again, change_apart, change_push, holds_weaker}
use Rattle.cd_legal.proofs.Others.{others-append, others-other, others-without, others-without_own, others-keys, others-twice, others-none}
use Rattle.cd_legal.proofs.Lives.{never_published}
use Rattle.cd_legal.proofs.Leaving.{conf_at-change, taking}

-- a draft of which nothing came
abbrev undo : Drafted → Drafted
undo x = new_draft x.tree x.plan

-- the state in which nothing came of the draft, which is live
abbrev undone : ℕ → State → State
undone d s = record s { drafts = change_at undo d s.drafts; pairs = pairs_of_others d s.pairs }

-- the same drafts and the same pairs
with_parts : (s : State) (xs ys : List Drafted) (ps qs : List Pair) → xs ≡ ys → ps ≡ qs → record s { drafts = xs; pairs = ps } ≡ record s { drafts = ys; pairs = qs }
with_parts s xs ys ps qs x p = ap (λ (z : List Drafted). record s { drafts = z; pairs = ps }) x ∙ ap (λ (z : List Pair). record s { drafts = ys; pairs = z }) p

-- what it says of an entry to be left out, or to stay
own : (b : Bool) → (not b || false) ≡ false → b ≡ true
own true is = refl
own false is = cc

other : (b : Bool) → (not b || false) ≡ true → b ≡ false
other true is = cc
other false is = refl

apart : (j d : ℕ) → (not (j == d) || false) ≡ true → j ≢ d
apart j d is = eqb-false j d (other (j == d) is)

-- ---- an entry that is left out

module _ (d : ℕ) (s : State) where
  -- at the draft's own number
  again : (e : Entry) (j : ℕ) → (j == d) ≡ true → undone j (after s e) ≡ undone j s → undone d (after s e) ≡ undone d s
  again e j is here = subst (λ z. undone z (after s e) ≡ undone z s) (eqb-true j d is) here

-- a change of the draft, and of its pairs
changed : (s : State) (j : ℕ) (f : Drafted → Drafted) (ps : List Pair) → ((x : Drafted) → undo (f x) ≡ undo x) → pairs_of_others j ps ≡ pairs_of_others j s.pairs → undone j (record s { drafts = change_at f j s.drafts; pairs = ps }) ≡ undone j s
changed s j f ps same p = with_parts s _ _ _ _ (change_again f undo same s.drafts j) p

-- it does not show where nothing came of the draft
left_out : (d : ℕ) (s : State) (e : Entry) (es : List Entry) → legal_from s (e ∷ es) ≡ true → is_abandoned_in (state_from (after s e) es) d ≡ true → (not (is_entry_of d e) || is_draft e) ≡ false → undone d (after s e) ≡ undone d s
left_out d s (Draft j tree plan) es legal gone is = absurd (let e : true ≡ false = sym (always (j == d)) ∙ is in cc)
  where
    always : (b : Bool) → (not b || true) ≡ true
    always true = refl
    always false = refl
left_out d s (Made j i taken failed) es legal gone is = again d s (Made j i taken failed) j (own (j == d) is) (changed s j _ _ (λ x. refl) (taking j (part_of Instance j i) s.pairs (take taken (keys_for Instance i (slice_get s.drafts j))) (eq-eqb j j refl)))
left_out d s (Started j a taken failed) es legal gone is = again d s (Started j a taken failed) j (own (j == d) is) (changed s j _ _ (λ x. refl) (taking j (part_of App j a) s.pairs (take taken (keys_for App a (slice_get s.drafts j))) (eq-eqb j j refl)))
left_out d s (Publish j n from c) es legal gone is = absurd (let e : false ≡ true = never_published s j n from c es legal (subst (λ z. is_abandoned_in (state_from (after s (Publish j n from c)) es) z ≡ true) (sym (eqb-true j d (own (j == d) is))) gone) in cc)
left_out d s (Abandon j) es legal gone is = again d s (Abandon j) j (own (j == d) is) (changed s j _ s.pairs (λ x. refl) refl)
left_out d s (Stopped j a) es legal gone is = again d s (Stopped j a) j (own (j == d) is) (changed s j _ _ (λ x. refl) (others-without_own j (part_of App j a) refl s.pairs))
left_out d s (Cleaned j i) es legal gone is = again d s (Cleaned j i) j (own (j == d) is) (changed s j _ _ (λ x. refl) (others-without_own j (part_of Instance j i) refl s.pairs))
left_out d s e es legal gone is = cc

-- ---- an entry that stays: what it leaves

-- a holder of another draft takes the same keys
takes : (d : ℕ) (h : Holder) (ps : List Pair) (ks ls : List Key) → (h.draft == d) ≡ false → ks ≡ ls → pairs_of_others d ps ++ pairs_for h ks ≡ pairs_of_others d (ps ++ pairs_for h ls)
takes d h ps ks ls other same = ap (λ (z : List Key). pairs_of_others d ps ++ pairs_for h z) same ∙ (ap (λ (z : List Pair). pairs_of_others d ps ++ z) (sym (others-other d h ls other)) ∙ sym (others-append d ps (pairs_for h ls)))

same_keys : (part : Part) (i taken : ℕ) (o p : Option Drafted) → o ≡ p → take taken (keys_for part i o) ≡ take taken (keys_for part i p)
same_keys part i taken o p e = ap (λ (z : Option Drafted). take taken (keys_for part i z)) e

-- it leaves the same, but for the draft
stayed : (d : ℕ) (s : State) (e : Entry) → (not (is_entry_of d e) || is_draft e) ≡ true → after (undone d s) e ≡ undone d (after s e)
stayed d s (Draft j tree plan) is = with_parts s _ _ (pairs_of_others d s.pairs) _ (change_push undo (new_draft tree plan) refl s.drafts d) refl
stayed d s (Made j i taken failed) is =
    with_parts s _ _ _ _ (change_apart _ undo s.drafts j d (apart j d is))
    (takes d (part_of Instance j i) s.pairs _ _ (other (j == d) is) (same_keys Instance i taken _ _ (get_change_other undo s.drafts d j (apart j d is))))
stayed d s (Started j a taken failed) is =
    with_parts s _ _ _ _ (change_apart _ undo s.drafts j d (apart j d is))
    (takes d (part_of App j a) s.pairs _ _ (other (j == d) is) (same_keys App a taken _ _ (get_change_other undo s.drafts d j (apart j d is))))
stayed d s (Publish j n from c) is = with_parts (record s { serial = n; published = s.published ++ j ∷ [] }) _ _ (pairs_of_others d s.pairs) _ (change_apart _ undo s.drafts j d (apart j d is)) refl
stayed d s (Abandon j) is = with_parts s _ _ (pairs_of_others d s.pairs) _ (change_apart _ undo s.drafts j d (apart j d is)) refl
stayed d s (Stopped j a) is = with_parts s _ _ _ _ (change_apart _ undo s.drafts j d (apart j d is)) (sym (others-without d (part_of App j a) s.pairs))
stayed d s (Cleaned j i) is = with_parts s _ _ _ _ (change_apart _ undo s.drafts j d (apart j d is)) (sym (others-without d (part_of Instance j i) s.pairs))
stayed d s e is = refl

-- ---- an entry that stays: that it is allowed

-- keys fit where there are fewer pairs
fits : (d : ℕ) (ps : List Pair) (keys : List Key) (taken : ℕ) (failed : Option Key) → keys_fit (keys_in ps) keys taken failed ≡ true → keys_fit (keys_in (pairs_of_others d ps)) keys taken failed ≡ true
fits d ps keys taken None fit = fit
fits d ps keys taken (Some key) fit = both (holds (key_eq key) (slice_get keys taken)) _ (first (holds (key_eq key) (slice_get keys taken)) _ fit) (others-none d key (take taken keys) ps (second (holds (key_eq key) (slice_get keys taken)) _ fit))

-- one part of a condition grows weaker
deeper : (a b b' : Bool) → (b ≡ true → b' ≡ true) → (a && b) ≡ true → (a && b') ≡ true
deeper true b b' f e = f e
deeper false b b' f e = e

shallow : (a a' b : Bool) → (a ≡ true → a' ≡ true) → (a && b) ≡ true → (a' && b) ≡ true
shallow a a' b f e = both a' b (f (first a b e)) (second a b e)

-- so may an instance be made, or an app be started
opens : (d : ℕ) (part : Part) (i taken : ℕ) (failed : Option Key) (ps : List Pair) (x : Drafted) → may_open part i taken failed ps x ≡ true → may_open part i taken failed (pairs_of_others d ps) x ≡ true
opens d part i taken failed ps x =
    deeper (is_open x) _ _ (deeper (instances_ready part x) _ _ (deeper (i == opened_in part x) _ _
    (holds_weaker (λ ks. keys_fit (keys_in ps) ks taken failed) _ (λ ks fit. fits d ps ks taken failed fit) (slice_get (part_keys part x.plan) i))))

-- of a draft of which nothing came each app is stopped
stops : (xs : List Drafted) (d j : ℕ) → holds_if_there all_stopped (slice_get xs j) ≡ true → holds_if_there all_stopped (slice_get (change_at undo d xs) j) ≡ true
stops [] d j e = e
stops (x ∷ xs) zero zero e = refl
stops (x ∷ xs) zero (suc j) e = e
stops (x ∷ xs) (suc d) zero e = e
stops (x ∷ xs) (suc d) (suc j) e = stops xs d j e

all_stop : (xs : List Drafted) (d : ℕ) (o : Option ℕ) → of_draft all_stopped xs o ≡ true → of_draft all_stopped (change_at undo d xs) o ≡ true
all_stop xs d None e = refl
all_stop xs d (Some j) e = stops xs d j e

module _ (d : ℕ) (s : State) where
  elsewhere : (j : ℕ) → j ≢ d → slice_get s.drafts j ≡ slice_get (change_at undo d s.drafts) j
  elsewhere j ne = sym (get_change_other undo s.drafts d j ne)

  -- all that is allowed stays so
  still : (e : Entry) → (not (is_entry_of d e) || is_draft e) ≡ true → allowed s e ≡ true → allowed (undone d s) e ≡ true
  still (Draft j tree plan) is may = ap (λ (n : ℕ). (j == n) && nat_lt j MAX_DRAFTS) (length_change undo s.drafts d) ∙ may
  still (Made j i taken failed) is may = holds_weaker (may_open Instance i taken failed s.pairs) _ (opens d Instance i taken failed s.pairs) (slice_get (change_at undo d s.drafts) j) (ap (holds (may_open Instance i taken failed s.pairs)) (sym (elsewhere j (apart j d is))) ∙ may)
  still (Started j a taken failed) is may = holds_weaker (may_open App a taken failed s.pairs) _ (opens d App a taken failed s.pairs) (slice_get (change_at undo d s.drafts) j) (ap (holds (may_open App a taken failed s.pairs)) (sym (elsewhere j (apart j d is))) ∙ may)
  still (Publish j n from c) is may = ap (λ (o : Option Drafted). not s.halted && (holds is_complete o && ((from == s.serial) && (n == from + 1)))) (sym (elsewhere j (apart j d is))) ∙ may
  still (Abandon j) is may = ap (holds (λ (x : Drafted). is_live x.life)) (sym (elsewhere j (apart j d is))) ∙ may
  still (Stopped j a) is may = ap (holds (may_stop a s.serial)) (sym (elsewhere j (apart j d is))) ∙ may
  still (Retire n) is may = deeper (nat_lt n s.serial) _ _ (deeper (not (has_number n s.retired)) _ _ (shallow (apps_stopped s n) _ _ (all_stop s.drafts d (draft_of n s.published)))) may
  still (Cleaned j i) is may = ap (holds (may_clean i s.retired)) (sym (elsewhere j (apart j d is))) ∙ may
  still e is may = may

-- ---- the whole history

abbrev Comes : ℕ → State → List Entry → List Entry → Type 0
Comes d s log short = (legal_from (undone d s) short ≡ true) × (state_from (undone d s) short ≡ undone d (state_from s log))

-- one entry, left out or not
step : (d : ℕ) (s : State) (e : Entry) (es : List Entry) (b : Bool) → (not (is_entry_of d e) || is_draft e) ≡ b → legal_from s (e ∷ es) ≡ true → is_abandoned_in (state_from (after s e) es) d ≡ true
    → Comes d (after s e) es (without_draft d es) → Comes d s (e ∷ es) (cond b (e ∷ without_draft d es) (without_draft d es))
step d s e es true is legal gone rest =
    let same = sym (stayed d s e is) in (
      both (allowed (undone d s) e) _ (still d s e is (first (allowed s e) _ legal)) (ap (λ (t : State). legal_from t (without_draft d es)) (sym same) ∙ rest.0),
      ap (λ (t : State). state_from t (without_draft d es)) (sym same) ∙ rest.1,
    )
step d s e es false is legal gone rest =
    let same = sym (left_out d s e es legal gone is) in
    (ap (λ (t : State). legal_from t (without_draft d es)) same ∙ rest.0, ap (λ (t : State). state_from t (without_draft d es)) same ∙ rest.1)

-- the history without them is legal, and leaves the state in which nothing came of the draft
comes : (d : ℕ) (s : State) (log : List Entry) → legal_from s log ≡ true → is_abandoned_in (state_from s log) d ≡ true → Comes d s log (without_draft d log)
comes d s [] legal gone = (refl, refl)
comes d s (e ∷ es) legal gone = step d s e es (not (is_entry_of d e) || is_draft e) refl legal gone (comes d (after s e) es (second (allowed s e) _ legal) gone)

-- each serial has the same configuration
same_confs : (d : ℕ) (s : State) (n : ℕ) → conf_of s n ≡ conf_of (undone d s) n
same_confs d s zero = refl
same_confs d s (suc n) = sym (conf_at-change undo (λ x. refl) (s.halted && (suc n == s.serial)) s.drafts d (slice_get s.published n))

-- such a state differs in nothing else
nothing_else : (d : ℕ) (s : State) → Leaves d (undone d s) s
nothing_else d s = record {
  serial = refl;
  halted = refl;
  published = refl;
  retired = refl;
  tickets = refl;
  trees = same_confs d s;
  drafts = λ j ne. elsewhere d s j ne;
  keys = λ h ne. others-keys d h ne s.pairs;
  pairs = others-twice d s.pairs;
}

-- a draft that is abandoned leaves no trace elsewhere
pub no_trace : (log : List Entry) → legal log ≡ true → (d : ℕ) → is_abandoned_in (state_of log) d ≡ true → (legal (without_draft d log) ≡ true) × Leaves d (state_of (without_draft d log)) (state_of log)
no_trace log legal d gone =
    let all = comes d opening_state log legal gone in
    (all.0, subst (λ (t : State). Leaves d t (state_of log)) (sym all.1) (nothing_else d (state_of log)))
