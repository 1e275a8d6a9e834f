-- The entries of a live draft are signed by the pass that owes it.
use Rattle.std.proofs.Common.{◌≡◌, ◌⊎◌, inl, inr, ◌<◌, ◌≤◌, ℕ, ◌==◌, Bool, true, false, not, cond, List, [], ◌∷◌, ◌++◌, length, slice_get, Option, Some, None, refl, sym, ap, subst, ◌∙◌, ⊎_elim, arith, length-append, eq-eqb}
use Rattle.std.specs.Prelude.{◌||◌}
use Rattle.std.specs.List.{list_all}
use Rattle.std.proofs.lemmas.Bool.{eqb-true}
use Rattle.std.proofs.lemmas.List.Folds.{list_all-append}
use Rattle.cd_legal.specs.declared.entry.Entry.{Entry}
use Rattle.cd_legal.specs.declared.entry.Entry.TheVariants.{Draft, Made, Started, Publish, Abandon, Stopped, Cleaned}
use Rattle.cd_legal.specs.declared.entry.Signed.{Signed}
use Rattle.cd_legal.specs.declared.part.Part.TheVariants.{Instance, App}
use Rattle.cd_legal.specs.declared.state.State.{State}
use Rattle.cd_legal.specs.declared.state.Drafted.{Drafted}
use Rattle.cd_legal.specs.declared.state.Life.{Life}
use Rattle.cd_legal.specs.declared.state.Life.TheVariants.{Live, Published, Abandoned}
use Rattle.cd_legal.specs.Abandoned.{is_entry_of}
use Rattle.cd_legal.specs.State.{holds, is_live, may_stop_apps, may_clean_instances, new_draft}
use Rattle.cd_legal.specs.Legal.{allowed, after, state_at, may_open, may_stop, may_clean, is_complete}
use Rattle.cd_legal.specs.Owing.{Owes, owes_by, owes_of}
use Rattle.cd_legal.specs.Signing.{owes_draft, may_sign, is_live_in, IsHistory}
use Rattle.cd_legal.proofs.Histories.{both, first, second}
use Rattle.cd_legal.proofs.Facts.{can, not-false}
use Rattle.cd_legal.proofs.Places.{holds_within}
use Rattle.cd_legal.proofs.Effects.{drafts-stay}
use Rattle.cd_legal.proofs.Logs.{state-snoc, history-snoc, history-along}
use Rattle.cd_legal.proofs.Owing.{owes-snoc}
use Rattle.cd_legal.proofs.Owners.{live-owned}
use Rattle.cd_gate.specs.Rule.{signs_all}
use Rattle.cd_gate.proofs.Numbers.{tells, left, right, off}

-- ---- no entry of a draft that is not there

-- a draft of which there is an entry is there afterwards
is_there : (s : State) (e : Entry) (j d : ℕ) → allowed s e ≡ true → (j == d) ≡ true → j < length s.drafts → d < length (after s e).drafts
is_there s e j d may same low = let up = drafts-stay s e may in let is = eqb-true j d same in omega arith

entry_there : (s : State) (e : Entry) (d : ℕ) → allowed s e ≡ true → is_entry_of d e ≡ true → d < length (after s e).drafts
entry_there s (Draft j tree plan) d may is =
    let next = (can s (Draft j tree plan) may).next in
    let more = length-append s.drafts (new_draft tree plan ∷ []) in
    let same = eqb-true j d is in omega arith
entry_there s (Made j i taken failed) d may is = is_there s (Made j i taken failed) j d may is (holds_within (may_open Instance i taken failed s.pairs) s.drafts j may)
entry_there s (Started j a taken failed) d may is = is_there s (Started j a taken failed) j d may is (holds_within (may_open App a taken failed s.pairs) s.drafts j may)
entry_there s (Publish j n from c) d may is = is_there s (Publish j n from c) j d may is (holds_within is_complete s.drafts j (can s (Publish j n from c) may).complete)
entry_there s (Abandon j) d may is = is_there s (Abandon j) j d may is (holds_within (λ x. is_live x.life) s.drafts j may)
entry_there s (Stopped j a) d may is = is_there s (Stopped j a) j d may is (holds_within (may_stop a s.serial) s.drafts j may)
entry_there s (Cleaned j i) d may is = is_there s (Cleaned j i) j d may is (holds_within (may_clean i s.retired) s.drafts j may)
entry_there s e d may is = absurd (off is)

-- no entry of the draft
abbrev is_untouched : ℕ → List Signed → Bool
is_untouched d log = list_all (λ x. not (is_entry_of d x.entry)) log

abbrev Untouched : List Signed → Type 0
Untouched log = (d : ℕ) → length (state_at log).drafts ≤ d → is_untouched d log ≡ true

is_not : (b : Bool) → (b ≡ true → ⊥) → b ≡ false
is_not true never = absurd (never refl)
is_not false never = refl

over : (a b : ℕ) → a < b → b ≤ a → ⊥
over a b low le = absurd (omega arith)

untouched : (before : List Signed) (x : Signed) → allowed (state_at before) x.entry ≡ true → Untouched before → Untouched (before ++ x ∷ [])
untouched before x may none = λ d le.
    let s : State = state_at before in
    let le' : length (after s x.entry).drafts ≤ d = subst (λ (t : State). length t.drafts ≤ d) (state-snoc before x) le in
    let up = drafts-stay s x.entry may in
    list_all-append (λ y. not (is_entry_of d y.entry)) before (x ∷ [])
    ∙ both (is_untouched d before) _ (none d (omega arith))
    (both (not (is_entry_of d x.entry)) true (not-false (is_entry_of d x.entry) (is_not (is_entry_of d x.entry) (λ is. over d (length (after s x.entry).drafts) (entry_there s x.entry d may is) le'))) refl)

-- what has none is signed by anyone
anyone : (k d : ℕ) (log : List Signed) → is_untouched d log ≡ true → signs_all k d log ≡ true
anyone k d [] is = refl
anyone k d (x ∷ xs) is =
    both (not (is_entry_of d x.entry) || (x.by == k)) _
    (left (not (is_entry_of d x.entry)) (x.by == k) (first (not (is_entry_of d x.entry)) _ is)) (anyone k d xs (second (not (is_entry_of d x.entry)) _ is))

-- ---- who signs an entry of a live draft owes it

draft_is : (d : ℕ) (o : Option ℕ) → holds (λ own. own == d) o ≡ true → o ≡ Some d
draft_is d None e = absurd (off e)
draft_is d (Some n) e = ap (λ (z : ℕ). Some z) (eqb-true n d e)

clash : (may : Drafted → Bool) → ((x : Drafted) → may x ≡ true → is_live x.life ≡ true → ⊥) → (o : Option Drafted) → holds may o ≡ true → holds (λ x. is_live x.life) o ≡ true → ⊥
clash may apart None m l = off m
clash may apart (Some x) m l = apart x m l

not_stopped : (serial : ℕ) (l : Life) → may_stop_apps serial l ≡ true → is_live l ≡ true → ⊥
not_stopped serial Live m live = off m
not_stopped serial (Published n) m live = off live
not_stopped serial Abandoned m live = off live

not_cleaned : (retired : List ℕ) (l : Life) → may_clean_instances retired l ≡ true → is_live l ≡ true → ⊥
not_cleaned retired Live m live = off m
not_cleaned retired (Published n) m live = off live
not_cleaned retired Abandoned m live = off live

owed_by : (j d : ℕ) (o : Owes) → owes_draft j o ≡ true → (j == d) ≡ true → o.draft ≡ Some d
owed_by j d o signs is = draft_is j o.draft signs ∙ ap (λ (z : ℕ). Some z) (eqb-true j d is)

live_at : (s : State) (j d : ℕ) → (j == d) ≡ true → is_live_in s d ≡ true → is_live_in s j ≡ true
live_at s j d is live = ap (is_live_in s) (eqb-true j d is) ∙ live

owner : (s : State) (by : ℕ) (o : Owes) (e : Entry) (d : ℕ) → allowed s e ≡ true → may_sign by o e ≡ true → is_live_in s d ≡ true → is_entry_of d e ≡ true → o.draft ≡ Some d
owner s by o (Draft j tree plan) d may signs live is =
    let low = holds_within (λ x. is_live x.life) s.drafts d live in
    let next = (can s (Draft j tree plan) may).next in
    let same = eqb-true j d is in absurd (omega arith)
owner s by o (Made j i taken failed) d may signs live is = owed_by j d o signs is
owner s by o (Started j a taken failed) d may signs live is = owed_by j d o signs is
owner s by o (Publish j n from c) d may signs live is = owed_by j d o signs is
owner s by o (Abandon j) d may signs live is = owed_by j d o signs is
owner s by o (Stopped j a) d may signs live is =
    absurd (clash (may_stop a s.serial) (λ x m l. not_stopped s.serial x.life (first (may_stop_apps s.serial x.life) _ m) l) (slice_get s.drafts j) may (live_at s j d is live))
owner s by o (Cleaned j i) d may signs live is =
    absurd (clash (may_clean i s.retired) (λ x m l. not_cleaned s.retired x.life (first (may_clean_instances s.retired x.life) _ m) l) (slice_get s.drafts j) may (live_at s j d is live))
owner s by o e d may signs live is = absurd (off is)

-- ---- a history

-- a draft that is owed was owed before, or is made by the entry
was_or_new : (s : State) (o : Owes) (e : Entry) (d : ℕ) → allowed s e ≡ true → (owes_by o e).draft ≡ Some d → (o.draft ≡ Some d) ⊎ (d ≡ length s.drafts)
was_or_new s o (Draft j tree plan) d may is = inr (let same : j ≡ d = cc in sym same ∙ (can s (Draft j tree plan) may).next)
was_or_new s o (Publish j n from c) d may is = absurd (let h : None ≡ Some d = is in cc)
was_or_new s o (Abandon j) d may is = absurd (let h : None ≡ Some d = is in cc)
was_or_new s o e d may is = inl is

abbrev Signs : List Signed → Type 0
Signs log = IsHistory log × Untouched log × ((k d : ℕ) → (owes_of k log).draft ≡ Some d → signs_all k d log ≡ true)

at_end : (k d : ℕ) (before : List Signed) (x : Signed) → signs_all k d before ≡ true → (not (is_entry_of d x.entry) || (x.by == k)) ≡ true → signs_all k d (before ++ x ∷ []) ≡ true
at_end k d before x all last =
    list_all-append (λ y. not (is_entry_of d y.entry) || (y.by == k)) before (x ∷ [])
    ∙ both (signs_all k d before) _ all (both (not (is_entry_of d x.entry) || (x.by == k)) true last refl)

module _ (before : List Signed) (x : Signed) (may : allowed (state_at before) x.entry ≡ true) (signs : may_sign x.by (owes_of x.by before) x.entry ≡ true) (h : Signs before) (k d : ℕ) where
  after_own : x.by ≡ k → (owes_by (owes_of k before) x.entry).draft ≡ Some d → signs_all k d (before ++ x ∷ []) ≡ true
  after_own same is = at_end k d before x
      (⊎_elim (λ q. h.2 k d q) (λ q. anyone k d before (h.1 d (omega (arith, q)))) (was_or_new (state_at before) (owes_of k before) x.entry d may is))
      (right (not (is_entry_of d x.entry)) (x.by == k) (eq-eqb x.by k same))

  after_other : (owes_of k before).draft ≡ Some d → signs_all k d (before ++ x ∷ []) ≡ true
  after_other is = at_end k d before x (h.2 k d is)
      (⊎_elim
      (λ q. right (not (is_entry_of d x.entry)) (x.by == k)
      (eq-eqb x.by k ((live-owned before h.0).one x.by k d
      (owner (state_at before) x.by (owes_of x.by before) x.entry d may signs ((live-owned before h.0).alive k d is) q) is)))
      (λ q. left (not (is_entry_of d x.entry)) (x.by == k) (not-false (is_entry_of d x.entry) q)) (tells (is_entry_of d x.entry)))

  by_test : (b : Bool) → (x.by == k) ≡ b → (cond b (owes_by (owes_of k before) x.entry) (owes_of k before)).draft ≡ Some d → signs_all k d (before ++ x ∷ []) ≡ true
  by_test true same is = after_own (eqb-true x.by k same) is
  by_test false same is = after_other is

step : (before : List Signed) (x : Signed) → allowed (state_at before) x.entry ≡ true → may_sign x.by (owes_of x.by before) x.entry ≡ true → Signs before → Signs (before ++ x ∷ [])
step before x may signs h = (
  history-snoc before x h.0 may signs,
  untouched before x may h.1,
  λ k d is. by_test before x may signs h k d (x.by == k) refl (sym (ap (λ (o : Owes). o.draft) (owes-snoc k before x)) ∙ is),
)

pub owner-signs : (log : List Signed) (k d : ℕ) → IsHistory log → (owes_of k log).draft ≡ Some d → signs_all k d log ≡ true
owner-signs log k d is has = (history-along Signs step log is (record { is_legal = refl; is_signed = refl }, (λ j le. refl), λ j e q. refl)).2 k d has
