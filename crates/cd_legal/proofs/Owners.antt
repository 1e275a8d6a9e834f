-- The live drafts of a history are those that its passes owe, each by one.
use Rattle.std.proofs.Common.{◌≡◌, ◌≢◌, ◌⊎◌, inl, inr, ℕ, ◌==◌, Bool, true, false, cond, List, [], ◌∷◌, ◌++◌, length, slice_get, Option, Some, None, option_map, refl, sym, ap, ◌∙◌, ⊎_elim, arith, eq-eqb, ne_eqb}
use Rattle.std.specs.Prelude.{is_none}
use Rattle.std.proofs.lemmas.Bool.{eqb-true}
use Rattle.std.proofs.lemmas.Bool.Decides.{eqb_tells}
use Rattle.std.proofs.lemmas.Option.{slice_get_past}
use Rattle.cd_legal.specs.declared.part.Part.TheVariants.{Instance, App}
use Rattle.cd_legal.specs.declared.entry.Entry.{Entry}
use Rattle.cd_legal.specs.declared.entry.Entry.TheVariants.{Draft, Made, Started, Publish, Abandon, Stopped, Cleaned}
use Rattle.cd_legal.specs.declared.entry.Signed.{Signed}
use Rattle.cd_legal.specs.declared.state.State.{State}
use Rattle.cd_legal.specs.declared.state.Drafted.{Drafted}
use Rattle.cd_legal.specs.declared.state.Life.TheVariants.{Published, Abandoned}
use Rattle.cd_legal.specs.State.{holds, change_at, is_live, new_draft}
use Rattle.cd_legal.specs.Legal.{allowed, after, state_at, may_open, may_stop, may_clean}
use Rattle.cd_legal.specs.Owing.{Owes, owes_by, owes_of}
use Rattle.cd_legal.specs.Signing.{owes_draft, may_sign, is_live_in, IsHistory}
use Rattle.cd_legal.proofs.Facts.{can}
use Rattle.cd_legal.proofs.Places.{get_change_same, get_change_other}
use Rattle.cd_legal.proofs.Logs.{state-snoc, history-along}
use Rattle.cd_legal.proofs.Owing.{owes-snoc}
use Rattle.cd_legal.proofs.Serials.{get_last, holds_same}
use Rattle.cd_legal.proofs.Leaving.{slice_get-push_other}

-- what each owes, and what is live: each draft that is owed is live and owed by one, and each live one is owed
pub record AreOwed (owed : ℕ → Option ℕ) (live : ℕ → Bool) : Type 0 where
  pub alive : (k d : ℕ) → owed k ≡ Some d → live d ≡ true
  pub one : (j k d : ℕ) → owed j ≡ Some d → owed k ≡ Some d → j ≡ k
  pub owner : (d : ℕ) → live d ≡ true → (k : ℕ) × (owed k ≡ Some d)

-- the same said of equals
same : (owed owed' : ℕ → Option ℕ) (live live' : ℕ → Bool) → ((k : ℕ) → owed' k ≡ owed k) → ((d : ℕ) → live' d ≡ live d) → AreOwed owed live → AreOwed owed' live'
same owed owed' live live' o l a = record {
  alive = λ k d e. l d ∙ a.alive k d (sym (o k) ∙ e);
  one = λ j k d e f. a.one j k d (sym (o j) ∙ e) (sym (o k) ∙ f);
  owner = λ d e. let k = a.owner d (sym (l d) ∙ e) in (k.0, o k.0 ∙ k.1);
}

differ : (live : ℕ → Bool) (j d : ℕ) → live j ≡ true → live d ≡ false → j ≢ d
differ live j d is none = λ e. absurd (let h : true ≡ false = sym is ∙ (ap live e ∙ none) in cc)

-- one pass owes something new
module _ (owed owed' : ℕ → Option ℕ) (by : ℕ) (new : Option ℕ) (is : (k : ℕ) → owed' k ≡ cond (by == k) new (owed k)) where
  own : owed' by ≡ new
  own = is by ∙ ap (λ (b : Bool). cond b new (owed by)) (eq-eqb by by refl)

  others : (k : ℕ) → by ≢ k → owed' k ≡ owed k
  others k ne = is k ∙ ap (λ (b : Bool). cond b new (owed k)) (ne_eqb by k ne)

  splits : (k d : ℕ) → owed' k ≡ Some d → ((by ≡ k) × (new ≡ Some d)) ⊎ ((by ≢ k) × (owed k ≡ Some d))
  splits k d e = ⊎_elim
      (λ q. inl (q.1, sym (is k ∙ ap (λ (b : Bool). cond b new (owed k)) q.0) ∙ e))
      (λ q. inr (q.1, sym (others k q.1) ∙ e)) (eqb_tells by k)

-- a draft that is made
module _ (owed owed' : ℕ → Option ℕ) (live live' : ℕ → Bool) (by d : ℕ) (is : (k : ℕ) → owed' k ≡ cond (by == k) (Some d) (owed k))
    (free : owed by ≡ None) (fresh : live d ≡ false) (now : live' d ≡ true) (rest : (j : ℕ) → j ≢ d → live' j ≡ live j) (a : AreOwed owed live) where
  apart : (k j : ℕ) → owed k ≡ Some j → d ≢ j
  apart k j e = λ f. differ live j d (a.alive k j e) fresh (sym f)

  added : AreOwed owed' live'
  added = record {
    alive = λ k j e. ⊎_elim
        (λ q. let f : d ≡ j = (let h : Some d ≡ Some j = q.1 in cc) in ap live' (sym f) ∙ now)
        (λ q. rest j (λ f. apart k j q.1 (sym f)) ∙ a.alive k j q.1) (splits owed owed' by (Some d) is k j e);
    one = λ i k j e f. ⊎_elim
        (λ p. ⊎_elim (λ q. sym p.0 ∙ q.0) (λ q. absurd (apart k j q.1 (let h : Some d ≡ Some j = p.1 in cc))) (splits owed owed' by (Some d) is k j f))
        (λ p. ⊎_elim (λ q. absurd (apart i j p.1 (let h : Some d ≡ Some j = q.1 in cc))) (λ q. a.one i k j p.1 q.1) (splits owed owed' by (Some d) is k j f)) (splits owed owed' by (Some d) is i j e);
    owner = λ j l. ⊎_elim
        (λ q. (by, own owed owed' by (Some d) is ∙ ap (λ (z : ℕ). Some z) (sym q.1)))
        (λ q. let k = a.owner j (sym (rest j q.1) ∙ l) in
        (k.0, others owed owed' by (Some d) is k.0 (λ f. absurd (let h : None ≡ Some j = sym free ∙ (ap owed f ∙ k.1) in cc)) ∙ k.1)) (eqb_tells j d);
  }

-- a draft that is published or abandoned
module _ (owed owed' : ℕ → Option ℕ) (live live' : ℕ → Bool) (by d : ℕ) (is : (k : ℕ) → owed' k ≡ cond (by == k) None (owed k))
    (had : owed by ≡ Some d) (gone : live' d ≡ false) (rest : (j : ℕ) → j ≢ d → live' j ≡ live j) (a : AreOwed owed live) where
  kept : (k j : ℕ) → owed' k ≡ Some j → (by ≢ k) × (owed k ≡ Some j)
  kept k j e = ⊎_elim (λ q. absurd (let h : None ≡ Some j = q.1 in cc)) (λ q. q) (splits owed owed' by None is k j e)

  ended : AreOwed owed' live'
  ended = record {
    alive = λ k j e. let q = kept k j e in rest j (λ f. q.0 (a.one by k d had (q.1 ∙ ap (λ (z : ℕ). Some z) f))) ∙ a.alive k j q.1;
    one = λ i k j e f. a.one i k j (kept i j e).1 (kept k j f).1;
    owner = λ j l.
        let ne : j ≢ d = differ live' j d l gone in
        let k = a.owner j (sym (rest j ne) ∙ l) in
        (k.0, others owed owed' by None is k.0 (λ f. ne (let h : Some d ≡ Some j = sym had ∙ (ap owed f ∙ k.1) in cc)) ∙ k.1);
  }

-- ---- one entry

draft_if : (b : Bool) (p o : Owes) → (cond b p o).draft ≡ cond b p.draft o.draft
draft_if true p o = refl
draft_if false p o = refl

draft_same : (b : Bool) (p o : Owes) → p.draft ≡ o.draft → (cond b p o).draft ≡ o.draft
draft_same true p o e = e
draft_same false p o e = refl

none_is : (o : Option ℕ) → is_none o ≡ true → o ≡ None
none_is None e = refl
none_is (Some d) e = cc

draft_is : (d : ℕ) (o : Option ℕ) → holds (λ own. own == d) o ≡ true → o ≡ Some d
draft_is d None e = cc
draft_is d (Some n) e = ap (λ (z : ℕ). Some z) (eqb-true n d e)

none_live : (f : Drafted → Drafted) → ((x : Drafted) → is_live (f x).life ≡ false) → (o : Option Drafted) → holds (λ x. is_live x.life) (option_map f o) ≡ false
none_live f none None = refl
none_live f none (Some x) = none x

abbrev changes_life : Entry → Bool
changes_life (Draft d tree plan) = true
changes_life (Publish d n from c) = true
changes_life (Abandon d) = true
changes_life e = false

-- no other entry changes which drafts are live
same_live : (s : State) (e : Entry) (d : ℕ) → allowed s e ≡ true → changes_life e ≡ false → is_live_in (after s e) d ≡ is_live_in s d
same_live s (Draft j tree plan) d may is = cc
same_live s (Publish j n from c) d may is = cc
same_live s (Abandon j) d may is = cc
same_live s (Made j i taken failed) d may is = holds_same (λ x. is_live x.life) (may_open Instance i taken failed s.pairs) _ (λ x m. refl) s.drafts j d may
same_live s (Started j a taken failed) d may is = holds_same (λ x. is_live x.life) (may_open App a taken failed s.pairs) _ (λ x m. refl) s.drafts j d may
same_live s (Stopped j a) d may is = holds_same (λ x. is_live x.life) (may_stop a s.serial) _ (λ x m. refl) s.drafts j d may
same_live s (Cleaned j i) d may is = holds_same (λ x. is_live x.life) (may_clean i s.retired) _ (λ x m. refl) s.drafts j d may
same_live s e d may is = refl

-- a life that is not live, given to a draft that the pass owes
life_ends : (s : State) (o : ℕ → Owes) (by d : ℕ) (f : Drafted → Drafted) (p : ℕ → Owes) → ((x : Drafted) → is_live (f x).life ≡ false) → ((k : ℕ) → (p k).draft ≡ None) → owes_draft d (o by) ≡ true → AreOwed (λ k. (o k).draft) (is_live_in s)
    → AreOwed (λ k. (cond (by == k) (p k) (o k)).draft) (λ j. holds (λ x. is_live x.life) (slice_get (change_at f d s.drafts) j))
life_ends s o by d f p none left signs a =
    ended (λ k. (o k).draft) (λ k. (cond (by == k) (p k) (o k)).draft) (is_live_in s) (λ j. holds (λ x. is_live x.life) (slice_get (change_at f d s.drafts) j)) by d
    (λ k. draft_if (by == k) (p k) (o k) ∙ ap (λ (z : Option ℕ). cond (by == k) z (o k).draft) (left k))
    (draft_is d (o by).draft signs)
    (ap (holds (λ (x : Drafted). is_live x.life)) (get_change_same f s.drafts d) ∙ none_live f none (slice_get s.drafts d))
    (λ j ne. ap (holds (λ (x : Drafted). is_live x.life)) (get_change_other f s.drafts d j ne)) a

step : (s : State) (o : ℕ → Owes) (by : ℕ) (e : Entry) → allowed s e ≡ true → may_sign by (o by) e ≡ true → AreOwed (λ k. (o k).draft) (is_live_in s) → AreOwed (λ k. (cond (by == k) (owes_by (o k) e) (o k)).draft) (is_live_in (after s e))
step s o by (Draft d tree plan) may signs a =
    let next = (can s (Draft d tree plan) may).next in
    added (λ k. (o k).draft) (λ k. (cond (by == k) (owes_by (o k) (Draft d tree plan)) (o k)).draft) (is_live_in s) (is_live_in (after s (Draft d tree plan))) by d
    (λ k. draft_if (by == k) (owes_by (o k) (Draft d tree plan)) (o k)) (none_is (o by).draft signs)
    (ap (is_live_in s) next ∙ ap (holds (λ (x : Drafted). is_live x.life)) (slice_get_past s.drafts (length s.drafts) (omega arith)))
    (ap (is_live_in (after s (Draft d tree plan))) next ∙ ap (holds (λ (x : Drafted). is_live x.life)) (get_last s.drafts (new_draft tree plan)))
    (λ j ne. ap (holds (λ (x : Drafted). is_live x.life)) (slice_get-push_other s.drafts (new_draft tree plan) j (λ f. ne (f ∙ sym next)))) a
step s o by (Publish d n from c) may signs a = life_ends s o by d (λ x. record x { life = Published n }) (λ k. owes_by (o k) (Publish d n from c)) (λ x. refl) (λ k. refl) signs a
step s o by (Abandon d) may signs a = life_ends s o by d (λ x. record x { life = Abandoned }) (λ k. owes_by (o k) (Abandon d)) (λ x. refl) (λ k. refl) signs a
step s o by e may signs a = same (λ k. (o k).draft) _ (is_live_in s) _ (λ k. draft_same (by == k) (owes_by (o k) e) (o k) refl) (λ d. same_live s e d may refl) a

-- ---- a history

abbrev HasOwners : List Signed → Type 0
HasOwners log = AreOwed (λ k. (owes_of k log).draft) (is_live_in (state_at log))

longer : (before : List Signed) (x : Signed) → allowed (state_at before) x.entry ≡ true → may_sign x.by (owes_of x.by before) x.entry ≡ true → HasOwners before → HasOwners (before ++ x ∷ [])
longer before x may signs a =
    same _ (λ k. (owes_of k (before ++ x ∷ [])).draft) _ (is_live_in (state_at (before ++ x ∷ [])))
    (λ k. ap (λ (o : Owes). o.draft) (owes-snoc k before x)) (λ d. ap (λ (s : State). is_live_in s d) (state-snoc before x))
    (step (state_at before) (λ k. owes_of k before) x.by x.entry may signs a)

no_draft : (d : ℕ) → is_live_in (state_at []) d ≡ true → false ≡ true
no_draft d e = e

pub live-owned : (log : List Signed) → IsHistory log → HasOwners log
live-owned log is = history-along HasOwners longer log is record {
  alive = λ k d e. cc;
  one = λ j k d e f. cc;
  owner = λ d e. absurd (let h : false ≡ true = no_draft d e in cc);
}
