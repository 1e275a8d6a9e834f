-- What a halt comes to, with the retiring of what was current.
use Rattle.std.proofs.Common.{◌≡◌, ◌≤◌, inl, inr, ℕ, ◌+◌, ◌==◌, Bool, true, false, cond, List, [], ◌∷◌, ◌++◌, length, Option, Some, None, refl, sym, ap, ◌∙◌, arith, eq-eqb}
use Rattle.std.specs.Prelude.{◌||◌}
use Rattle.std.proofs.lemmas.List.{append-nil}
use mathlib.Core.List.{IsPrefix}
use Rattle.cd_legal.specs.declared.entry.Entry.{Entry}
use Rattle.cd_legal.specs.declared.entry.Entry.TheVariants.{Halt}
use Rattle.cd_legal.specs.declared.entry.Signed.{Signed}
use Rattle.cd_legal.specs.declared.state.State.{State}
use Rattle.cd_legal.specs.Entry.{entries}
use Rattle.cd_legal.specs.Legal.{state_at}
use Rattle.cd_legal.specs.Owing.{Owes}
use Rattle.cd_legal.specs.Placed.{Placed}
use Rattle.cd_legal.specs.Runs.{stopped_of, block_of, cleaned_all, made_in, entries_for}
use Rattle.cd_legal.specs.Signing.{IsHistory}
use Rattle.cd_legal.specs.State.{draft_of, has_number, open_at}
use Rattle.cd_legal.proofs.Logs.{prefix_trans, history-front}
use Rattle.cd_legal.proofs.Serials.{published-count, count_running}
use Rattle.cd_gate.specs.declared.view.View.{View}
use Rattle.cd_gate.specs.Duties.{without_number}
use Rattle.cd_gate.specs.Growing.{owes_after}
use Rattle.cd_gate.specs.Words.{owed}
use Rattle.cd_gate.proofs.Grown.{places_both}
use Rattle.cd_hall.specs.declared.duty.Duty.{Duty}
use Rattle.cd_hall.specs.Calls.{duties_in}
use Rattle.cd_hall.specs.Dues.{DueLater}
use Rattle.cd_hall.specs.Spread.{Spread, Spreads}
use Rattle.cd_hall.proofs.Spreading.{spread_front, spread_history}
use Rattle.cd_serve.specs.Attempts.{Works}
use Rattle.cd_serve.specs.Changes.{IsHalting}
use Rattle.cd_serve.proofs.Retirings.{block-stays}
use Rattle.cd_serve.proofs.Tries.{stopped-owe, cleans-owe}
use Rattle.cd_serve.proofs.Works.{works-spread, headed}

cleaned-for-owe : (o : Owes) (s : State) (d : Option ℕ) → owes_after o (entries_for (λ d. cleaned_all d (made_in s d)) d) ≡ o
cleaned-for-owe o s None = refl
cleaned-for-owe o s (Some d) = cleans-owe o d (made_in s d)

-- a block leaves what a pass owes
pub block-owes : (o : Owes) (s : State) (n : ℕ) → owes_after o (block_of s n) ≡ o
block-owes o s n = cleaned-for-owe o s (draft_of n s.published)

without-only : (n : ℕ) (b : Bool) → b ≡ true → cond b [] (n ∷ []) ≡ []
without-only n true is = refl
without-only n false is = cc

due-is : (b : Bool) (n m : ℕ) → n ∷ [] ≡ cond b (m ∷ []) [] → n ≡ m
due-is true n m is = cc
due-is false n m is = absurd (let h : n ∷ [] ≡ [] = is in cc)

module _ {T : Type 0} where
  -- the halt, by the state that it met
  abbrev pub Halting : View T → View T → List Signed → Type 0
  Halting v w found = Spread v w found (Halt ((state_at found).serial + 1) ∷ stopped_of (state_at found) (state_at found).serial)

  pub halts : (v w : View T) (found : List Signed) → Halting v w found → w.duties ≡ v.duties → (work : List Placed) × Works v w work × IsHalting work
  halts v w found t duties =
      let s = state_at found in
      let e : Entry = Halt (s.serial + 1) in
      let h = headed v w found e (stopped_of s s.serial) t in (
        t.added,
        works-spread v w found (e ∷ stopped_of s s.serial) t (ap (λ (o : Owes). o.ticket) (stopped-owe (owed v) s s.serial)) duties,
        record {
          halt = record { before = found; entry = e };
          stopping = h.rest;
          block = [];
          whole = h.whole ∙ ap (λ (l : List Placed). record { before = found; entry = e } ∷ l) (sym (append-nil h.rest));
          halts = refl;
          stops = h.are;
          retires = inl refl;
        },
      )

  pub halts-and-retires : (v w x : View T) (found again : List Signed) (n : ℕ) → Halting v w found → (state_at found).halted ≡ false → n ≡ (state_at found).serial → Spread w x again (block_of (state_at again) n)
      → v.duties ≡ [] → w.duties ≡ n ∷ v.duties → x.duties ≡ without_number n w.duties
      → (work : List Placed) × Works v x work × IsHalting work
  halts-and-retires v w x found again n t running is u none had left =
      let s = state_at found in
      let e : Entry = Halt (s.serial + 1) in
      let h = headed v w found e (stopped_of s s.serial) t in
      let halt : Placed = record { before = found; entry = e } in
      let front : IsPrefix found again = prefix_trans found w.seen again (spread_front v w found (e ∷ stopped_of s s.serial) t) u.seen in
      let history : IsHistory again = spread_history w x again (block_of (state_at again) n) u in
      let before : IsHistory found = history-front found again front history in
      let low : n ≤ length s.published = omega (arith, is, count_running s running (published-count (entries found) before.is_legal)) in
      let duties : x.duties ≡ [] = left ∙ (ap (λ (l : List ℕ). without_number n l) (had ∙ ap (λ (l : List ℕ). n ∷ l) none) ∙ without-only n (n == n) (eq-eqb n n refl)) in (
        t.added ++ u.added,
        record {
          places = places_both v w x t.added u.added t.places u.places;
          ticket = (ap (λ (o : Owes). o.ticket) u.grows.owes ∙ ap (λ (o : Owes). o.ticket) (block-owes (owed w) (state_at again) n)) ∙ (ap (λ (o : Owes). o.ticket) t.grows.owes ∙ ap (λ (o : Owes). o.ticket) (stopped-owe (owed v) s s.serial));
          duties = duties ∙ sym none;
        },
        record {
          halt = halt;
          stopping = h.rest;
          block = u.added;
          whole = ap (λ (l : List Placed). l ++ u.added) h.whole;
          halts = refl;
          stops = h.are;
          retires = inr (u.are ∙ (block-stays found again n front history.is_legal low ∙ ap (λ (i : ℕ). block_of s i) is));
        },
      )

  -- by the duty that came, if one did
  abbrev pub HaltedBy : View T → View T → Option Duty → Type 0
  HaltedBy v w d = (found : List Signed) × Halting v w found × ((state_at found).halted ≡ false) × DueLater w.seen (state_at found).serial (duties_in d) × (w.duties ≡ duties_in d ++ v.duties)

  pub has-duty : (v w : View T) (d : Option Duty) (duty : Duty) → d ≡ Some duty → v.duties ≡ [] → HaltedBy v w d → has_number duty.serial w.duties ≡ true
  has-duty v w d duty is none h =
      let all : w.duties ≡ duty.serial ∷ [] = h.4 ∙ (ap (λ (o : Option Duty). duties_in o ++ v.duties) is ∙ ap (λ (l : List ℕ). duty.serial ∷ l) none) in
      ap (λ (l : List ℕ). has_number duty.serial l) all ∙ ap (λ (b : Bool). b || false) (eq-eqb duty.serial duty.serial refl)

  pub halts-with : (v w x : View T) (d : Option Duty) (duty : Duty) → d ≡ Some duty → v.duties ≡ [] → HaltedBy v w d → Spreads w x (λ s. block_of s duty.serial) → x.duties ≡ without_number duty.serial w.duties
      → (work : List Placed) × Works v x work × IsHalting work
  halts-with v w x d duty is none h r left =
      let n : ℕ = (state_at h.0).serial in
      let same : duty.serial ∷ [] ≡ cond (open_at n (state_at h.3.later).tickets == 0) (n ∷ []) [] = ap duties_in (sym is) ∙ h.3.due in
      halts-and-retires v w x h.0 r.0 duty.serial h.1 h.2 (due-is (open_at n (state_at h.3.later).tickets == 0) duty.serial n same) r.1 none (h.4 ∙ ap (λ (o : Option Duty). duties_in o ++ v.duties) is) left

  pub halts-without : (v w : View T) (d : Option Duty) → d ≡ None → HaltedBy v w d → (work : List Placed) × Works v w work × IsHalting work
  halts-without v w d is h = halts v w h.0 h.1 (h.4 ∙ ap (λ (o : Option Duty). duties_in o ++ v.duties) is)

  pub draft-halting : (v w : View T) (found : List Signed) → Halting v w found → w.draft ≡ v.draft
  draft-halting v w found t = ap (λ (o : Owes). o.draft) t.grows.owes ∙ ap (λ (o : Owes). o.draft) (stopped-owe (owed v) (state_at found) (state_at found).serial)

  pub draft-retiring : (w x : View T) (n : ℕ) → Spreads w x (λ s. block_of s n) → x.draft ≡ w.draft
  draft-retiring w x n r = ap (λ (o : Owes). o.draft) r.1.grows.owes ∙ ap (λ (o : Owes). o.draft) (block-owes (owed w) (state_at r.0) n)
