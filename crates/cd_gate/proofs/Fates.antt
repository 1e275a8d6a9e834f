-- What becomes of a superseded serial.
use Rattle.std.proofs.Common.{◌≡◌, ◌≢◌, ◌⊎◌, inl, inr, ℕ, ◌+◌, ◌<◌, true, true≢false, not, slice_index, List, Option, Some, None, sym, ap, ◌∙◌, ⊎_elim}
use mathlib.Core.Logic.{dite}
use native.Mathlib.Decide.{ℕ_discrete}
use Rattle.cd_legal.specs.declared.entry.Signed.{Signed}
use Rattle.cd_legal.specs.declared.state.State.{State}
use Rattle.cd_legal.specs.Entry.{entries}
use Rattle.cd_legal.specs.Legal.{state_at, may_retire}
use Rattle.cd_legal.specs.State.{has_number, is_ticketed}
use Rattle.cd_legal.proofs.Facts.{not-false}
use Rattle.cd_legal.proofs.Histories.{both}
use Rattle.cd_legal.specs.declared.limits.TheConstants.{MAX_UNRETIRED}
use Rattle.cd_gate.specs.Counts.{place_of}
use Rattle.cd_gate.specs.Duties.{is_settled, is_due}
use Rattle.cd_gate.specs.Rule.{IsKept, Fate}
use Rattle.cd_gate.specs.Words.{Moment}
use Rattle.cd_gate.proofs.Balances.{settled_is}
use Rattle.cd_gate.proofs.Numbers.{tells}
use Rattle.cd_gate.proofs.Orders.{due_retires}
use Rattle.cd_gate.proofs.Tickets.{retired-free}

module _ {T : Type 0} (stands : T → T → List Signed → Type 0) (opening : T) (log : List Signed) (m : Moment T) (r : IsKept stands opening log m) (n : ℕ) where
  abbrev s : State
  s = state_at log

  abbrev IsFate : Type 0
  IsFate = Fate s r.unsettled m.views n

  settled_fate : is_settled s r.unsettled n ≡ true → IsFate
  settled_fate done = ⊎_elim
      (λ old. Fate.Retired done old)
      (λ new. ⊎_elim
      (λ open_now. Fate.Running done new open_now)
      (λ none. let due : is_due s r.unsettled n ≡ true = both (is_settled s r.unsettled n) _ done (both (not (has_number n s.retired)) _ (not-false (has_number n s.retired) new) (not-false (is_ticketed n s.tickets) none)) in
      Fate.Due due (r.duties.whole n due)) (tells (is_ticketed n s.tickets)))
      (tells (has_number n s.retired))

  unsettled_or : (o : Option ℕ) → (o ≡ Some n) ⊎ (o ≢ Some n)
  unsettled_or None = inr (λ e. absurd (let h : ◌≡◌ {A = Option ℕ} None (Some n) = e in cc))
  unsettled_or (Some k) = dite (ℕ_discrete k n) (λ e. inl (ap (λ (z : ℕ). Some z) e)) (λ ne. inr (λ e. ne (same k n e)))
    where
      same : (x y : ℕ) → ◌≡◌ {A = Option ℕ} (Some x) (Some y) → x ≡ y
      same x y e = cc

  pub fate : n < s.serial → IsFate
  fate low = ⊎_elim (λ is_unsettled. Fate.Pending is_unsettled (r.order.fresh n is_unsettled)) (λ ne. settled_fate (settled_is s r.unsettled n low ne)) (unsettled_or r.unsettled)

  -- what is due may be retired
  pub duty_allowed : is_due s r.unsettled n ≡ true → may_retire s n ≡ true
  duty_allowed due = due_retires s r.unsettled r.edge r.order n due

  -- a retired serial has an empty balance, until it is used again
  pub retired_empty : has_number n s.retired ≡ true → r.edge < n + MAX_UNRETIRED → slice_index m.balances (place_of s n) ≡ 0
  retired_empty is used =
      let free = retired-free (entries log) n r.history.is_legal is in
      let done = settled_is s r.unsettled n free.0 (λ e. true≢false (sym is ∙ r.order.fresh n e)) in
      r.counts.settled n used done ∙ free.1
