-- What the rule says while a view says that the coming serial is ready.
use Rattle.std.proofs.Common.{◌≡◌, ℕ, ◌+◌, ◌%◌, ◌≤◌, true, false, true≢false, not, slice_index, List, None, sym, ap, ◌∙◌, ⊎_elim, arith}
use Rattle.std.proofs.lemmas.Bool.{eqb-true}
use mathlib.Core.Option.{some}
use lib.ListN.{get_elem?}
use Rattle.cd_legal.specs.declared.entry.Signed.{Signed}
use Rattle.cd_legal.specs.declared.state.State.{State}
use Rattle.cd_legal.specs.Legal.{state_at}
use Rattle.cd_legal.specs.State.{has_number}
use Rattle.cd_legal.proofs.Facts.{is-false}
use Rattle.cd_legal.proofs.Histories.{first, second}
use Rattle.cd_legal.specs.declared.limits.TheConstants.{MAX_UNRETIRED}
use Rattle.cd_gate.specs.declared.table.TheConstants.{FULL_BALANCE}
use Rattle.cd_gate.specs.declared.view.View.{View}
use Rattle.cd_gate.specs.Counts.{is_ready}
use Rattle.cd_gate.specs.Rule.{IsKept}
use Rattle.cd_gate.specs.Words.{Moment}
use Rattle.cd_gate.proofs.Numbers.{tells}

module _ {T : Type 0} (stands : T → T → List Signed → Type 0) (opening : T) (log : List Signed) (m : Moment T) (r : IsKept stands opening log m) (id : ℕ) (v : View T) (at : get_elem? m.views id ≡ some v) (ready : v.ready ≡ true) where
  abbrev s : State
  s = state_at log

  pub ready_turn : v.turn ≡ true
  ready_turn = ⊎_elim (λ q. q) (λ q. absurd (true≢false (sym ready ∙ ((r.each id v at).waits q).1))) (tells v.turn)

  is_now : is_ready s r.edge ≡ true
  is_now = sym ((r.each id v at).holds ready_turn).4 ∙ ready

  edge_is : r.edge ≡ s.serial + 1
  edge_is = eqb-true r.edge (s.serial + 1) (second (not s.halted) _ is_now)

  pub ready_quiet : r.unsettled ≡ None
  ready_quiet = r.order.ready_alone is_now

  pub ready_runs : s.halted ≡ false
  ready_runs = is-false s.halted (first (not s.halted) _ is_now)

  pub ready_full : slice_index m.balances (1 + (s.serial + 1) % MAX_UNRETIRED) ≡ FULL_BALANCE
  ready_full = ap (λ (z : ℕ). slice_index m.balances (1 + z % MAX_UNRETIRED)) (sym edge_is) ∙ r.counts.coming is_now

  pub ready_reused : (n : ℕ) → n + MAX_UNRETIRED ≡ s.serial + 1 → has_number n s.retired ≡ true
  ready_reused n last = r.order.reused n (low n s.serial r.edge last edge_is)
    where
      low : (n x e : ℕ) → n + MAX_UNRETIRED ≡ x + 1 → e ≡ x + 1 → n + MAX_UNRETIRED ≤ e
      low n x e p q = omega arith
