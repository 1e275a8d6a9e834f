-- The order of the serials after each step.
use Rattle.std.proofs.Common.{◌≡◌, ◌≢◌, ℕ, ◌+◌, ◌<◌, ◌≤◌, ◌==◌, Bool, true, false, not, cond, nat_lt, Option, Some, None, refl, sym, ap, ◌∙◌, subst, arith}
use Rattle.std.specs.Prelude.{◌&&◌}
use mathlib.Core.Logic.{dite}
use native.Mathlib.Decide.{ℕ_discrete}
use Rattle.cd_legal.specs.declared.limits.TheConstants.{LAST_SERIAL, MAX_UNRETIRED}
use Rattle.cd_legal.specs.declared.state.State.{State}
use Rattle.cd_legal.specs.State.{has_number, apps_stopped}
use Rattle.cd_legal.specs.Legal.{may_retire}
use Rattle.cd_legal.proofs.Facts.{less-is}
use Rattle.cd_legal.proofs.Histories.{both, first, second}
use Rattle.cd_gate.specs.Counts.{Ordered, is_ready}
use Rattle.cd_gate.specs.Duties.{is_at, is_settled, is_due}
use Rattle.cd_gate.proofs.Balances.{settled_low, settled_not, settled_is}
use Rattle.cd_gate.proofs.Numbers.{off, some_is, none_some}

module _ (s : State) (unsettled : Option ℕ) (edge : ℕ) (o : Ordered s unsettled edge) where
  -- what is due may be retired
  pub due_retires : (n : ℕ) → is_due s unsettled n ≡ true → may_retire s n ≡ true
  due_retires n due =
      let done = first (is_settled s unsettled n) _ due in
      let rest = second (is_settled s unsettled n) _ due in
      both _ _ (less-is n s.serial (settled_low s unsettled n done)) (both _ _ (first (not (has_number n s.retired)) _ rest) (both _ _ (o.stopped n done) (second (not (has_number n s.retired)) _ rest)))

  pub ordered_same : (t : State) → t.serial ≡ s.serial → t.halted ≡ s.halted → ((n : ℕ) → has_number n s.retired ≡ true → has_number n t.retired ≡ true) → ((n : ℕ) → unsettled ≡ Some n → has_number n t.retired ≡ false)
      → ((n : ℕ) → n < s.serial → apps_stopped s n ≡ true → apps_stopped t n ≡ true) → Ordered t unsettled edge
  ordered_same t serial halted retired fresh stopped = record {
    last = λ n is. o.last n is ∙ sym serial;
    fresh = fresh;
    stopped = λ n is. let was : is_settled s unsettled n ≡ true = ap (λ (z : ℕ). nat_lt n z && not (is_at n unsettled)) (sym serial) ∙ is in
        stopped n (settled_low s unsettled n was) (o.stopped n was);
    low = subst (λ (z : ℕ × Bool). z.0 ≤ edge + cond z.1 1 0) (λ i. (sym serial i, sym halted i)) o.low;
    high = subst (λ (z : ℕ × Bool). edge + cond z.1 1 0 ≤ z.0 + 1) (λ i. (sym serial i, sym halted i)) o.high;
    reused = λ n le. retired n (o.reused n le);
    room = subst (λ (z : ℕ × Bool). z.0 ≤ LAST_SERIAL + cond z.1 1 0) (λ i. (sym serial i, sym halted i)) o.room;
    ready_alone = λ ready. o.ready_alone (ap (λ (z : ℕ × Bool). not z.1 && (edge == z.0 + 1)) (λ i. (sym serial i, sym halted i)) ∙ ready);
  }

  pub ordered_reset : s.halted ≡ false → unsettled ≡ None → ((n : ℕ) → n + MAX_UNRETIRED ≡ s.serial + 1 → has_number n s.retired ≡ true) → Ordered s unsettled (s.serial + 1)
  ordered_reset on quiet free = record {
    last = o.last;
    fresh = o.fresh;
    stopped = o.stopped;
    low = less s.serial (cond s.halted 1 0);
    high = same s.serial (cond s.halted 1 0) (ap (λ (b : Bool). cond {A = ℕ} b 1 0) on);
    reused = λ n le. dite (ℕ_discrete (n + MAX_UNRETIRED) (s.serial + 1))
        (λ e. free n e)
        (λ ne. o.reused n (earlier n s.serial edge (cond s.halted 1 0) le ne o.low (ap (λ (b : Bool). cond {A = ℕ} b 1 0) on)));
    room = o.room;
    ready_alone = λ _. quiet;
  }
    where
      less : (x c : ℕ) → x ≤ (x + 1) + c
      less x c = omega arith

      same : (x c : ℕ) → c ≡ 0 → (x + 1) + c ≤ x + 1
      same x c e = omega arith

      earlier : (n x e c : ℕ) → n + MAX_UNRETIRED ≤ x + 1 → n + MAX_UNRETIRED ≢ x + 1 → x ≤ e + c → c ≡ 0 → n + MAX_UNRETIRED ≤ e
      earlier n x e c le ne low none = grind arith

  pub ordered_superseded : (t : State) → unsettled ≡ None → t.serial ≡ s.serial + 1 → ((n : ℕ) → has_number n s.retired ≡ true → has_number n t.retired ≡ true) → has_number s.serial t.retired ≡ false
      → ((n : ℕ) → n < s.serial → apps_stopped s n ≡ true → apps_stopped t n ≡ true)
      → s.serial + 1 ≤ edge + cond t.halted 1 0 → edge + cond t.halted 1 0 ≤ s.serial + 2 → s.serial + 1 ≤ LAST_SERIAL + cond t.halted 1 0 → is_ready t edge ≡ false → Ordered t (Some s.serial) edge
  ordered_superseded t none next retired fresh stopped low high room unready = record {
    last = λ n is. ap (λ (z : ℕ). z + 1) (some_is n s.serial (sym is)) ∙ sym next;
    fresh = λ n is. ap (λ (z : ℕ). has_number z t.retired) (some_is n s.serial (sym is)) ∙ fresh;
    stopped = λ n is. let below = less_by n s.serial t.serial next (settled_low t (Some s.serial) n is) (λ e. settled_not t (Some s.serial) n is (ap (λ (z : ℕ). Some z) (sym e))) in
        stopped n below (o.stopped n (settled_is s unsettled n below (λ e. none_some n (sym none ∙ e))));
    low = subst (λ (z : ℕ). z ≤ edge + cond t.halted 1 0) (sym next) low;
    high = subst (λ (z : ℕ). edge + cond t.halted 1 0 ≤ z + 1) (sym next) (two edge (cond t.halted 1 0) s.serial high);
    reused = λ n le. retired n (o.reused n le);
    room = subst (λ (z : ℕ). z ≤ LAST_SERIAL + cond t.halted 1 0) (sym next) room;
    ready_alone = λ ready. absurd (off (sym unready ∙ ready));
  }
    where
      less_by : (n x y : ℕ) → y ≡ x + 1 → n < y → n ≢ x → n < x
      less_by n x y e low ne = grind arith

      two : (e c x : ℕ) → e + c ≤ x + 2 → e + c ≤ (x + 1) + 1
      two e c x le = omega arith

  pub ordered_settle : (n : ℕ) → unsettled ≡ Some n → apps_stopped s n ≡ true → Ordered s None edge
  ordered_settle n is_unsettled done = record {
    last = λ m is. absurd (none_some m is);
    fresh = λ m is. absurd (none_some m is);
    stopped = λ m is. dite (ℕ_discrete m n)
        (λ e. ap (apps_stopped s) e ∙ done)
        (λ ne. o.stopped m (settled_is s unsettled m (settled_low s None m is) (λ e. ne (some_is m n (sym e ∙ is_unsettled)))));
    low = o.low;
    high = o.high;
    reused = o.reused;
    room = o.room;
    ready_alone = λ _. refl;
  }
