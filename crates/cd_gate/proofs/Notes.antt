-- An entry is noted.
use Rattle.std.proofs.Common.{◌≡◌, ℕ, ◌+◌, ◌%◌, ◌^◌, ◌≤◌, ◌==◌, Bool, true, false, not, cond, nat_lt, List, [], ◌∷◌, ◌++◌, set, Some, refl, sym, ap, ◌∙◌, subst, arith, ne_eqb}
use Rattle.std.specs.Prelude.{◌&&◌}
use mathlib.Core.Option.{some}
use lib.ListN.{get_elem?}
use Rattle.atomic_table.proofs.Lists.{set_here}
use Rattle.cd_legal.specs.declared.entry.Entry.{Entry}
use Rattle.cd_legal.specs.declared.entry.Entry.TheVariants.{Retire, Begin, Finish}
use Rattle.cd_legal.specs.declared.entry.Signed.{Signed}
use Rattle.cd_legal.specs.declared.state.State.{State}
use Rattle.cd_legal.specs.Entry.{signed, entries}
use Rattle.cd_legal.specs.Legal.{allowed, after, state_at}
use Rattle.cd_legal.specs.Owing.{Owes}
use Rattle.cd_legal.specs.Signing.{IsHistory, may_sign}
use Rattle.cd_legal.specs.State.{has_number, is_ticketed}
use Rattle.cd_legal.proofs.Cores.{is_apart}
use Rattle.cd_legal.proofs.Facts.{allowed-by, is-false}
use Rattle.cd_legal.proofs.Histories.{first, second}
use Rattle.cd_legal.proofs.Logs.{history-snoc, state-snoc}
use Rattle.cd_legal.proofs.Serials.{legal-agree}
use Rattle.cd_gate.specs.declared.view.View.{View}
use Rattle.cd_gate.specs.Counts.{is_ready, is_noted, noted_in, Counts, Ordered, Crowd, begins_in}
use Rattle.cd_gate.specs.Duties.{is_settled, is_due, duties_after, without_number}
use Rattle.cd_gate.specs.Rule.{Fits, Dutiful, IsKept}
use Rattle.cd_gate.specs.Steps.{may_follow, may_note, noted, note}
use Rattle.cd_gate.specs.Words.{Moment, owed}
use Rattle.cd_gate.proofs.Balances.{settled_low, settled_not, counts_same}
use Rattle.cd_gate.proofs.Dues.{duties_same, duties_ended}
use Rattle.cd_gate.proofs.Entries.{Quiet, quiet, retired_stays, retired_same, retires_none, Kind, kind_of, follows_plain, allowed_same, begins_noted, noted_more}
use Rattle.cd_gate.proofs.Frames.{goes_on, others_wait, fits_more, next, not_free}
use Rattle.cd_gate.proofs.Numbers.{has_append, has_this, right, off}
use Rattle.cd_gate.proofs.Requesting.{crowd_same}
use Rattle.cd_gate.proofs.Retiring.{retires, apps_stay}
use Rattle.cd_gate.proofs.Views.{in_range}

-- the count goes on, and begins again at its end
counts_on : (c n more : ℕ) → c ≡ n % 2 ^ 64 → more ≡ n + 1 → (c + 1) % 2 ^ 64 ≡ more % 2 ^ 64
counts_on c n more is next = omega arith

-- only a Retire ends a duty
ends_none : (duties : List ℕ) (e : Entry) → is_apart e ≡ true → duties_after duties e ≡ duties
ends_none duties (Retire n) is = absurd (off is)
ends_none duties e is = refl

module _ {T : Type 0} (stands : T → T → List Signed → Type 0) (opening : T) (log : List Signed) (m : Moment T) (r : IsKept stands opening log m) (id : ℕ) (v : View T) (e : Entry) (at : get_elem? m.views id ≡ some v) (has : v.turn ≡ true) (may : may_note v e ≡ true) where
  abbrev s : State
  s = state_at log

  abbrev log' : List Signed
  log' = log ++ signed v.number e ∷ []

  abbrev w : View T
  w = noted v log e

  fit : Fits opening m.turn log r.unsettled r.edge v
  fit = r.each id v at

  live : v.live ≡ true
  live = (fit.holds has).0

  is : is_noted e ≡ true
  is = first (is_noted e) _ may

  follows : may_follow v.duties (state_at v.seen) e ≡ true
  follows = first (may_follow v.duties (state_at v.seen) e) _ (second (is_noted e) _ may)

  signs : may_sign v.number (owed v) e ≡ true
  signs = second (may_follow v.duties (state_at v.seen) e) _ (second (is_noted e) _ may)

  state_now : state_at log' ≡ after s e
  state_now = state-snoc log (signed v.number e)

  -- a duty may be retired
  due_of : (n : ℕ) → has_number n v.duties ≡ true → is_due s r.unsettled n ≡ true
  due_of n h = r.duties.sound id v n at live h

  pub retires_due : (n : ℕ) → is_due s r.unsettled n ≡ true → allowed s (Retire n) ≡ true
  retires_due n due =
      let set_it = first (is_settled s r.unsettled n) _ due in
      let rest = second (is_settled s r.unsettled n) _ due in
      allowed-by s (Retire n) (record {
        superseded = settled_low s r.unsettled n set_it;
        unretired = is-false (has_number n s.retired) (first (not (has_number n s.retired)) _ rest);
        stopped = r.order.stopped n set_it;
        unticketed = is-false (is_ticketed n s.tickets) (second (not (has_number n s.retired)) _ rest);
      })

  allows_by : Kind e → allowed s e ≡ true
  allows_by (Kind.plain apart) = allowed_same v.seen log e apart (sym (fit.holds has).2) ∙ (sym (follows_plain v.duties (state_at v.seen) e apart) ∙ follows)
  allows_by (Kind.retire n same) = ap (allowed s) same ∙ retires_due n (due_of n (ap (may_follow v.duties (state_at v.seen)) (sym same) ∙ follows))

  pub allows : allowed s e ≡ true
  allows = allows_by (kind_of e is)

  pub history_now : IsHistory log'
  history_now = history-snoc log (signed v.number e) r.history allows (ap (λ (o : Owes). may_sign v.number o e) (fit.owes live) ∙ signs)

  q : Quiet s (after s e)
  q = quiet s e is

  begins_same : (k : ℕ) → begins_in log' k ≡ begins_in log k
  begins_same k = begins_noted log v.number e k is

  settled_same : (k : ℕ) → is_settled (after s e) r.unsettled k ≡ is_settled s r.unsettled k
  settled_same k = ap (λ (z : ℕ). nat_lt k z && not (Rattle.cd_gate.specs.Duties.is_at k r.unsettled)) q.serial

  -- a serial that is not retired by the entry is due as before
  due_same : (k : ℕ) → retires k e ≡ false → is_due (after s e) r.unsettled k ≡ is_due s r.unsettled k
  due_same k other =
      ap (λ (b : Bool). b && (not (has_number k (after s e).retired) && not (is_ticketed k (after s e).tickets))) (settled_same k)
      ∙ (ap (λ (b : Bool). is_settled s r.unsettled k && (not b && not (is_ticketed k (after s e).tickets))) (retired_same s e k other)
      ∙ ap (λ l. is_settled s r.unsettled k && (not (has_number k s.retired) && not (is_ticketed k l))) q.tickets)

  unsettled_fresh : Kind e → (k : ℕ) → r.unsettled ≡ Some k → has_number k (after s e).retired ≡ false
  unsettled_fresh (Kind.plain apart) k is_unsettled = retired_same s e k (retires_none k e apart) ∙ r.order.fresh k is_unsettled
  unsettled_fresh (Kind.retire n same) k is_unsettled =
      let h : has_number n v.duties ≡ true = ap (may_follow v.duties (state_at v.seen)) (sym same) ∙ follows in
      let settled_n = first (is_settled s r.unsettled n) _ (due_of n h) in
      retired_same s e k (ap (retires k) same ∙ ne_eqb k n (λ f. settled_not s r.unsettled n settled_n (is_unsettled ∙ ap (λ (z : ℕ). Some z) f))) ∙ r.order.fresh k is_unsettled

  duties_by : Kind e → Dutiful (is_due (after s e) r.unsettled) (set m.views id w)
  duties_by (Kind.plain apart) = duties_same m.views id v w at live live (is_due s r.unsettled) (is_due (after s e) r.unsettled) r.duties (λ k. due_same k (retires_none k e apart)) (ends_none v.duties e apart)
  duties_by (Kind.retire n same) =
      let h : has_number n v.duties ≡ true = ap (may_follow v.duties (state_at v.seen)) (sym same) ∙ follows in
      duties_ended m.views id v w at live live (is_due s r.unsettled) (is_due (after s e) r.unsettled) r.duties n h (retired_now n same)
      (λ k ne. due_same k (ap (retires k) same ∙ ne_eqb k n ne)) (ap (duties_after v.duties) same)
    where
      never : (b c : Bool) → (b && (not true && c)) ≡ false
      never true c = refl
      never false c = refl

      there : (n : ℕ) → has_number n (s.retired ++ n ∷ []) ≡ true
      there n = has_append n s.retired (n ∷ []) ∙ right (has_number n s.retired) _ (has_this n [])

      retired_now : (n : ℕ) → e ≡ Retire n → is_due (after s e) r.unsettled n ≡ false
      retired_now n same = ap (λ (b : Bool). is_settled (after s e) r.unsettled n && (not b && not (is_ticketed n (after s e).tickets))) (ap (λ (z : Entry). has_number n (after s z).retired) same ∙ there n)
          ∙ never (is_settled (after s e) r.unsettled n) (not (is_ticketed n (after s e).tickets))

  pub step_note : IsKept stands opening log' (note m id v log e)
  step_note =
      next stands opening log m r id v w at live refl refl log' r.unsettled r.edge m.packed m.turn ((m.counted + 1) % 2 ^ 64) m.balances m.board
      history_now
      (counts_on m.counted (noted_in (entries log)) (noted_in (entries log')) r.counted (noted_more log v.number e ∙ ap (λ (b : Bool). noted_in (entries log) + cond b 1 0) is))
      (subst (λ (z : State). Ordered z r.unsettled r.edge) (sym state_now)
      (Rattle.cd_gate.proofs.Orders.ordered_same s r.unsettled r.edge r.order (after s e) q.serial q.halted (λ k h. retired_stays s e k h) (unsettled_fresh (kind_of e is))
      (λ k low h. apps_stay s k e (legal-agree (entries log) r.history.is_legal) allows low h)))
      (subst (λ (z : State). Counts m.packed m.balances z r.unsettled r.edge (begins_in log')) (sym state_now)
      (counts_same m.packed m.balances s r.unsettled r.edge (begins_in log) r.order r.counts (after s e) (begins_in log') begins_same q.serial q.halted q.tickets))
      (subst (λ (z : ℕ). Crowd (begins_in log' z) (set m.views id w)) (sym (ap (λ (z : State). z.serial) state_now ∙ q.serial))
      (crowd_same stands opening log m r id v at live w live refl refl (begins_in log' s.serial) (le (begins_in log' s.serial) (begins_in log s.serial) (begins_same s.serial))))
      (fits_more opening m.turn log r.unsettled r.edge v e fit w refl r.unsettled
      (λ h. let g = fit.holds h in (g.3, g.4 ∙ sym ready_same)) fit.waits (λ l h. fit.begun l h ∙ sym (begins_same l.serial))
      (λ l h on. ticket_same (fit.lends l h (sym q.halted ∙ (ap (λ (z : State). z.halted) (sym state_now) ∙ on)))) fit.checks)
      (goes_on log v.number e (λ h. sym q.halted ∙ (ap (λ (z : State). z.halted) (sym state_now) ∙ h)))
      (λ j u apart ex also. absurd (others_wait stands opening log m r id v at has j u apart ex also))
      (subst (λ (z : State). Dutiful (is_due z r.unsettled) (set m.views id w)) (sym state_now) (duties_by (kind_of e is)))
      (not_free stands opening log m r id v w at live refl refl log' r.unsettled r.edge m.packed m.turn ((m.counted + 1) % 2 ^ 64) m.balances m.board refl refl has)
      (λ more. ((id, w, set_here m.views id w (in_range m.views id v at), has), (r.taken more).1))
    where
      le : (a b : ℕ) → a ≡ b → a ≤ b
      le a b f = omega arith

      ready_same : is_ready (state_at log') r.edge ≡ is_ready s r.edge
      ready_same = ap (λ (z : State). is_ready z r.edge) state_now ∙ (ap (λ (z : Bool). not z && (r.edge == (after s e).serial + 1)) q.halted ∙ ap (λ (z : ℕ). not s.halted && (r.edge == z + 1)) q.serial)

      ticket_kept : (o : Owes) (f : Entry) → is_noted f ≡ true → (Rattle.cd_legal.specs.Owing.owes_by o f).ticket ≡ o.ticket
      ticket_kept o (Begin k n) h = absurd (off h)
      ticket_kept o (Finish k) h = absurd (off h)
      ticket_kept o f h = refl

      ticket_same : {n : ℕ} → v.ticket ≡ Some n → w.ticket ≡ Some n
      ticket_same h = ticket_kept (owed v) e is ∙ h
