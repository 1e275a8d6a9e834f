-- The turn is taken and given back, and the board moves.
use Rattle.std.proofs.Common.{◌≡◌, ℕ, ◌+◌, ◌<◌, ◌≤◌, true, false, List, refl, sym, ap, ◌∙◌, subst, ⊎_elim, arith, Option, Some, None}
use mathlib.Core.Option.{some}
use lib.ListN.{get_elem?}
use Rattle.atomic_table.proofs.Lists.{set_here, set_again}
use Rattle.cd_legal.specs.declared.entry.Signed.{Signed}
use Rattle.cd_legal.specs.Laws.{core_at}
use Rattle.cd_legal.specs.Legal.{state_at}
use Rattle.cd_legal.specs.Whole.{nothing_left}
use Rattle.cd_legal.proofs.Logs.{prefix_trans}
use Rattle.cd_gate.specs.declared.view.View.{View}
use Rattle.cd_gate.specs.Counts.{begins_in}
use Rattle.cd_gate.specs.Duties.{is_due}
use Rattle.cd_gate.specs.Rule.{IsKept}
use Rattle.cd_gate.specs.Steps.{with_turn, without_turn, with_view, acquire, move_board, release}
use Rattle.cd_gate.specs.Words.{Slot, Moment}
use Rattle.cd_gate.proofs.Dues.{duties_same}
use Rattle.cd_gate.proofs.Entries.{left_same}
use Rattle.cd_gate.proofs.Frames.{goes_nowhere, others_wait, with_others, next}
use Rattle.cd_gate.proofs.Longer.{prefix_self}
use Rattle.cd_gate.proofs.Numbers.{tells, off}
use Rattle.cd_gate.proofs.Requesting.{crowd_same}
use Rattle.cd_gate.proofs.Views.{in_range}

module _ {T : Type 0} (stands : T → T → List Signed → Type 0) (opening : T) (log : List Signed) (m : Moment T) (r : IsKept stands opening log m) where
  self : (n : ℕ) → n ≤ n
  self n = omega arith

  nobody : (turn n : ℕ) → turn ≡ 0 → turn ≡ n + 1 → ⊥
  nobody turn n e f = absurd (omega arith)

  pub acquires : (id : ℕ) (v : View T) (b : T) → get_elem? m.views id ≡ some v → v.live ≡ true → m.turn ≡ 0 → IsKept stands opening log (acquire m id v log b)
  acquires id v b at live free =
      let f = r.each id v at in
      let w : View T = with_turn v log in
      let h = r.free free in
      let idle : v.turn ≡ false = ⊎_elim (λ has. absurd (nobody m.turn v.number free (f.holds has).1)) (λ q. q) (tells v.turn) in
      next stands opening log m r id v w at live refl refl log r.unsettled r.edge m.packed (v.number + 1) m.counted m.balances (Slot.Held (Some b))
      r.history r.counted r.order r.counts (crowd_same stands opening log m r id v at live w live refl refl (begins_in log (state_at log).serial) (self (begins_in log (state_at log).serial)))
      record {
        opened = f.opened;
        seen = prefix_self log;
        older = λ i l e. prefix_trans l v.seen log (f.older i l e) f.seen;
        own = f.own;
        own_seen = f.own;
        owes = f.owes;
        holds = λ _. (live, refl, refl, ap (λ o. Rattle.std.specs.Prelude.option_map (λ (z : Rattle.cd_gate.specs.declared.view.Unsettled.Unsettled). z.serial) o) (f.waits idle).0 ∙ sym h.2, (f.waits idle).1 ∙ sym h.3);
        waits = λ e. absurd (off (sym e));
        begun = f.begun;
        lends = f.lends;
        checks = f.checks;
      }
      (goes_nowhere log v.number) (λ j u apart e also. absurd (nobody m.turn u.number free ((r.each j u e).holds also).1))
      (duties_same m.views id v w at live live (is_due (state_at log) r.unsettled) (is_due (state_at log) r.unsettled) r.duties (λ n. refl) refl)
      (λ z. absurd (nobody (v.number + 1) v.number z refl))
      (λ _. ((id, w, set_here m.views id w (in_range m.views id v at), refl), (Some b, refl)))

  -- a view that stays
  pub same_view : (id : ℕ) (v : View T) → get_elem? m.views id ≡ some v → IsKept stands opening log (with_view m id v)
  same_view id v at = subst (λ (vs : List (View T)). IsKept stands opening log (record m { views = vs })) (sym (set_again m.views id v at)) r

  pub moves : (id : ℕ) (v : View T) (x : Option T) → get_elem? m.views id ≡ some v → v.turn ≡ true → IsKept stands opening log (move_board m x)
  moves id v x at has = with_others stands opening log m r (Slot.Held x) m.views r.crowd r.each r.numbers r.duties
      (λ z. absurd (nobody m.turn v.number z ((r.each id v at).holds has).1)) (λ more. ((r.taken more).0, (x, refl)))

  pub releases : (id : ℕ) (v : View T) (b : T) → get_elem? m.views id ≡ some v → v.turn ≡ true → v.unsettled ≡ None → v.ready ≡ false → stands opening b (core_at v.seen) → nothing_left (state_at v.seen) ≡ true → IsKept stands opening log (release m id v b)
  releases id v b at has quiet unready board left =
      let f = r.each id v at in
      let g = f.holds has in
      let live : v.live ≡ true = g.0 in
      let w : View T = without_turn v in
      next stands opening log m r id v w at live refl refl log r.unsettled r.edge m.packed 0 m.counted m.balances (Slot.Home b)
      r.history r.counted r.order r.counts (crowd_same stands opening log m r id v at live w live refl refl (begins_in log (state_at log).serial) (self (begins_in log (state_at log).serial)))
      record {
        opened = f.opened;
        seen = f.seen;
        older = f.older;
        own = f.own;
        own_seen = f.own_seen;
        owes = f.owes;
        holds = λ again. absurd (off again);
        waits = λ _. (quiet, unready);
        begun = f.begun;
        lends = f.lends;
        checks = f.checks;
      }
      (goes_nowhere log v.number) (λ j u apart e also. absurd (others_wait stands opening log m r id v at has j u apart e also))
      (duties_same m.views id v w at live live (is_due (state_at log) r.unsettled) (is_due (state_at log) r.unsettled) r.duties (λ n. refl) refl)
      (λ _. (
        (b, refl, subst (stands opening b) g.2 board),
        left_same v.seen log (sym g.2) ∙ left,
        sym g.3 ∙ ap (λ o. Rattle.std.specs.Prelude.option_map (λ (z : Rattle.cd_gate.specs.declared.view.Unsettled.Unsettled). z.serial) o) quiet,
        sym g.4 ∙ unready,
      ))
      (λ more. absurd (none more))
    where
      none : 0 < 0 → ⊥
      none h = absurd (omega arith)
