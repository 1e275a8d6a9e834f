-- The turn on the table: it is taken, an entry is noted in it, and it is given back.
use Rattle.std.proofs.Common.{◌≡◌, ℕ, ◌+◌, ◌%◌, ◌^◌, ◌≤◌, ◌==◌, Bool, true, false, cond, List, [], ◌∷◌, ◌++◌, drop, get_or, set, refl, sym, ap, ◌∙◌, subst, arith, Option, Some, None, length-set, get_or-set_other, get_or-set_same}
use Rattle.std.proofs.lemmas.List.{set-get_or, drop-set-lt}
use mathlib.Core.Option.{none, some}
use lib.ListN.{get_elem?}
use prog.Atomic.{either}
use Rattle.atomic_table.specs.Table.{step, Act, keeps, takes, gives, stepped, carried_after, Valid, Allows}
use Rattle.atomic_table.proofs.Lists.{set_here, set_again, exchanged}
use Rattle.cd_legal.specs.declared.entry.Entry.{Entry}
use Rattle.cd_legal.specs.declared.entry.Signed.{Signed}
use Rattle.cd_legal.specs.declared.limits.TheConstants.{LAST_SERIAL}
use Rattle.cd_legal.specs.Entry.{signed}
use Rattle.cd_legal.specs.Laws.{core_at}
use Rattle.cd_legal.specs.Legal.{state_at}
use Rattle.cd_legal.specs.Whole.{nothing_left}
use Rattle.cd_gate.specs.declared.view.View.{View}
use Rattle.cd_gate.specs.Steps.{with_turn, without_turn, noted, may_note}
use Rattle.cd_gate.specs.Tables.{Holds, moment_of, acquired, wrote, released}
use Rattle.cd_gate.specs.Words.{Slot}
use Rattle.cd_gate.proofs.Fates.{duty_allowed}
use Rattle.cd_gate.proofs.Notes.{step_note, history_now}
use Rattle.cd_gate.proofs.RequestSteps.{shows, found_by}
use Rattle.cd_gate.proofs.Turns.{acquires, releases}
use Rattle.cd_gate.proofs.Tabled.{Table, AtSeat, home_is}

abbrev or_else : {A : Type 0} → A → Option A → A
or_else d None = d
or_else d (Some x) = x

room_of : (h : Bool) (n : ℕ) → n ≤ LAST_SERIAL + cond h 1 0 → h ≡ false → n ≤ LAST_SERIAL
room_of true n le is = absurd (let e : true ≡ false = is in cc)
room_of false n le is = omega arith

module _ {T : Type 0} (stands : T → T → List Signed → Type 0) (first : T) where
  abbrev Rule : Table T → Type 0
  Rule = Holds stands first

  not_home : (x : Option T) (b : T) → Slot.Held x ≡ Slot.Home b → ⊥
  not_home x b e = absurd (cc)

  -- ---- the turn is taken

  -- what a compare-exchange of the turn asks, where the word becomes n
  abbrev Turning : (slots id turn : ℕ) (m : AtSeat T) (s : Table T) → ℕ → Type 0
  Turning slots id turn m s n = (w : View T) × (a : Act (Option T)) × Valid s.homes m.1 a × Rule (stepped s 1 n id m.1 w a) × acquired stands (step slots 1 0 turn none) m (get_or s.words 1 0) (w, carried_after m.1 a)

  takes_turn : (slots id turn : ℕ) (m : AtSeat T) (s : Table T) (r : Rule s) → m.0.live ≡ true → turn ≡ m.0.number + 1 → get_elem? s.views id ≡ some m.0 → get_or s.words 1 0 ≡ 0 → Turning slots id turn m s turn
  takes_turn slots id turn m s r live turn_is at free =
      let v : View T = m.0 in
      let home = r.kept.free free in
      let b : T = home.0.0 in
      let w : View T = with_turn v r.log in
      let f = r.kept.each id v at in (
        w,
        takes 0 (Some b),
        r.home b home.0.1,
        record {
          log = r.log;
          slot = Slot.Held (Some b);
          kept = shows stands first r.log (Slot.Held (Some b)) (stepped s 1 turn id m.1 w (takes 0 (Some b))) (get_or s.words 0 0) (v.number + 1) (get_or s.words 2 0) (drop 3 s.words)
              (get_or-set_other s.words 1 0 turn 0 (λ e. omega arith)) (get_or-set_same s.words 1 turn 0 (let l = r.wide in omega arith) ∙ turn_is) (get_or-set_other s.words 1 2 turn 0 (λ e. omega arith))
              (drop-set-lt 3 s.words 1 turn (omega arith))
              (acquires stands first r.log (moment_of s r.slot) r.kept id v b at live free);
          wide = length-set s.words 1 turn ∙ r.wide;
          deep = length-set s.homes 0 none ∙ r.deep;
          home = λ c e. absurd (not_home (Some b) c e);
        },
        (
          (λ _. (
            r.log,
            b,
            refl,
            (
              first,
              f.opened live,
              record {
                found = found_by stands first s r id v at live;
                duties = λ n h. duty_allowed stands first r.log (moment_of s r.slot) r.kept n (r.kept.duties.sound id v n at live h);
                serials = λ on. room_of (state_at r.log).halted (state_at r.log).serial r.kept.order.room on;
                left = home.1;
                board = home.0.2;
              },
            ),
          )),
          λ ne. absurd (ne free),
        ),
      )

  same_state : (id : ℕ) (v : View T) (s : Table T) → Rule s → get_elem? s.views id ≡ some v → Rule record { words = set s.words 1 (get_or s.words 1 0); homes = s.homes; views = set s.views id v }
  same_state id v s r at = subst (λ (ws : List ℕ). Rule record { words = ws; homes = s.homes; views = set s.views id v }) (sym (set-get_or s.words 1 0))
      (subst (λ (vs : List (View T)). Rule record { words = s.words; homes = s.homes; views = vs }) (sym (set_again s.views id v at)) r)

  pub takes_the_turn : (slots id turn : ℕ) (m : AtSeat T) → m.0.live ≡ true → turn ≡ m.0.number + 1
      → Allows Rule slots id m 1 (λ n. either (n == 0) turn n) (acquired stands (step slots 1 0 turn none) m)
  takes_the_turn slots id turn m live turn_is s r deep at low = exchanged (get_or s.words 1 0) 0 turn (Turning slots id turn m s)
      (λ hit. takes_turn slots id turn m s r live turn_is at hit)
      (λ miss. (m.0, keeps, tt, same_state id m.0 s r at, ((λ z. absurd (miss z)), λ _. refl)))

  -- ---- an entry is noted

  pub notes_now : (slots id : ℕ) (m : AtSeat T) (e : Entry) → m.0.turn ≡ true → may_note m.0 e ≡ true
      → Allows Rule slots id m 2 (λ n. (n + 1) % 2 ^ 64) (wrote e (step slots 2 1 0 none) m)
  notes_now slots id m e has may s r deep at low =
      let v : View T = m.0 in
      let n : ℕ = (get_or s.words 2 0 + 1) % 2 ^ 64 in
      let w : View T = noted v r.log e in
      let log' : List Signed = r.log ++ signed v.number e ∷ [] in
      let held = (r.kept.each id v at).holds has in (
        w,
        keeps,
        tt,
        record {
          log = log';
          slot = r.slot;
          kept = shows stands first log' r.slot (stepped s 2 n id m.1 w keeps) (get_or s.words 0 0) (get_or s.words 1 0) n (drop 3 s.words)
              (get_or-set_other s.words 2 0 n 0 (λ z. omega arith)) (get_or-set_other s.words 2 1 n 0 (λ z. omega arith)) (get_or-set_same s.words 2 n 0 (let l = r.wide in omega arith))
              (drop-set-lt 3 s.words 2 n (omega arith))
              (step_note stands first r.log (moment_of s r.slot) r.kept id v e at has may);
          wide = length-set s.words 2 n ∙ r.wide;
          deep = r.deep;
          home = r.home;
        },
        (r.log, record { found = found_by stands first s r id v at held.0; core_is = sym held.2 }, refl, history_now stands first r.log (moment_of s r.slot) r.kept id v e at has may),
      )

  -- ---- the turn is given back

  pub gives_back : (slots id : ℕ) (m : AtSeat T) (o b : T) → m.0.live ≡ true → m.0.turn ≡ true → m.0.unsettled ≡ None → m.0.ready ≡ false → m.1 ≡ (0, Some b) ∷ [] → m.0.opening ≡ Some o → stands o b (core_at m.0.seen) → nothing_left (state_at m.0.seen) ≡ true
      → Allows Rule slots id m 1 (λ _. 0) (λ _. released (step slots 1 0 0 none) m 0)
  gives_back slots id m o b live has quiet unready carried opened board left s r deep at low =
      let v : View T = m.0 in
      let w : View T = without_turn v in
      let f = r.kept.each id v at in
      let same : o ≡ first = ap (or_else o) (sym opened ∙ f.opened live) in
      let after : Table T = record { words = set s.words 1 0; homes = set s.homes 0 (some (Some b)); views = set s.views id w } in (
        w,
        gives,
        tt,
        subst (λ (cs : List (ℕ × Option T)). Rule (stepped s 1 0 id cs w gives)) (sym carried) record {
          log = r.log;
          slot = Slot.Home b;
          kept = shows stands first r.log (Slot.Home b) after (get_or s.words 0 0) 0 (get_or s.words 2 0) (drop 3 s.words)
              (get_or-set_other s.words 1 0 0 0 (λ z. omega arith)) (get_or-set_same s.words 1 0 0 (let l = r.wide in omega arith)) (get_or-set_other s.words 1 2 0 0 (λ z. omega arith))
              (drop-set-lt 3 s.words 1 0 (omega arith))
              (releases stands first r.log (moment_of s r.slot) r.kept id v b at has quiet unready (subst (λ (z : T). stands z b (core_at v.seen)) same board) left);
          wide = length-set s.words 1 0 ∙ r.wide;
          deep = length-set s.homes 0 (some (Some b)) ∙ r.deep;
          home = λ c e. set_here s.homes 0 (some (Some b)) (let l = r.deep in omega arith) ∙ ap (λ (z : T). some (some (Some z))) (home_is b c e);
        },
        refl,
      )
