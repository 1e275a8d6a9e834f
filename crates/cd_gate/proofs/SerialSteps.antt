-- The steps on the table by which a serial is superseded.
use Rattle.std.proofs.Common.{◌≡◌, ℕ, ◌+◌, ◌-◌, ◌*◌, ◌%◌, ◌^◌, ◌<◌, ◌==◌, Bool, true, false, List, [], ◌∷◌, ◌++◌, drop, get_or, set, refl, sym, ap, ◌∙◌, subst, arith, Option, Some, None, length-set, get_or-set_other, get_or-set_same, eq-eqb, ne_eqb}
use Rattle.std.proofs.lemmas.List.{get_or-drop, drop-set-lt, drop-set-add}
use mathlib.Core.Option.{none, some}
use mathlib.Core.Logic.{dite}
use native.Mathlib.Decide.{ℕ_discrete}
use lib.ListN.{get_elem?}
use Rattle.atomic_table.specs.Table.{step, keeps, stepped, Allows}
use Rattle.cd_legal.specs.declared.entry.Change.{Change}
use Rattle.cd_legal.specs.declared.entry.Entry.{Entry}
use Rattle.cd_legal.specs.declared.entry.Entry.TheVariants.{Publish, Halt}
use Rattle.cd_legal.specs.declared.entry.Signed.{Signed}
use Rattle.cd_legal.specs.declared.limits.TheConstants.{LAST_SERIAL, MAX_UNRETIRED}
use Rattle.cd_gate.specs.declared.table.TheConstants.{FULL_BALANCE, SERIAL_STEP}
use Rattle.cd_legal.specs.declared.state.State.{State as Host}
use Rattle.cd_legal.specs.Entry.{signed}
use Rattle.cd_legal.specs.Legal.{allowed, state_at}
use Rattle.cd_legal.specs.Signing.{may_sign}
use Rattle.cd_legal.specs.State.{has_number, open_at, apps_stopped}
use Rattle.cd_gate.specs.declared.view.View.{View}
use Rattle.cd_gate.specs.declared.view.Unsettled.{Unsettled}
use Rattle.cd_gate.specs.Counts.{begins_in}
use Rattle.cd_gate.specs.Rule.{IsKept}
use Rattle.cd_gate.specs.Steps.{readied, superseded, settled}
use Rattle.cd_gate.specs.Tables.{Holds, moment_of, has_readied, superseded_at, has_superseded, has_settled}
use Rattle.cd_gate.specs.Words.{owed}
use Rattle.cd_gate.proofs.Serials.{Supersedes, step_reset, step_supersede, step_settle, history_now, publishes, halts, seen_serial, begins_are, sum_now, few_now}
use Rattle.cd_gate.proofs.Balances.{parts}
use Rattle.cd_gate.proofs.RequestSteps.{shows, found_by}
use Rattle.cd_gate.proofs.RequestSteps.{few_now as few_current}
use Rattle.cd_gate.proofs.Tabled.{Table, AtSeat}

-- ---- numbers

left_open : (g b t : ℕ) → g + b ≡ FULL_BALANCE + t → b < SERIAL_STEP → g < 2 ^ 64 → (g + (2 ^ 64 - (FULL_BALANCE - b))) % 2 ^ 64 ≡ t
left_open g b t sum few low = omega arith

none_open : (g b t : ℕ) → g + b ≡ FULL_BALANCE + t → b < SERIAL_STEP → (g == FULL_BALANCE - b) ≡ (t == 0)
none_open g b t sum few = dite (ℕ_discrete t 0)
    (λ zero. eq-eqb g (FULL_BALANCE - b) (same g b t sum few zero) ∙ sym (eq-eqb t 0 zero))
    (λ ne. ne_eqb g (FULL_BALANCE - b) (λ e. ne (back g b t sum few e)) ∙ sym (ne_eqb t 0 ne))
  where
    same : (g b t : ℕ) → g + b ≡ FULL_BALANCE + t → b < SERIAL_STEP → t ≡ 0 → g ≡ FULL_BALANCE - b
    same g b t sum few zero = omega arith

    back : (g b t : ℕ) → g + b ≡ FULL_BALANCE + t → b < SERIAL_STEP → g ≡ FULL_BALANCE - b → t ≡ 0
    back g b t sum few e = omega arith

place_sum : (z : ℕ) → 3 + (1 + z) ≡ 4 + z
place_sum z = omega arith

module _ {T : Type 0} (stands : T → T → List Signed → Type 0) (first : T) where
  abbrev Rule : Table T → Type 0
  Rule = Holds stands first

  -- a balance was written
  writes : (s : Table T) (r : Rule s) (id p n : ℕ) (w : View T) (cs : List (ℕ × Option T))
      → IsKept stands first r.log (record { packed = get_or s.words 0 0; turn = get_or s.words 1 0; counted = get_or s.words 2 0; balances = set (drop 3 s.words) p n; board = r.slot; views = set s.views id w })
      → Rule (stepped s (3 + p) n id cs w keeps)
  writes s r id p n w cs k = record {
    log = r.log;
    slot = r.slot;
    kept = shows stands first r.log r.slot (stepped s (3 + p) n id cs w keeps) (get_or s.words 0 0) (get_or s.words 1 0) (get_or s.words 2 0) (set (drop 3 s.words) p n)
        (get_or-set_other s.words (3 + p) 0 n 0 (λ e. omega arith)) (get_or-set_other s.words (3 + p) 1 n 0 (λ e. omega arith)) (get_or-set_other s.words (3 + p) 2 n 0 (λ e. omega arith))
        (drop-set-add 3 s.words p n) k;
    wide = length-set s.words (3 + p) n ∙ r.wide;
    deep = r.deep;
    home = r.home;
  }

  pub readies : (slots id i q : ℕ) (m : AtSeat T) → i ≡ 4 + (q + 1) % MAX_UNRETIRED → m.0.turn ≡ true → m.0.unsettled ≡ None → q ≡ (state_at m.0.seen).serial → (state_at m.0.seen).halted ≡ false
      → ((k : ℕ) → k + MAX_UNRETIRED ≡ q + 1 → has_number k (state_at m.0.seen).retired ≡ true)
      → Allows Rule slots id m i (λ n. FULL_BALANCE) (λ _. has_readied (step slots i FULL_BALANCE 0 none) m FULL_BALANCE)
  readies slots id i q m place has quiet is on free s r deep at low =
      let w : View T = readied m.0 in
      let p : ℕ = 1 + (q + 1) % MAX_UNRETIRED in
      let k = step_reset stands first r.log (moment_of s r.slot) r.kept id m.0 at has q is on quiet free in (
        w,
        keeps,
        tt,
        subst (λ (j : ℕ). Rule (stepped s j FULL_BALANCE id m.1 w keeps)) (place_sum ((q + 1) % MAX_UNRETIRED) ∙ sym place) (writes s r id p FULL_BALANCE w m.1 k),
        refl,
      )

  -- an entry that supersedes the serial
  swaps : (slots id q : ℕ) (e : Entry) (m : AtSeat T) (s : Table T) (r : Rule s) (at : get_elem? s.views id ≡ some m.0) (has : m.0.turn ≡ true) → m.0.unsettled ≡ None → q ≡ (state_at m.0.seen).serial
      → Supersedes stands first r.log (moment_of s r.slot) r.kept id m.0 at has q e
      → (w : View T) × (a : _) × Rattle.atomic_table.specs.Table.Valid s.homes m.1 a × Rule (stepped s 0 ((q + 1) * SERIAL_STEP) id m.1 w a) × superseded_at q e (step slots 0 ((q + 1) * SERIAL_STEP) 0 none) m (get_or s.words 0 0) (w, Rattle.atomic_table.specs.Table.carried_after m.1 a)
  swaps slots id q e m s r at has quiet is u =
      let v : View T = m.0 in
      let host : Host = state_at r.log in
      let new : ℕ = (q + 1) * SERIAL_STEP in
      let w : View T = superseded v r.log e q (begins_in r.log q) in
      let here : q ≡ host.serial = is ∙ seen_serial stands first r.log (moment_of s r.slot) r.kept id v at has in
      let held = (r.kept.each id v at).holds has in
      let log' : List Signed = r.log ++ signed v.number e ∷ [] in (
        w,
        keeps,
        tt,
        record {
          log = log';
          slot = r.slot;
          kept = shows stands first log' r.slot (stepped s 0 new id m.1 w keeps) new (get_or s.words 1 0) (get_or s.words 2 0) (drop 3 s.words)
              (get_or-set_same s.words 0 new 0 (let l = r.wide in omega arith)) (get_or-set_other s.words 0 1 new 0 (λ f. omega arith)) (get_or-set_other s.words 0 2 new 0 (λ f. omega arith))
              (drop-set-lt 3 s.words 0 new (omega arith))
              (step_supersede stands first r.log (moment_of s r.slot) r.kept id v at has q e quiet u);
          wide = length-set s.words 0 new ∙ r.wide;
          deep = r.deep;
          home = r.home;
        },
        (
          r.log,
          record { found = found_by stands first s r id v at held.0; core_is = sym held.2 },
          (parts (get_or s.words 0 0) host.serial (begins_in r.log host.serial) r.kept.counts.packed_is (few_current stands first s r)).0 ∙ ap (begins_in r.log) (sym here),
          refl,
          history_now stands first r.log (moment_of s r.slot) r.kept id v at has q e quiet u,
        ),
      )

  -- whatever the entry is, by the serial
  swaps_by : (slots id q : ℕ) (by : ℕ → Entry) (m : AtSeat T) (s : Table T) (r : Rule s) (at : get_elem? s.views id ≡ some m.0) (has : m.0.turn ≡ true) → m.0.unsettled ≡ None → (is : q ≡ (state_at m.0.seen).serial)
      → Supersedes stands first r.log (moment_of s r.slot) r.kept id m.0 at has q (by q)
      → (w : View T) × (a : _) × Rattle.atomic_table.specs.Table.Valid s.homes m.1 a × Rule (stepped s 0 ((q + 1) * SERIAL_STEP) id m.1 w a) × has_superseded by (step slots 0 ((q + 1) * SERIAL_STEP) 0 none) m (get_or s.words 0 0) (w, Rattle.atomic_table.specs.Table.carried_after m.1 a)
  swaps_by slots id q by m s r at has quiet is u =
      let t = swaps slots id q (by q) m s r at has quiet is u in
      (t.0, t.1, t.2, t.3, λ n now. subst (λ (z : ℕ). superseded_at z (by z) (step slots 0 ((q + 1) * SERIAL_STEP) 0 none) m (get_or s.words 0 0) (t.0, Rattle.atomic_table.specs.Table.carried_after m.1 t.1)) (is ∙ sym now) t.4)

  pub halts_now : (slots id q : ℕ) (m : AtSeat T) → m.0.turn ≡ true → m.0.unsettled ≡ None → q ≡ (state_at m.0.seen).serial → (state_at m.0.seen).halted ≡ false
      → Allows Rule slots id m 0 (λ _. (q + 1) * SERIAL_STEP) (has_superseded (λ n. Halt (n + 1)) (step slots 0 ((q + 1) * SERIAL_STEP) 0 none) m)
  halts_now slots id q m has quiet is on s r deep at low = swaps_by slots id q (λ n. Halt (n + 1)) m s r at has quiet is (halts stands first r.log (moment_of s r.slot) r.kept id m.0 at has q is on)

  pub publishes_now : (slots id q d k : ℕ) (c : Change) (e : Entry) (m : AtSeat T) → e ≡ Publish d k q c → m.0.turn ≡ true → m.0.unsettled ≡ None → m.0.ready ≡ true → m.0.ticket ≡ Some q → q ≡ (state_at m.0.seen).serial → q < LAST_SERIAL
      → allowed (state_at m.0.seen) e ≡ true → may_sign m.0.number (owed m.0) e ≡ true
      → Allows Rule slots id m 0 (λ _. (q + 1) * SERIAL_STEP) (has_superseded (λ _. e) (step slots 0 ((q + 1) * SERIAL_STEP) 0 none) m)
  publishes_now slots id q d k c e m same has quiet ready ticket is room may signs s r deep at low =
      swaps_by slots id q (λ _. e) m s r at has quiet is
      (subst (λ (z : Entry). Supersedes stands first r.log (moment_of s r.slot) r.kept id m.0 at has q z) (sym same)
      (publishes stands first r.log (moment_of s r.slot) r.kept id m.0 at has d k q c is (ap (λ (z : Entry). allowed (state_at m.0.seen) z) (sym same) ∙ may) (ap (λ (z : Entry). may_sign m.0.number (owed m.0) z) (sym same) ∙ signs) quiet ready ticket room))

  pub settles_now : (slots id i n b : ℕ) (m : AtSeat T) → i ≡ 4 + n % MAX_UNRETIRED → m.0.turn ≡ true → m.0.unsettled ≡ Some (record { serial = n; begins = b }) → apps_stopped (state_at m.0.seen) n ≡ true
      → Allows Rule slots id m i (λ g. (g + (2 ^ 64 - (FULL_BALANCE - b))) % 2 ^ 64) (has_settled (step slots i (FULL_BALANCE - b) 0 none) m)
  settles_now slots id i n b m place has unsettled stopped s r deep at low =
      let v : View T = m.0 in
      let host : Host = state_at r.log in
      let p : ℕ = 1 + n % MAX_UNRETIRED in
      let g : ℕ = get_or s.words i 0 in
      let here : 3 + p ≡ i = place_sum (n % MAX_UNRETIRED) ∙ sym place in
      let g_is : get_or (drop 3 s.words) p 0 ≡ g = get_or-drop 3 s.words p 0 ∙ ap (λ (j : ℕ). get_or s.words j 0) here in
      let b_is : b ≡ begins_in r.log n = begins_are stands first r.log (moment_of s r.slot) r.kept id v at has n b unsettled stopped in
      let sum : g + b ≡ FULL_BALANCE + open_at n host.tickets = subst (λ (z : ℕ × ℕ). z.0 + z.1 ≡ FULL_BALANCE + open_at n host.tickets) (λ j. (g_is j, sym b_is j)) (sum_now stands first r.log (moment_of s r.slot) r.kept id v at has n b unsettled stopped) in
      let few : b < SERIAL_STEP = subst (λ (z : ℕ). z < SERIAL_STEP) (sym b_is) (few_now stands first r.log (moment_of s r.slot) r.kept id v at has n b unsettled stopped) in
      let whole : (g + (2 ^ 64 - (FULL_BALANCE - b))) % 2 ^ 64 ≡ open_at n host.tickets = left_open g b (open_at n host.tickets) sum few low in
      let due : (g == FULL_BALANCE - b) ≡ (open_at n host.tickets == 0) = none_open g b (open_at n host.tickets) sum few in
      let w : View T = settled v n (open_at n host.tickets == 0) in
      let held = (r.kept.each id v at).holds has in
      let k = writes s r id p (open_at n host.tickets) w m.1 (step_settle stands first r.log (moment_of s r.slot) r.kept id v at has n b unsettled stopped) in (
        w,
        keeps,
        tt,
        subst (λ (z : ℕ). Rule (stepped s i z id m.1 w keeps)) (sym whole) (subst (λ (j : ℕ). Rule (stepped s j (open_at n host.tickets) id m.1 w keeps)) here k),
        (λ l is. let same : record { serial = n; begins = b } ≡ l = some_is _ l (sym unsettled ∙ is) in (
          r.log,
          record { found = found_by stands first s r id v at held.0; core_is = sym held.2 },
          due ∙ ap (λ (z : Unsettled). open_at z.serial host.tickets == 0) same,
          ap (λ (z : Unsettled). let q : AtSeat T = (settled v z.serial (open_at n host.tickets == 0), m.1) in q) same ∙ ap (λ (z : Bool). let q : AtSeat T = (settled v l.serial z, m.1) in q) (sym due),
        )),
      )
    where
      some_is : (x y : Unsettled) → ◌≡◌ {A = Option Unsettled} (Some x) (Some y) → x ≡ y
      some_is x y e = cc
