-- What the words of a table show, and the steps of requests on them.
use Rattle.std.proofs.Common.{◌≡◌, ◌≢◌, ℕ, ◌+◌, ◌-◌, ◌*◌, ◌/◌, ◌%◌, ◌^◌, ◌<◌, ◌≤◌, ◌==◌, Bool, true, false, cond, nat_lt, List, [], ◌∷◌, ◌++◌, drop, get_or, set, refl, sym, ap, ◌∙◌, subst, arith, Option, Some, None, length-set, get_or-set_other, get_or-set_same}
use Rattle.std.specs.Prelude.{option_map}
use Rattle.std.proofs.lemmas.List.{set-get_or, get_or-drop, drop-set-lt, drop-set-add}
use Rattle.std.proofs.lemmas.Bool.{ltb-false}
use mathlib.Core.Option.{none, some, some-injective}
use mathlib.Core.Logic.{dite}
use native.Mathlib.Decide.{ℕ_discrete}
use lib.ListN.{get_elem?}
use Rattle.atomic_table.specs.Table.{step, keeps, stepped, Allows}
use Rattle.cd_legal.specs.declared.entry.Entry.TheVariants.{Begin, Finish}
use Rattle.cd_legal.specs.declared.entry.Signed.{Signed}
use Rattle.cd_legal.specs.declared.limits.TheConstants.{MAX_BEGINS, LAST_SERIAL, MAX_UNRETIRED}
use Rattle.cd_gate.specs.declared.table.TheConstants.{SERIAL_STEP}
use Rattle.cd_legal.specs.declared.state.State.{State as Host}
use Rattle.cd_legal.specs.Entry.{signed}
use Rattle.cd_legal.specs.Legal.{state_at, after}
use Rattle.cd_legal.specs.Owing.{Owes}
use Rattle.cd_legal.specs.State.{ticket_of}
use Rattle.cd_legal.proofs.Facts.{is-less}
use Rattle.cd_legal.proofs.Owed.{owed-ticket}
use Rattle.cd_gate.specs.declared.view.View.{View}
use Rattle.cd_gate.specs.declared.view.Unsettled.{Unsettled}
use Rattle.cd_gate.specs.Counts.{place_of, begins_in}
use Rattle.cd_gate.specs.Duties.{is_due}
use Rattle.cd_gate.specs.Rule.{IsKept}
use Rattle.cd_gate.specs.Steps.{checking, worn, begun, finished}
use Rattle.cd_gate.specs.Words.{Slot, Moment}
use Rattle.cd_gate.specs.Tables.{Found, UnsettledThen, Holds, moment_of, has_checked, has_begun, has_ended}
use Rattle.cd_gate.proofs.Balances.{parts, settled_no, positive}
use Rattle.cd_gate.proofs.Frames.{none_some}
use Rattle.cd_gate.proofs.Halted.{is_halt, halt_seen}
use Rattle.cd_gate.proofs.Numbers.{some_is}
use Rattle.cd_gate.proofs.Requesting.{step_check, step_worn, step_begin, few_begun, history_begun, step_finish, history_ended, has, born, used, due_now, due_allowed}
use Rattle.cd_gate.proofs.Tickets.{ticket_seen}
use Rattle.cd_gate.proofs.Tabled.{Table, AtSeat}

-- ---- numbers

no_wrap : (p x b c : ℕ) → p ≡ x * SERIAL_STEP + b → b + 1 < SERIAL_STEP → x ≤ LAST_SERIAL + c → c ≤ 1 → (p + 1) % 2 ^ 64 ≡ p + 1
no_wrap p x b c is few room one = omega arith

at_most : (b : Bool) → cond {A = ℕ} b 1 0 ≤ 1
at_most true = omega arith
at_most false = omega arith

one_off : (g : ℕ) → 0 < g → g < 2 ^ 64 → (g + (2 ^ 64 - 1)) % 2 ^ 64 ≡ g - 1
one_off g pos low = omega arith

-- the place of a balance among the words
pub word_is : (b : Bool) (z : ℕ) → ◌≡◌ {A = ℕ} (cond b 3 (4 + z)) (3 + cond b 0 (1 + z))
word_is true z = refl
word_is false z = omega arith

mapped : {A B : Type 0} (f : A → B) (o : Option A) (b : B) → option_map f o ≡ Some b → (a : A) × (o ≡ Some a) × (f a ≡ b)
mapped f None b is = absurd (let h : None ≡ Some b = is in cc)
mapped f (Some a) b is = (a, refl, cc)

-- what a look at the word has told
module _ {T : Type 0} where
  abbrev Looked : AtSeat T → AtSeat T → ℕ → Type 0
  Looked m m' found = (log : List Signed) × Found m.0 log × (found % SERIAL_STEP ≡ begins_in log (state_at log).serial) × (m' ≡ (cond (nat_lt (found % SERIAL_STEP) MAX_BEGINS) (checking m.0 log) (worn m.0 log), m.1))

  pub room_of : (m m' : AtSeat T) (found : ℕ) → Looked m m' found → nat_lt (found % SERIAL_STEP) MAX_BEGINS ≡ true
      → (log : List Signed) × Found m.0 log × (begins_in log (state_at log).serial < MAX_BEGINS) × (m' ≡ (checking m.0 log, m.1))
  room_of m m' found t is = (
    t.0,
    t.1,
    subst (λ (z : ℕ). z < MAX_BEGINS) t.2 (is-less (found % SERIAL_STEP) MAX_BEGINS is),
    t.3 ∙ ap (λ (b : Bool). let p : AtSeat T = (cond b (checking m.0 t.0) (worn m.0 t.0), m.1) in p) is,
  )

  pub none_of : (m m' : AtSeat T) (found : ℕ) → Looked m m' found → nat_lt (found % SERIAL_STEP) MAX_BEGINS ≡ false
      → (log : List Signed) × Found m.0 log × (MAX_BEGINS ≤ begins_in log (state_at log).serial) × (m' ≡ (worn m.0 log, m.1))
  none_of m m' found t is = (
    t.0,
    t.1,
    subst (λ (z : ℕ). MAX_BEGINS ≤ z) t.2 (ltb-false (found % SERIAL_STEP) MAX_BEGINS is),
    t.3 ∙ ap (λ (b : Bool). let p : AtSeat T = (cond b (checking m.0 t.0) (worn m.0 t.0), m.1) in p) is,
  )

module _ {T : Type 0} (stands : T → T → List Signed → Type 0) (first : T) where
  abbrev Rule : Table T → Type 0
  Rule = Holds stands first

  -- the rule of a table with these words
  pub shows : (log : List Signed) (slot : Slot T) (s : Table T) (p t c : ℕ) (bs : List ℕ) → get_or s.words 0 0 ≡ p → get_or s.words 1 0 ≡ t → get_or s.words 2 0 ≡ c → drop 3 s.words ≡ bs
      → IsKept stands first log (record { packed = p; turn = t; counted = c; balances = bs; board = slot; views = s.views }) → IsKept stands first log (moment_of s slot)
  shows log slot s p t c bs is_p is_t is_c is_bs k = subst (IsKept stands first log) (λ i. record { packed = sym is_p i; turn = sym is_t i; counted = sym is_c i; balances = sym is_bs i; board = slot; views = s.views }) k

  pub found_by : (s : Table T) (r : Rule s) (id : ℕ) (v : View T) → get_elem? s.views id ≡ some v → v.live ≡ true → Found v r.log
  found_by s r id v at live = let f = r.kept.each id v at in record { history = r.kept.history; seen = f.seen; own = f.own live; own_seen = f.own_seen live; owes = f.owes live; in_turn = λ has. sym (f.holds has).2 }

  pub few_now : (s : Table T) (r : Rule s) → begins_in r.log (state_at r.log).serial < SERIAL_STEP
  few_now s r = r.kept.counts.few (state_at r.log).serial (settled_no (state_at r.log) r.kept.unsettled (state_at r.log).serial (self (state_at r.log).serial))
    where
      self : (n : ℕ) → n ≤ n
      self n = omega arith

  -- ---- check

  -- the words stay
  same_words : (s : Table T) (id : ℕ) (w : View T) → Rule record { words = s.words; homes = s.homes; views = set s.views id w } → Rule record { words = set s.words 0 (get_or s.words 0 0); homes = s.homes; views = set s.views id w }
  same_words s id w k = subst (λ (ws : List ℕ). Rule record { words = ws; homes = s.homes; views = set s.views id w }) (sym (set-get_or s.words 0 0)) k

  look : (s : Table T) (r : Rule s) (id : ℕ) (v : View T) → get_elem? s.views id ≡ some v → v.live ≡ true → (b : Bool) → nat_lt (get_or s.words 0 0 % SERIAL_STEP) MAX_BEGINS ≡ b
      → IsKept stands first r.log (moment_of (record { words = s.words; homes = s.homes; views = set s.views id (cond b (checking v r.log) (worn v r.log)) }) r.slot)
  look s r id v at live true is = step_check stands first r.log (moment_of s r.slot) r.kept id v at live
      (subst (λ (z : ℕ). z < MAX_BEGINS) (parts (get_or s.words 0 0) (state_at r.log).serial (begins_in r.log (state_at r.log).serial) r.kept.counts.packed_is (few_now s r)).0 (is-less (get_or s.words 0 0 % SERIAL_STEP) MAX_BEGINS is))
  look s r id v at live false is = step_worn stands first r.log (moment_of s r.slot) r.kept id v at live

  pub looks_for_room : (slots id : ℕ) (m : AtSeat T) → m.0.live ≡ true → Allows Rule slots id m 0 (λ n. n) (has_checked (step slots 0 0 0 none) m)
  looks_for_room slots id m live s r deep at low =
      let v : View T = m.0 in
      let w : View T = cond (nat_lt (get_or s.words 0 0 % SERIAL_STEP) MAX_BEGINS) (checking v r.log) (worn v r.log) in (
        w,
        keeps,
        tt,
        same_words s id w record {
          log = r.log;
          slot = r.slot;
          kept = look s r id v at live (nat_lt (get_or s.words 0 0 % SERIAL_STEP) MAX_BEGINS) refl;
          wide = r.wide;
          deep = r.deep;
          home = r.home;
        },
        (r.log, found_by s r id v at live, (parts (get_or s.words 0 0) (state_at r.log).serial (begins_in r.log (state_at r.log).serial) r.kept.counts.packed_is (few_now s r)).0, refl),
      )

  -- ---- begin

  pub begins : (slots id : ℕ) (m : AtSeat T) → m.0.live ≡ true → m.0.ticket ≡ None → m.0.checked ≡ true → Allows Rule slots id m 0 (λ n. (n + 1) % 2 ^ 64) (has_begun (step slots 0 1 0 none) m)
  begins slots id m live idle checked s r deep at low =
      let v : View T = m.0 in
      let host : Host = state_at r.log in
      let p : ℕ = get_or s.words 0 0 in
      let few = few_begun stands first r.log (moment_of s r.slot) r.kept id v at live idle checked in
      let whole : (p + 1) % 2 ^ 64 ≡ p + 1 = no_wrap p host.serial (begins_in r.log host.serial) (cond host.halted 1 0) r.kept.counts.packed_is few r.kept.order.room (at_most host.halted) in
      let serial_is : p / SERIAL_STEP ≡ host.serial = (parts p host.serial (begins_in r.log host.serial) r.kept.counts.packed_is (few_now s r)).1 in
      let w : View T = begun v r.log host.serial in
      let log' : List Signed = r.log ++ signed v.number (Begin v.number host.serial) ∷ [] in
      let after' : Table T = stepped s 0 (p + 1) id m.1 w keeps in (
        w,
        keeps,
        tt,
        subst (λ (n : ℕ). Rule (stepped s 0 n id m.1 w keeps)) (sym whole) record {
          log = log';
          slot = r.slot;
          kept = shows log' r.slot after' (p + 1) (get_or s.words 1 0) (get_or s.words 2 0) (drop 3 s.words)
              (get_or-set_same s.words 0 (p + 1) 0 (let l = r.wide in omega arith)) (get_or-set_other s.words 0 1 (p + 1) 0 (λ e. omega arith)) (get_or-set_other s.words 0 2 (p + 1) 0 (λ e. omega arith))
              (drop-set-lt 3 s.words 0 (p + 1) (omega arith))
              (step_begin stands first r.log (moment_of s r.slot) r.kept id v at live idle checked);
          wide = length-set s.words 0 (p + 1) ∙ r.wide;
          deep = r.deep;
          home = r.home;
        },
        (
          r.log,
          w,
          refl,
          record {
            found = found_by s r id v at live;
            is = ap (begun v r.log) (sym serial_is);
            current = serial_is;
            history = subst (λ (n : ℕ). Rattle.cd_legal.specs.Signing.IsHistory (r.log ++ signed v.number (Begin v.number n) ∷ [])) (sym serial_is) (history_begun stands first r.log (moment_of s r.slot) r.kept id v at live idle checked);
          },
        ),
      )

  -- ---- finish

  -- which serial is unsettled, by the view that has the turn
  unsettled_by : (s : Table T) (r : Rule s) (id : ℕ) (v : View T) → get_elem? s.views id ≡ some v → v.live ≡ true → v.unsettled ≡ None → UnsettledThen (state_at r.log) v.number r.kept.unsettled
  unsettled_by s r id v at live quiet = record {
    last = r.kept.order.last;
    lent = λ n is on. dite (ℕ_discrete (moment_of s r.slot).turn 0)
        (λ free. absurd (none_some r.kept.unsettled n (r.kept.free free).2 is))
        (λ held. let t = (r.kept.taken (pos (moment_of s r.slot).turn held)).0 in
        let u : View T = t.1 in
        let f = r.kept.each t.0 u t.2 in
        let g = f.holds t.3 in
        let l = mapped (λ (z : Unsettled). z.serial) u.unsettled n (g.3 ∙ is) in (
          u.number,
          (λ same. none_some v.unsettled l.0 quiet (ap (λ (z : View T). z.unsettled) (some-injective _ _ (sym at ∙ (ap (get_elem? s.views) (sym (r.kept.numbers.apart t.0 id u v t.2 at g.0 live same)) ∙ t.2))) ∙ l.1)),
          sym (owed-ticket r.log u.number r.kept.history) ∙ (ap (λ (o : Owes). o.ticket) (f.owes g.0) ∙ (f.lends l.0 l.1 on ∙ ap (λ (z : ℕ). Some z) l.2)),
        ));
  }
    where
      pos : (z : ℕ) → z ≢ 0 → 0 < z
      pos z ne = grind arith

  pub finishes : (slots id i n : ℕ) (m : AtSeat T) → m.0.live ≡ true → m.0.ticket ≡ Some n → m.0.unsettled ≡ None → i ≡ 3 + cond (is_halt (state_at m.0.seen) n) 0 (1 + n % MAX_UNRETIRED)
      → Allows Rule slots id m i (λ b. (b + (2 ^ 64 - 1)) % 2 ^ 64) (has_ended (step slots i 1 0 none) m)
  finishes slots id i n m live ticket quiet place_is s r deep at low =
      let v : View T = m.0 in
      let host : Host = state_at r.log in
      let now : Moment T = moment_of s r.slot in
      let f = r.kept.each id v at in
      let p : ℕ = place_of host n in
      let seen_n = ticket_seen v.number n v.seen r.log r.kept.history f.seen (f.own live ∙ sym (f.own_seen live)) (has stands first r.log now r.kept id v at live n ticket quiet) in
      let same : is_halt host n ≡ is_halt (state_at v.seen) n = halt_seen v.seen r.log n f.seen r.kept.history.is_legal seen_n in
      let here : 3 + p ≡ i = ap (λ (b : Bool). 3 + cond b 0 (1 + n % MAX_UNRETIRED)) same ∙ sym place_is in
      subst (λ (j : ℕ). (get_or s.words j 0 < 2 ^ 64) → (w : View T) × (a : _) × Rattle.atomic_table.specs.Table.Valid s.homes m.1 a × Rule (stepped s j ((get_or s.words j 0 + (2 ^ 64 - 1)) % 2 ^ 64) id m.1 w a) × has_ended (step slots j 1 0 none) m (get_or s.words j 0) (w, Rattle.atomic_table.specs.Table.carried_after m.1 a)) here
      (λ low'. at_place slots id n m live ticket quiet s r at low') low
    where
      at_place : (slots id n : ℕ) (m : AtSeat T) → m.0.live ≡ true → m.0.ticket ≡ Some n → m.0.unsettled ≡ None → (s : Table T) (r : Rule s) → get_elem? s.views id ≡ some m.0 → get_or s.words (3 + place_of (state_at r.log) n) 0 < 2 ^ 64
          → (w : View T) × (a : _) × Rattle.atomic_table.specs.Table.Valid s.homes m.1 a × Rule (stepped s (3 + place_of (state_at r.log) n) ((get_or s.words (3 + place_of (state_at r.log) n) 0 + (2 ^ 64 - 1)) % 2 ^ 64) id m.1 w a)
          × has_ended (step slots (3 + place_of (state_at r.log) n) 1 0 none) m (get_or s.words (3 + place_of (state_at r.log) n) 0) (w, Rattle.atomic_table.specs.Table.carried_after m.1 a)
      at_place slots id n m live ticket quiet s r at low =
          let v : View T = m.0 in
          let host : Host = state_at r.log in
          let now : Moment T = moment_of s r.slot in
          let p : ℕ = place_of host n in
          let g : ℕ = get_or s.words (3 + p) 0 in
          let g_is : get_or (drop 3 s.words) p 0 ≡ g = get_or-drop 3 s.words p 0 in
          let opened = Rattle.cd_legal.proofs.Callers.ticket-open v.number n host.tickets (has stands first r.log now r.kept id v at live n ticket quiet) in
          let some_left : 0 < g = subst (λ (z : ℕ). 0 < z) g_is (positive now.packed now.balances host r.kept.unsettled r.kept.edge (begins_in r.log) r.kept.order r.kept.counts n (born stands first r.log now r.kept id v at live n ticket quiet) (used stands first r.log now r.kept id v at live n ticket quiet) (pos (Rattle.cd_legal.specs.State.open_at n host.tickets) opened)) in
          let whole : (g + (2 ^ 64 - 1)) % 2 ^ 64 ≡ g - 1 = one_off g some_left low in
          let w : View T = finished v r.log n (g == 1) in
          let log' : List Signed = r.log ++ signed v.number (Finish v.number) ∷ [] in
          let after' : Table T = stepped s (3 + p) (g - 1) id m.1 w keeps in (
            w,
            keeps,
            tt,
            subst (λ (z : ℕ). Rule (stepped s (3 + p) z id m.1 w keeps)) (sym whole) record {
              log = log';
              slot = r.slot;
              kept = shows log' r.slot after' (get_or s.words 0 0) (get_or s.words 1 0) (get_or s.words 2 0) (set (drop 3 s.words) p (g - 1))
                  (get_or-set_other s.words (3 + p) 0 (g - 1) 0 (λ e. omega arith)) (get_or-set_other s.words (3 + p) 1 (g - 1) 0 (λ e. omega arith)) (get_or-set_other s.words (3 + p) 2 (g - 1) 0 (λ e. omega arith))
                  (drop-set-add 3 s.words p (g - 1))
                  (subst (λ (z : ℕ). IsKept stands first log' (record { packed = get_or s.words 0 0; turn = get_or s.words 1 0; counted = get_or s.words 2 0; balances = set (drop 3 s.words) p (z - 1); board = r.slot; views = set s.views id (finished v r.log n (z == 1)) })) g_is
                  (step_finish stands first r.log now r.kept id v at live n ticket quiet));
              wide = length-set s.words (3 + p) (g - 1) ∙ r.wide;
              deep = r.deep;
              home = r.home;
            },
            (λ q is. let due_is : (g == 1) ≡ is_due (after host (Finish v.number)) r.kept.unsettled q = ap (λ (z : ℕ). z == 1) (sym g_is) ∙ (sym (due_now stands first r.log now r.kept id v at live n ticket quiet) ∙ ap (is_due (after host (Finish v.number)) r.kept.unsettled) (some_is n q (sym ticket ∙ is))) in (
              r.log,
              w,
              refl,
              record {
                found = found_by s r id v at live;
                is = ap (λ (z : ℕ). finished v r.log z (g == 1)) (some_is n q (sym ticket ∙ is));
                running = has stands first r.log now r.kept id v at live n ticket quiet ∙ (sym ticket ∙ is);
                history = history_ended stands first r.log now r.kept id v at live n ticket quiet;
                unsettled = r.kept.unsettled;
                unsettled_then = unsettled_by s r id v at live quiet;
                due_is = due_is;
                may = λ due. due_allowed stands first r.log now r.kept id v at live n ticket quiet q (sym due_is ∙ due);
              },
            )),
          )
        where
          pos : (z : ℕ) → 1 ≤ z → 0 < z
          pos z le = omega arith
