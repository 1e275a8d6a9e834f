-- A serial is superseded: the coming balance is made ready, the word of the serials is swapped, and the old balance is settled.
use Rattle.std.proofs.Common.{◌≡◌, ◌≢◌, ℕ, ◌+◌, ◌*◌, ◌%◌, ◌^◌, ◌<◌, ◌≤◌, ◌==◌, Bool, true, false, not, cond, nat_lt, List, [], ◌∷◌, ◌++◌, get_or, set, Option, Some, None, refl, sym, ap, ◌∙◌, subst, ⊎_elim, arith, eq-eqb, ne_eqb}
use Rattle.std.specs.Prelude.{◌&&◌, option_map}
use Rattle.std.proofs.lemmas.Bool.{eqb-true}
use mathlib.Core.Option.{some}
use lib.ListN.{get_elem?}
use Rattle.atomic_table.proofs.Lists.{set_here}
use Rattle.cd_legal.specs.declared.entry.Change.{Change}
use Rattle.cd_legal.specs.declared.entry.Entry.{Entry}
use Rattle.cd_legal.specs.declared.entry.Entry.TheVariants.{Publish, Halt}
use Rattle.cd_legal.specs.declared.entry.Signed.{Signed}
use Rattle.cd_legal.specs.declared.limits.TheConstants.{LAST_SERIAL, MAX_UNRETIRED}
use Rattle.cd_gate.specs.declared.table.TheConstants.{FULL_BALANCE, SERIAL_STEP}
use Rattle.cd_legal.specs.declared.state.State.{State}
use Rattle.cd_legal.specs.Begins.{begins_at}
use Rattle.cd_legal.specs.Entry.{signed, entries}
use Rattle.cd_legal.specs.Laws.{core_at, bare}
use Rattle.cd_legal.specs.Legal.{allowed, after, state_at}
use Rattle.cd_legal.specs.Owing.{Owes}
use Rattle.cd_legal.specs.Signing.{IsHistory, may_sign}
use Rattle.cd_legal.specs.State.{has_number, is_ticketed, open_at, apps_stopped}
use Rattle.cd_legal.proofs.Callers.{none_unborn}
use Rattle.cd_legal.proofs.Facts.{Publishes, can, not-false}
use Rattle.cd_legal.proofs.Histories.{both, second}
use Rattle.cd_legal.proofs.Logs.{history-snoc, state-snoc}
use Rattle.cd_legal.proofs.Serials.{legal-agree, retired-below}
use Rattle.cd_gate.specs.declared.view.View.{View}
use Rattle.cd_gate.specs.declared.view.Unsettled.{Unsettled}
use Rattle.cd_gate.specs.Counts.{is_ready, is_noted, place_of, Counts, Ordered, Crowd, begins_in}
use Rattle.cd_gate.specs.Duties.{is_settled, is_due}
use Rattle.cd_gate.specs.Rule.{Fits, IsKept, unsettled_in}
use Rattle.cd_gate.specs.Steps.{readied, superseded, settled, reset, supersede, settle}
use Rattle.cd_gate.specs.Words.{Moment, owed}
use Rattle.cd_gate.proofs.Balances.{settled_is, settled_low, settled_no, unsettled_no, place_open, place_low, place_halted, running, counts_reset, counts_superseded, counts_settle, unsettled_sum, unsettled_few}
use Rattle.cd_gate.proofs.Dues.{duties_same, duties_given}
use Rattle.cd_gate.proofs.Entries.{bare_same, begins_kept, noted_kept, allowed_same}
use Rattle.cd_gate.proofs.Frames.{goes_nowhere, goes_on, none_some, others_wait, fits_more, next, not_free}
use Rattle.cd_gate.proofs.Numbers.{tells, off}
use Rattle.cd_gate.proofs.Orders.{ordered_reset, ordered_superseded, ordered_settle}
use Rattle.cd_gate.proofs.Requesting.{crowd_same}
use Rattle.cd_gate.proofs.Retiring.{apps_stay}
use Rattle.cd_gate.proofs.Tickets.{ticketed-is}
use Rattle.cd_gate.proofs.Views.{in_range}

module _ {T : Type 0} (stands : T → T → List Signed → Type 0) (opening : T) (log : List Signed) (m : Moment T) (r : IsKept stands opening log m) (id : ℕ) (v : View T) (at : get_elem? m.views id ≡ some v) (has : v.turn ≡ true) where
  abbrev s : State
  s = state_at log

  fit : Fits opening m.turn log r.unsettled r.edge v
  fit = r.each id v at

  held : (v.live ≡ true) × (m.turn ≡ v.number + 1) × (core_at v.seen ≡ core_at log) × (unsettled_in v ≡ r.unsettled) × (v.ready ≡ is_ready s r.edge)
  held = fit.holds has

  live : v.live ≡ true
  live = held.0

  self : (n : ℕ) → n ≤ n
  self n = omega arith

  -- what the pass has seen is the state, but for the tickets
  pub seen_bare : bare (state_at v.seen) ≡ bare s
  seen_bare = bare_same log v.seen held.2

  pub seen_serial : (state_at v.seen).serial ≡ s.serial
  seen_serial = ap (λ (z : State). z.serial) seen_bare

  pub seen_halted : (state_at v.seen).halted ≡ s.halted
  seen_halted = ap (λ (z : State). z.halted) seen_bare

  pub seen_retired : (n : ℕ) → has_number n (state_at v.seen).retired ≡ has_number n s.retired
  seen_retired n = ap (λ (z : State). has_number n z.retired) seen_bare

  pub seen_stopped : (n : ℕ) → apps_stopped (state_at v.seen) n ≡ apps_stopped s n
  seen_stopped n = ap (λ (z : State). apps_stopped z n) seen_bare

  unsettled_by : v.unsettled ≡ None → r.unsettled ≡ None
  unsettled_by quiet = sym held.3 ∙ ap (λ (o : Option Unsettled). option_map (λ (z : Unsettled). z.serial) o) quiet

  -- its view fits, whatever else it says of serials and of duties
  still : (w : View T) → w ≡ record v { ready = w.ready; unsettled = w.unsettled; duties = w.duties } → (unsettled' : Option ℕ) (edge' : ℕ) → unsettled_in w ≡ unsettled' → w.ready ≡ is_ready s edge'
      → ((l : Unsettled) → w.unsettled ≡ Some l → l.begins ≡ begins_in log l.serial) → ((l : Unsettled) → w.unsettled ≡ Some l → s.halted ≡ false → v.ticket ≡ Some l.serial) → Fits opening m.turn log unsettled' edge' w
  still w is unsettled' edge' left ready begun lends = subst (Fits opening m.turn log unsettled' edge') (sym is) record {
    opened = fit.opened;
    seen = fit.seen;
    older = fit.older;
    own = fit.own;
    own_seen = fit.own_seen;
    owes = fit.owes;
    holds = λ _. (live, held.1, held.2, left, ready);
    waits = λ idle. absurd (off (sym idle ∙ has));
    begun = begun;
    lends = lends;
    checks = fit.checks;
  }

  -- ---- reset

  abbrev w_ready : View T
  w_ready = readied v

  abbrev ready_balances : List ℕ
  ready_balances = set m.balances (1 + (s.serial + 1) % MAX_UNRETIRED) FULL_BALANCE

  reset_here : s.halted ≡ false → r.unsettled ≡ None → ((k : ℕ) → k + MAX_UNRETIRED ≡ s.serial + 1 → has_number k s.retired ≡ true) → IsKept stands opening log (reset m id v s.serial)
  reset_here on alone reused =
      let ready_now : is_ready s (s.serial + 1) ≡ true = both (not s.halted) _ (not-false s.halted on) (eq-eqb (s.serial + 1) (s.serial + 1) refl) in
      next stands opening log m r id v w_ready at live refl refl log r.unsettled (s.serial + 1) m.packed m.turn m.counted ready_balances m.board
      r.history r.counted (ordered_reset s r.unsettled r.edge r.order on alone reused) (counts_reset m.packed m.balances s r.unsettled r.edge (begins_in log) r.order r.counts on)
      (crowd_same stands opening log m r id v at live w_ready live refl refl (begins_in log s.serial) (self (begins_in log s.serial)))
      (still w_ready refl r.unsettled (s.serial + 1) held.3 (sym ready_now) fit.begun fit.lends)
      (goes_nowhere log v.number) (λ j u apart e also. absurd (others_wait stands opening log m r id v at has j u apart e also))
      (duties_same m.views id v w_ready at live live (is_due s r.unsettled) (is_due s r.unsettled) r.duties (λ k. refl) refl)
      (not_free stands opening log m r id v w_ready at live refl refl log r.unsettled (s.serial + 1) m.packed m.turn m.counted ready_balances m.board refl refl has)
      (λ more. ((id, w_ready, set_here m.views id w_ready (in_range m.views id v at), has), (r.taken more).1))

  -- the balance of the serial after n, which is current, is made ready
  pub step_reset : (n : ℕ) → n ≡ (state_at v.seen).serial → (state_at v.seen).halted ≡ false → v.unsettled ≡ None → ((k : ℕ) → k + MAX_UNRETIRED ≡ n + 1 → has_number k (state_at v.seen).retired ≡ true) → IsKept stands opening log (reset m id v n)
  step_reset n is on quiet free = subst (λ (z : ℕ). IsKept stands opening log (reset m id v z)) (sym (is ∙ seen_serial))
      (reset_here (sym seen_halted ∙ on) (unsettled_by quiet) (λ k e. sym (seen_retired k) ∙ free k (e ∙ ap (λ (z : ℕ). z + 1) (sym (is ∙ seen_serial)))))

  -- ---- publish and halt

  -- an entry that supersedes the serial n, with what is asked of it
  pub record Supersedes (n : ℕ) (e : Entry) : Type 0 where
    pub current : n ≡ (state_at v.seen).serial
    pub allows : allowed s e ≡ true
    pub signs : may_sign v.number (owed v) e ≡ true
    pub unnoted : is_noted e ≡ false
    pub begins_none : (k : ℕ) → begins_at k (e ∷ []) ≡ 0
    pub runs : s.halted ≡ false
    pub serial : (after s e).serial ≡ s.serial + 1
    pub tickets : (after s e).tickets ≡ s.tickets
    pub retired : (after s e).retired ≡ s.retired
    pub ticket : (after s e).halted ≡ false → (Rattle.cd_legal.specs.Owing.owes_by (owed v) e).ticket ≡ Some n
    -- the balance of the new serial is ready
    pub fresh : get_or m.balances (place_of (after s e) (s.serial + 1)) 0 ≡ FULL_BALANCE
    pub places : (k : ℕ) → k ≤ s.serial → place_of (after s e) k ≡ place_of s k
    pub unready : is_ready (after s e) r.edge ≡ false
    pub low : s.serial + 1 ≤ r.edge + cond (after s e).halted 1 0
    pub high : r.edge + cond (after s e).halted 1 0 ≤ s.serial + 2
    pub room : s.serial + 1 ≤ LAST_SERIAL + cond (after s e).halted 1 0

  module _ (n : ℕ) (e : Entry) (quiet : v.unsettled ≡ None) (u : Supersedes n e) where
    abbrev log' : List Signed
    log' = log ++ signed v.number e ∷ []

    abbrev w : View T
    w = superseded v log e n (begins_in log n)

    is_serial : n ≡ s.serial
    is_serial = u.current ∙ seen_serial

    state_now : state_at log' ≡ after s e
    state_now = state-snoc log (signed v.number e)

    begins_same : (k : ℕ) → begins_in log' k ≡ begins_in log k
    begins_same k = begins_kept log v.number e k (u.begins_none k)

    pub history_now : IsHistory log'
    history_now = history-snoc log (signed v.number e) r.history u.allows (ap (λ (o : Owes). may_sign v.number o e) (fit.owes live) ∙ u.signs)

    current_unretired : has_number s.serial s.retired ≡ false
    current_unretired = ⊎_elim (λ q. absurd (wrong s.serial (retired-below (entries log) s.serial r.history.is_legal q))) (λ q. q) (tells (has_number s.serial s.retired))
      where
        wrong : (k : ℕ) → k < k → ⊥
        wrong k low = absurd (omega arith)

    order_now : Ordered (after s e) (Some s.serial) r.edge
    order_now = ordered_superseded s r.unsettled r.edge r.order (after s e) (unsettled_by quiet) u.serial (λ k h. ap (has_number k) u.retired ∙ h) (ap (has_number s.serial) u.retired ∙ current_unretired)
        (λ k low h. apps_stay s k e (legal-agree (entries log) r.history.is_legal) u.allows low h) u.low u.high u.room u.unready

    counts_now : Counts ((s.serial + 1) * SERIAL_STEP) m.balances (after s e) (Some s.serial) r.edge (begins_in log')
    counts_now = counts_superseded m.packed m.balances s r.unsettled r.edge (begins_in log) r.order r.counts (after s e) (begins_in log') begins_same (unsettled_by quiet) u.serial u.tickets
        (none_unborn (entries log) (s.serial + 1) r.history.is_legal (up s.serial)) u.fresh u.places u.unready (λ h. u.runs)
      where
        up : (k : ℕ) → k < k + 1
        up k = omega arith

    -- no serial becomes due, and none stops being so
    due_same : (k : ℕ) → is_due (after s e) (Some s.serial) k ≡ is_due s r.unsettled k
    due_same k =
        ap (λ (b : Bool). b && (not (has_number k (after s e).retired) && not (is_ticketed k (after s e).tickets))) (settles k)
        ∙ (ap (λ (l : List ℕ). is_settled s r.unsettled k && (not (has_number k l) && not (is_ticketed k (after s e).tickets))) u.retired
        ∙ ap (λ l. is_settled s r.unsettled k && (not (has_number k s.retired) && not (is_ticketed k l))) u.tickets)
      where
        agree : (a b : Bool) → (a ≡ true → b ≡ true) → (b ≡ true → a ≡ true) → a ≡ b
        agree true b f g = sym (f refl)
        agree false true f g = g refl
        agree false false f g = refl

        below : (k x y : ℕ) → y ≡ x + 1 → k < y → k ≢ x → k < x
        below k x y e low ne = grind arith

        above : (k x y : ℕ) → y ≡ x + 1 → k < x → k < y
        above k x y e low = omega arith

        apart : (k x : ℕ) → k < x → ◌≡◌ {A = Option ℕ} (Some x) (Some k) → ⊥
        apart k x low e = let same : x ≡ k = cc in absurd (omega (arith, low, same))

        settles : (k : ℕ) → is_settled (after s e) (Some s.serial) k ≡ is_settled s r.unsettled k
        settles k = agree _ _
            (λ h. settled_is s r.unsettled k (below k s.serial (after s e).serial u.serial (settled_low (after s e) (Some s.serial) k h)
            (λ is. Rattle.cd_gate.proofs.Balances.settled_not (after s e) (Some s.serial) k h (ap (λ (z : ℕ). Some z) (sym is)))) (λ is. none_some r.unsettled k (unsettled_by quiet) is))
            (λ h. let low = settled_low s r.unsettled k h in settled_is (after s e) (Some s.serial) k (above k s.serial (after s e).serial u.serial low) (λ is. apart k s.serial low is))

    begins_now : begins_in log' (after s e).serial ≤ begins_in log s.serial
    begins_now = zero_le (begins_in log' (after s e).serial) (begins_in log s.serial) (begins_same (after s e).serial ∙ r.counts.unbegun (after s e).serial (up s.serial (after s e).serial u.serial))
      where
        up : (x y : ℕ) → y ≡ x + 1 → x < y
        up x y e = omega arith

        zero_le : (a b : ℕ) → a ≡ 0 → a ≤ b
        zero_le a b e = omega arith

    pub step_supersede : IsKept stands opening log' (supersede m id v log e n (begins_in log n))
    step_supersede = subst (λ (z : ℕ). IsKept stands opening log' (record { packed = (z + 1) * SERIAL_STEP; turn = m.turn; counted = m.counted; balances = m.balances; board = m.board; views = set m.views id w })) (sym is_serial)
        (next stands opening log m r id v w at live refl refl log' (Some s.serial) r.edge ((s.serial + 1) * SERIAL_STEP) m.turn m.counted m.balances m.board
        history_now
        (r.counted ∙ ap (λ (z : ℕ). z % 2 ^ 64) (sym (noted_kept log v.number e u.unnoted)))
        (subst (λ (z : State). Ordered z (Some s.serial) r.edge) (sym state_now) order_now)
        (subst (λ (z : State). Counts ((s.serial + 1) * SERIAL_STEP) m.balances z (Some s.serial) r.edge (begins_in log')) (sym state_now) counts_now)
        (subst (λ (z : State). Crowd (begins_in log' z.serial) (set m.views id w)) (sym state_now) (crowd_same stands opening log m r id v at live w live refl refl (begins_in log' (after s e).serial) begins_now))
        (fits_more opening m.turn log r.unsettled r.edge v e fit w refl (Some s.serial)
        (λ _. (ap (λ (z : ℕ). Some z) is_serial, sym (ap (λ (z : State). is_ready z r.edge) state_now ∙ u.unready))) (λ idle. absurd (off (sym idle ∙ has))) begun_by
        (λ l is on. u.ticket (ap (λ (z : State). z.halted) (sym state_now) ∙ on) ∙ ap (λ (z : Unsettled). Some z.serial) (some_is _ l is)) fit.checks)
        (goes_on log v.number e (λ h. u.runs)) (λ j x apart e' also. absurd (others_wait stands opening log m r id v at has j x apart e' also))
        (duties_same m.views id v w at live live (is_due s r.unsettled) (is_due (state_at log') (Some s.serial)) r.duties (λ k. ap (λ (z : State). is_due z (Some s.serial) k) state_now ∙ due_same k) refl)
        (not_free stands opening log m r id v w at live refl refl log' (Some s.serial) r.edge ((s.serial + 1) * SERIAL_STEP) m.turn m.counted m.balances m.board refl refl has)
        (λ more. ((id, w, set_here m.views id w (in_range m.views id v at), has), (r.taken more).1)))
      where
        some_is : (x y : Unsettled) → ◌≡◌ {A = Option Unsettled} (Some x) (Some y) → x ≡ y
        some_is x y e = cc

        begun_by : (l : Unsettled) → ◌≡◌ {A = Option Unsettled} (Some (record { serial = n; begins = begins_in log n })) (Some l) → l.begins ≡ begins_in log' l.serial
        begun_by l is = let same = some_is _ l is in ap (λ (z : Unsettled). z.begins) (sym same) ∙ (sym (begins_same n) ∙ ap (λ (z : Unsettled). begins_in log' z.serial) same)

  -- a Publish, where the coming balance is ready and the pass has a ticket at the old serial
  pub publishes : (d k n : ℕ) (c : Change) → n ≡ (state_at v.seen).serial → allowed (state_at v.seen) (Publish d k n c) ≡ true → may_sign v.number (owed v) (Publish d k n c) ≡ true → v.unsettled ≡ None → v.ready ≡ true → v.ticket ≡ Some n → n < LAST_SERIAL
      → Supersedes n (Publish d k n c)
  publishes d k n c is may signs quiet ready ticket low =
      let allows : allowed s (Publish d k n c) ≡ true = allowed_same v.seen log (Publish d k n c) refl (sym held.2) ∙ may in
      let f : Publishes s d k n = can s (Publish d k n c) allows in
      let next_is : k ≡ s.serial + 1 = f.next ∙ ap (λ (z : ℕ). z + 1) f.current in
      let now_ready : is_ready s r.edge ≡ true = sym held.4 ∙ ready in
      let edge_is : r.edge ≡ s.serial + 1 = eqb-true r.edge (s.serial + 1) (second (not s.halted) _ now_ready) in
      record {
        current = is;
        allows = allows;
        signs = signs;
        unnoted = refl;
        begins_none = λ j. refl;
        runs = f.running;
        serial = next_is;
        tickets = refl;
        retired = refl;
        ticket = λ _. ticket;
        fresh = ap (λ (z : ℕ). get_or m.balances z 0) (place_open (after s (Publish d k n c)) (s.serial + 1) (running (after s (Publish d k n c)) (s.serial + 1) f.running) ∙ ap (λ (z : ℕ). 1 + z % MAX_UNRETIRED) (sym edge_is)) ∙ r.counts.coming now_ready;
        places = λ j le. place_open (after s (Publish d k n c)) j (running (after s (Publish d k n c)) j f.running) ∙ sym (place_open s j (running s j f.running));
        unready = ap (λ (b : Bool). not s.halted && b) (ne_eqb r.edge (k + 1) (far r.edge k s.serial edge_is next_is)) ∙ none (not s.halted);
        low = less s.serial r.edge (cond s.halted 1 0) edge_is;
        high = above s.serial r.edge (cond s.halted 1 0) edge_is (ap (λ (b : Bool). cond {A = ℕ} b 1 0) f.running);
        room = fits s.serial n (cond s.halted 1 0) f.current low;
      }
    where
      far : (e k x : ℕ) → e ≡ x + 1 → k ≡ x + 1 → e ≢ k + 1
      far e k x p q = λ same. absurd (omega arith)

      none : (b : Bool) → (b && false) ≡ false
      none true = refl
      none false = refl

      less : (x e c : ℕ) → e ≡ x + 1 → x + 1 ≤ e + c
      less x e c is = omega arith

      above : (x e c : ℕ) → e ≡ x + 1 → c ≡ 0 → e + c ≤ x + 2
      above x e c is zero = omega arith

      fits : (x n c : ℕ) → n ≡ x → n < LAST_SERIAL → x + 1 ≤ LAST_SERIAL + c
      fits x n c is low = omega arith

  -- a Halt
  pub halts : (n : ℕ) → n ≡ (state_at v.seen).serial → (state_at v.seen).halted ≡ false → Supersedes n (Halt (n + 1))
  halts n is on =
      let running_now : s.halted ≡ false = sym seen_halted ∙ on in
      let here : n ≡ s.serial = is ∙ seen_serial in
      let next_is : n + 1 ≡ s.serial + 1 = ap (λ (z : ℕ). z + 1) here in
      record {
        current = is;
        allows = both (not s.halted) _ (not-false s.halted running_now) (eq-eqb (n + 1) (s.serial + 1) next_is);
        signs = refl;
        unnoted = refl;
        begins_none = λ j. refl;
        runs = running_now;
        serial = next_is;
        tickets = refl;
        retired = refl;
        ticket = λ h. absurd (off (sym h));
        fresh = ap (λ (z : ℕ). get_or m.balances z 0) (place_halted (after s (Halt (n + 1))) (s.serial + 1) (eq-eqb (s.serial + 1) (n + 1) (sym next_is))) ∙ r.counts.halting running_now;
        places = λ j le. place_low (after s (Halt (n + 1))) j (below j n s.serial le here) ∙ sym (place_open s j (running s j running_now));
        unready = refl;
        low = low_by s.serial r.edge (cond s.halted 1 0) (ap (λ (b : Bool). cond {A = ℕ} b 1 0) running_now) r.order.low;
        high = high_by s.serial r.edge (cond s.halted 1 0) r.order.high;
        room = room_by s.serial (cond s.halted 1 0) (ap (λ (b : Bool). cond {A = ℕ} b 1 0) running_now) r.order.room;
      }
    where
      below : (j n x : ℕ) → j ≤ x → n ≡ x → j ≢ n + 1
      below j n x le is = λ e. absurd (omega arith)

      low_by : (x e c : ℕ) → c ≡ 0 → x ≤ e + c → x + 1 ≤ e + 1
      low_by x e c zero low = omega arith

      high_by : (x e c : ℕ) → e + c ≤ x + 1 → e + 1 ≤ x + 2
      high_by x e c high = omega arith

      room_by : (x c : ℕ) → c ≡ 0 → x ≤ LAST_SERIAL + c → x + 1 ≤ LAST_SERIAL + 1
      room_by x c zero le = omega arith

  -- ---- settle

  -- the balance of the serial that the view has not settled
  pub sum_known : (u : Unsettled) → v.unsettled ≡ Some u → get_or m.balances (1 + u.serial % MAX_UNRETIRED) 0 + u.begins ≡ FULL_BALANCE + open_at u.serial s.tickets
  sum_known u is =
      let there : r.unsettled ≡ Some u.serial = sym held.3 ∙ ap (λ (o : Option Unsettled). option_map (λ (z : Unsettled). z.serial) o) is in
      ap (λ (z : ℕ). get_or m.balances (1 + u.serial % MAX_UNRETIRED) 0 + z) (fit.begun u is)
      ∙ unsettled_sum m.packed m.balances s r.unsettled r.edge (begins_in log) r.order r.counts u.serial there

  module _ (n b : ℕ) (unsettled : v.unsettled ≡ Some (record { serial = n; begins = b })) (stopped : apps_stopped (state_at v.seen) n ≡ true) where
    pub is_unsettled : r.unsettled ≡ Some n
    is_unsettled = sym held.3 ∙ ap (λ (o : Option Unsettled). option_map (λ (z : Unsettled). z.serial) o) unsettled

    pub begins_are : b ≡ begins_in log n
    begins_are = fit.begun (record { serial = n; begins = b }) unsettled

    abbrev open_now : ℕ
    open_now = open_at n s.tickets

    pub sum_now : get_or m.balances (1 + n % MAX_UNRETIRED) 0 + begins_in log n ≡ FULL_BALANCE + open_now
    sum_now = unsettled_sum m.packed m.balances s r.unsettled r.edge (begins_in log) r.order r.counts n is_unsettled

    pub few_now : begins_in log n < SERIAL_STEP
    few_now = unsettled_few m.packed m.balances s r.unsettled r.edge (begins_in log) r.order r.counts n is_unsettled

    abbrev w_settled : View T
    w_settled = settled v n (open_now == 0)

    none_settled : is_settled s None n ≡ true
    none_settled = settled_is s None n (below n s.serial (r.order.last n is_unsettled)) (λ e. none_some None n refl e)
      where
        below : (n x : ℕ) → n + 1 ≡ x → n < x
        below n x e = omega arith

    pub due_settled : is_due s None n ≡ (open_now == 0)
    due_settled = ap (λ (q : Bool). q && (not (has_number n s.retired) && not (is_ticketed n s.tickets))) none_settled
        ∙ (ap (λ (q : Bool). not q && not (is_ticketed n s.tickets)) (r.order.fresh n is_unsettled)
        ∙ (ap (λ (q : Bool). not q) (ticketed-is n s.tickets) ∙ twice (open_now == 0)))
      where
        twice : (z : Bool) → not (not z) ≡ z
        twice true = refl
        twice false = refl

    due_before : is_due s r.unsettled n ≡ false
    due_before = ap (λ (q : Bool). q && (not (has_number n s.retired) && not (is_ticketed n s.tickets))) (ap (λ (o : Option ℕ). is_settled s o n) is_unsettled ∙ unsettled_no s n)

    due_other : (k : ℕ) → k ≢ n → is_due s None k ≡ is_due s r.unsettled k
    due_other k ne = ap (λ (q : Bool). (nat_lt k s.serial && not q) && (not (has_number k s.retired) && not (is_ticketed k s.tickets)))
        (sym (ap (Rattle.cd_gate.specs.Duties.is_at k) is_unsettled ∙ ne_eqb n k (λ e. ne (sym e))))

    pub step_settle : IsKept stands opening log (settle m id v n open_now)
    step_settle =
        let bs : List ℕ = set m.balances (1 + n % MAX_UNRETIRED) open_now in
        next stands opening log m r id v w_settled at live refl refl log None r.edge m.packed m.turn m.counted bs m.board
        r.history r.counted (ordered_settle s r.unsettled r.edge r.order n is_unsettled (sym (seen_stopped n) ∙ stopped)) (counts_settle m.packed m.balances s r.unsettled r.edge (begins_in log) r.order r.counts n is_unsettled)
        (crowd_same stands opening log m r id v at live w_settled live refl refl (begins_in log s.serial) (self (begins_in log s.serial)))
        (still w_settled refl None r.edge refl held.4 (λ l is. absurd (none_some None l refl is)) (λ l is on. absurd (none_some None l refl is)))
        (goes_nowhere log v.number) (λ j u apart e also. absurd (others_wait stands opening log m r id v at has j u apart e also))
        (duties_given m.views id v w_settled at live live (is_due s r.unsettled) (is_due s None) r.duties n (open_now == 0) due_before due_settled due_other refl)
        (not_free stands opening log m r id v w_settled at live refl refl log None r.edge m.packed m.turn m.counted bs m.board refl refl has)
        (λ more. ((id, w_settled, set_here m.views id w_settled (in_range m.views id v at), has), (r.taken more).1))
