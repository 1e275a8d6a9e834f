-- Requests begin and end, each by one step.
use Rattle.std.proofs.Common.{◌≡◌, ◌≢◌, ◌⊎◌, inl, inr, ℕ, suc, ◌+◌, ◌-◌, ◌*◌, ◌%◌, ◌^◌, ◌<◌, ◌≤◌, ◌==◌, Bool, true, false, not, cond, nat_lt, List, [], ◌∷◌, ◌++◌, get_or, set, Option, Some, None, refl, sym, ap, ◌∙◌, subst, ⊎_elim, arith, ne_eqb}
use Rattle.std.specs.Prelude.{◌&&◌}
use mathlib.Core.Option.{some}
use lib.ListN.{get_elem?}
use Rattle.cd_legal.specs.declared.entry.Entry.{Entry}
use Rattle.cd_legal.specs.declared.entry.Entry.TheVariants.{Begin, Finish}
use Rattle.cd_legal.specs.declared.entry.Signed.{Signed}
use Rattle.cd_legal.specs.declared.limits.TheConstants.{MAX_BEGINS, MAX_PASSES, MAX_UNRETIRED}
use Rattle.cd_gate.specs.declared.table.TheConstants.{SERIAL_STEP}
use Rattle.cd_legal.specs.declared.state.State.{State}
use Rattle.cd_legal.specs.Entry.{signed, entries}
use Rattle.cd_legal.specs.Laws.{core_at}
use Rattle.cd_legal.specs.Legal.{allowed, after, state_at, may_retire, IsLegal}
use Rattle.cd_legal.specs.Signing.{IsHistory}
use Rattle.cd_legal.specs.State.{has_number, has_ticket, is_ticketed, ticket_of, open_at, open_by, without_ticket}
use Rattle.cd_legal.proofs.Callers.{has-ticket_of, one_ticket, ticket-open, ticket-born}
use Rattle.cd_legal.proofs.Facts.{allowed-by}
use Rattle.cd_legal.proofs.Logs.{history-snoc, state-snoc, prefix_trans}
use Rattle.cd_legal.proofs.Owed.{owed-ticket}
use Rattle.cd_gate.specs.declared.view.View.{View}
use Rattle.cd_gate.specs.Counts.{is_ready, place_of, total, Counts, Ordered, Crowd, begins_in}
use Rattle.cd_gate.specs.Duties.{is_settled, is_due}
use Rattle.cd_gate.specs.Rule.{Fits, IsKept}
use Rattle.cd_gate.specs.Steps.{checking, worn, begun, finished, check, begin, finish, with_view}
use Rattle.cd_gate.specs.Words.{Moment}
use Rattle.cd_gate.proofs.Balances.{settled_low, counts_begin, counts_finish, found_one, same_rest}
use Rattle.cd_gate.proofs.Crowd.{total_set, total_le}
use Rattle.cd_gate.proofs.Dues.{duties_same, duties_given}
use Rattle.cd_gate.proofs.Entries.{core_quiet, begins_more, begins_kept, noted_kept}
use Rattle.cd_gate.proofs.Frames.{Stays, goes_nowhere, goes_on, stays_put, none_some, unsettled_known, fits_more, next, free_stays, taken_stays}
use Rattle.cd_gate.proofs.Longer.{prefix_self}
use Rattle.cd_gate.proofs.Numbers.{tells, off}
use Rattle.cd_gate.proofs.Orders.{ordered_same, due_retires}
use Rattle.cd_gate.proofs.Tickets.{ticketed-is, ticketed-same, one_off, one_on, not_reused, retired-free}
use Rattle.cd_gate.proofs.Views.{makes, was}

module _ {T : Type 0} (stands : T → T → List Signed → Type 0) (opening : T) (log : List Signed) (m : Moment T) (r : IsKept stands opening log m) (id : ℕ) (v : View T) (at : get_elem? m.views id ≡ some v) (live : v.live ≡ true) where
  abbrev s : State
  s = state_at log

  fit : Fits opening m.turn log r.unsettled r.edge v
  fit = r.each id v at

  legal : IsLegal log
  legal = r.history.is_legal

  -- the first view after a step, which has made as many numbers
  root_was : (w u : View T) → makes w ≡ makes v → get_elem? (set m.views id w) 0 ≡ some u → (x : View T) × (get_elem? m.views 0 ≡ some x) × (u.made ≡ x.made)
  root_was w u same e = let h = was makes m.views id v w at same 0 u e in (h.0, h.1, ap (λ z. z.0) h.2)

  live_count : (w : View T) → w.live ≡ true → total (λ (u : View T). cond u.live 1 0) (set m.views id w) ≡ total (λ (u : View T). cond u.live 1 0) m.views
  live_count w live' = even _ _ (cond v.live 1 0) (cond w.live 1 0) (total_set (λ (u : View T). cond u.live 1 0) m.views id v w at) (ap (λ (b : Bool). cond {A = ℕ} b 1 0) live) (ap (λ (b : Bool). cond {A = ℕ} b 1 0) live')
    where
      even : (a b x y : ℕ) → a + x ≡ b + y → x ≡ 1 → y ≡ 1 → a ≡ b
      even a b x y e f g = omega arith

  few_stays : (w : View T) → w.live ≡ true → makes w ≡ makes v → (u : View T) → get_elem? (set m.views id w) 0 ≡ some u → total (λ (x : View T). cond x.live 1 0) (set m.views id w) ≤ u.made
  few_stays w live' same u e = let h = root_was w u same e in
      subst (λ (z : ℕ × ℕ). z.0 ≤ z.1) (λ i. (sym (live_count w live') i, sym h.2 i)) (r.crowd.few h.0 h.1)

  -- the number of requests, where the view has found room for as many as before
  pub crowd_same : (w : View T) → w.live ≡ true → makes w ≡ makes v → w.checked ≡ v.checked → (begun : ℕ) → begun ≤ begins_in log s.serial → Crowd begun (set m.views id w)
  crowd_same w live' same checked begun le = record {
    few = few_stays w live' same;
    room = λ u e. let h = root_was w u same e in
        fewer begun (begins_in log s.serial) _ _ (cond v.checked 1 0) (cond w.checked 1 0) h.0.made u.made (total_set (λ (x : View T). cond x.checked 1 0) m.views id v w at) (ap (λ (b : Bool). cond {A = ℕ} b 1 0) checked) (r.crowd.room h.0 h.1) le h.2;
  }
    where
      fewer : (b c a t x y k l : ℕ) → a + x ≡ t + y → y ≡ x → c + t ≤ MAX_BEGINS + k → b ≤ c → l ≡ k → b + a ≤ MAX_BEGINS + l
      fewer b c a t x y k l e f room le is = omega arith

  -- ---- check

  abbrev with_room : View T
  with_room = checking v log

  -- the view fits the history that it has seen whole, whether or not it found room
  looked : (room : Bool) → (room ≡ true → v.live ≡ true) → Fits opening m.turn log r.unsettled r.edge (record v { checked = room; seen = log })
  looked room checks = record {
    opened = fit.opened;
    seen = prefix_self log;
    older = λ i l e. prefix_trans l v.seen log (fit.older i l e) fit.seen;
    own = fit.own;
    own_seen = fit.own;
    owes = fit.owes;
    holds = λ has. let g = fit.holds has in (g.0, g.1, refl, g.3, g.4);
    waits = fit.waits;
    begun = fit.begun;
    lends = fit.lends;
    checks = checks;
  }

  room_checked : begins_in log s.serial < MAX_BEGINS → (u : View T) → get_elem? (set m.views id with_room) 0 ≡ some u → begins_in log s.serial + total (λ (x : View T). cond x.checked 1 0) (set m.views id with_room) ≤ MAX_BEGINS + u.made
  room_checked few u e =
      let h = root_was with_room u refl e in
      let crowd = few_stays with_room live refl u e in
      let fewer = total_le (λ (x : View T). cond x.checked 1 0) (λ (x : View T). cond x.live 1 0) (set m.views id with_room) (λ i x ex. implied x.checked x.live (each_checks i x ex)) in
      sum (begins_in log s.serial) _ _ u.made few fewer crowd
    where
      implied : (a b : Bool) → (a ≡ true → b ≡ true) → cond a 1 0 ≤ cond b 1 0
      implied true true h = omega arith
      implied true false h = absurd (off (h refl))
      implied false true h = omega arith
      implied false false h = omega arith

      sum : (b a l k : ℕ) → b < MAX_BEGINS → a ≤ l → l ≤ k → b + a ≤ MAX_BEGINS + k
      sum b a l k few less le = omega arith

      each_checks : (i : ℕ) (x : View T) → get_elem? (set m.views id with_room) i ≡ some x → x.checked ≡ true → x.live ≡ true
      each_checks i x ex has = ⊎_elim
          (λ (q : (i ≡ id) × (with_room ≡ x)). ap (λ (z : View T). z.live) (sym q.1) ∙ live)
          (λ (q : (i ≢ id) × (get_elem? m.views i ≡ some x)). (r.each i x q.1).checks has) (Rattle.atomic_table.proofs.Lists.at_set m.views id i with_room x ex)

  pub step_check : begins_in log s.serial < MAX_BEGINS → IsKept stands opening log (check m id v log)
  step_check few =
      let stays = stays_put m.turn log r.unsettled r.edge in
      next stands opening log m r id v with_room at live refl refl log r.unsettled r.edge m.packed m.turn m.counted m.balances m.board
      r.history r.counted r.order r.counts (record { few = few_stays with_room live refl; room = room_checked few }) (looked true (λ _. live))
      (goes_nowhere log v.number) (λ j u apart e also. stays)
      (duties_same m.views id v with_room at live live (is_due s r.unsettled) (is_due s r.unsettled) r.duties (λ n. refl) refl)
      (free_stays stands opening log m r id v with_room at live refl refl log r.unsettled r.edge m.packed m.turn m.counted m.balances m.board refl refl stays)
      (taken_stays stands opening log m r id v with_room at live refl refl log r.unsettled r.edge m.packed m.turn m.counted m.balances m.board refl refl refl)

  pub step_worn : IsKept stands opening log (with_view m id (worn v log))
  step_worn =
      let w : View T = worn v log in
      let stays = stays_put m.turn log r.unsettled r.edge in
      next stands opening log m r id v w at live refl refl log r.unsettled r.edge m.packed m.turn m.counted m.balances m.board
      r.history r.counted r.order r.counts (crowd_same w live refl refl (begins_in log s.serial) (self (begins_in log s.serial))) (looked v.checked fit.checks)
      (goes_nowhere log v.number) (λ j u apart e also. stays)
      (duties_same m.views id v w at live live (is_due s r.unsettled) (is_due s r.unsettled) r.duties (λ n. refl) refl)
      (free_stays stands opening log m r id v w at live refl refl log r.unsettled r.edge m.packed m.turn m.counted m.balances m.board refl refl stays)
      (taken_stays stands opening log m r id v w at live refl refl log r.unsettled r.edge m.packed m.turn m.counted m.balances m.board refl refl refl)
    where
      self : (n : ℕ) → n ≤ n
      self n = omega arith

  -- ---- begin

  module _ (idle : v.ticket ≡ None) (checked : v.checked ≡ true) where
    abbrev first_entry : Entry
    first_entry = Begin v.number s.serial

    abbrev begun_log : List Signed
    begun_log = log ++ signed v.number first_entry ∷ []

    abbrev w_begun : View T
    w_begun = begun v log s.serial

    state_begun : state_at begun_log ≡ after s first_entry
    state_begun = state-snoc log (signed v.number first_entry)

    no_ticket : has_ticket v.number s.tickets ≡ false
    no_ticket = has-ticket_of v.number s.tickets ∙ ap Rattle.std.specs.Prelude.is_some (sym (owed-ticket log v.number r.history) ∙ (ap (λ (o : Rattle.cd_legal.specs.Owing.Owes). o.ticket) (fit.owes live) ∙ idle))

    pub may_begin : allowed s first_entry ≡ true
    may_begin = allowed-by s first_entry (record { current = refl; free = no_ticket })

    pub history_begun : IsHistory begun_log
    history_begun = history-snoc log (signed v.number first_entry) r.history may_begin (Rattle.std.proofs.Common.eq-eqb v.number v.number refl)

    begins_then : (n : ℕ) → begins_in begun_log n ≡ begins_in log n + cond (s.serial == n) 1 0
    begins_then n = begins_more log v.number first_entry n

    not_current : (n : ℕ) → r.unsettled ≡ Some n → s.serial ≢ n
    not_current n is e = absurd (wrong n s.serial (r.order.last n is) e)
      where
        wrong : (n x : ℕ) → n + 1 ≡ x → x ≡ n → ⊥
        wrong n x e f = absurd (omega arith)

    begun_same : (n : ℕ) → r.unsettled ≡ Some n → begins_in begun_log n ≡ begins_in log n
    begun_same n is = begins_kept log v.number first_entry n (one_off s.serial n (not_current n is))

    core_begun : core_at begun_log ≡ core_at log
    core_begun = core_quiet log v.number first_entry refl

    ready_begun : is_ready (state_at begun_log) r.edge ≡ is_ready s r.edge
    ready_begun = ap (λ (z : State). is_ready z r.edge) state_begun

    stays_begun : Stays m.turn m.turn log begun_log r.unsettled r.unsettled r.edge r.edge
    stays_begun = record { turn_is = refl; core_is = core_begun; unsettled_is = refl; begun_is = begun_same; ready_is = ready_begun }

    less_room : (u : View T) → get_elem? (set m.views id w_begun) 0 ≡ some u → (begins_in log s.serial + 1) + total (λ (x : View T). cond x.checked 1 0) (set m.views id w_begun) ≤ MAX_BEGINS + u.made
    less_room u e =
        let h = root_was w_begun u refl e in
        one_less (begins_in log s.serial) _ _ (cond v.checked 1 0) (cond w_begun.checked 1 0) h.0.made u.made (total_set (λ (x : View T). cond x.checked 1 0) m.views id v w_begun at) (ap (λ (b : Bool). cond {A = ℕ} b 1 0) checked) refl (r.crowd.room h.0 h.1) h.2
      where
        one_less : (b a t x y k l : ℕ) → a + x ≡ t + y → x ≡ 1 → y ≡ 0 → b + t ≤ MAX_BEGINS + k → l ≡ k → (b + 1) + a ≤ MAX_BEGINS + l
        one_less b a t x y k l e f g room is = omega arith

    one_more : begins_in begun_log s.serial ≡ begins_in log s.serial + 1
    one_more = begins_then s.serial ∙ ap (λ (z : ℕ). begins_in log s.serial + z) (one_on s.serial s.serial refl)

    pub few_begun : begins_in log s.serial + 1 < SERIAL_STEP
    few_begun =
        let h = r.numbers.root in
        let room = less_room_root in
        small (begins_in log s.serial) _ h.made (r.crowd.room h r.numbers.root_at) r.numbers.few room
      where
        less_room_root : total (λ (x : View T). cond x.checked 1 0) m.views ≡ total (λ (x : View T). cond x.checked 1 0) m.views
        less_room_root = refl

        small : (b t k : ℕ) → b + t ≤ MAX_BEGINS + k → k ≤ MAX_PASSES → t ≡ t → b + 1 < SERIAL_STEP
        small b t k room few same = omega arith

    pub step_begin : IsKept stands opening begun_log (begin m id v log s.serial)
    step_begin =
        next stands opening log m r id v w_begun at live refl refl begun_log r.unsettled r.edge (m.packed + 1) m.turn m.counted m.balances m.board
        history_begun
        (r.counted ∙ ap (λ (z : ℕ). z % 2 ^ 64) (sym (noted_kept log v.number first_entry refl)))
        (subst (λ (z : State). Ordered z r.unsettled r.edge) (sym state_begun) (ordered_same s r.unsettled r.edge r.order (after s first_entry) refl refl (λ n h. h) r.order.fresh (λ n low h. h)))
        (subst (λ (z : State). Counts (m.packed + 1) m.balances z r.unsettled r.edge (begins_in begun_log)) (sym state_begun)
        (counts_begin m.packed m.balances s r.unsettled r.edge (begins_in log) r.order r.counts (begins_in begun_log) v.number begins_then few_begun))
        record {
          few = few_stays w_begun live refl;
          room = λ u e. subst (λ (z : ℕ). z + total (λ (x : View T). cond x.checked 1 0) (set m.views id w_begun) ≤ MAX_BEGINS + u.made) (sym (ap (λ (z : State). begins_in begun_log z.serial) state_begun ∙ one_more)) (less_room u e);
        }
        (fits_more opening m.turn log r.unsettled r.edge v first_entry fit w_begun refl r.unsettled
        (λ has. let g = fit.holds has in (g.3, g.4 ∙ sym ready_begun)) fit.waits (λ l is. fit.begun l is ∙ sym (begun_same l.serial (unsettled_known stands opening log m r id v at l is)))
        (λ l is on. absurd (none_some v.ticket l.serial idle (fit.lends l is (ap (λ (z : State). z.halted) (sym state_begun) ∙ on)))) (λ h. absurd (off h)))
        (goes_on log v.number first_entry (λ h. ap (λ (z : State). z.halted) (sym state_begun) ∙ h)) (λ j u apart e also. stays_begun)
        (duties_same m.views id v w_begun at live live (is_due s r.unsettled) (is_due (state_at begun_log) r.unsettled) r.duties (λ n. ap (λ (z : State). is_due z r.unsettled n) state_begun ∙ due_same n) refl)
        (free_stays stands opening log m r id v w_begun at live refl refl begun_log r.unsettled r.edge (m.packed + 1) m.turn m.counted m.balances m.board refl refl stays_begun)
        (taken_stays stands opening log m r id v w_begun at live refl refl begun_log r.unsettled r.edge (m.packed + 1) m.turn m.counted m.balances m.board refl refl refl)
      where
        -- a request at the current serial keeps no settled one from being due
        due_same : (n : ℕ) → is_due (after s first_entry) r.unsettled n ≡ is_due s r.unsettled n
        due_same n = ⊎_elim
            (λ low. ap (λ (b : Bool). is_settled s r.unsettled n && (not (has_number n s.retired) && not b))
            (ticketed-same n (after s first_entry).tickets s.tickets (Rattle.cd_legal.proofs.Callers.open_at-push n s.tickets (record { caller = v.number; serial = s.serial })
            ∙ zero_plus (cond (s.serial == n) 1 0) (open_at n s.tickets) (one_off s.serial n (above n s.serial (settled_low s r.unsettled n low))))))
            (λ off_it. ap (λ (b : Bool). b && (not (has_number n s.retired) && not (is_ticketed n (after s first_entry).tickets))) off_it
            ∙ sym (ap (λ (b : Bool). b && (not (has_number n s.retired) && not (is_ticketed n s.tickets))) off_it)) (tells (is_settled s r.unsettled n))
          where
            zero_plus : (c z : ℕ) → c ≡ 0 → c + z ≡ z
            zero_plus c z e = omega arith

            above : (n x : ℕ) → n < x → x ≢ n
            above n x low e = absurd (omega arith)

  -- ---- finish

  module _ (n : ℕ) (ticket : v.ticket ≡ Some n) (quiet : v.unsettled ≡ None) where
    abbrev last_entry : Entry
    last_entry = Finish v.number

    abbrev ended_log : List Signed
    ended_log = log ++ signed v.number last_entry ∷ []

    state_ended : state_at ended_log ≡ after s last_entry
    state_ended = state-snoc log (signed v.number last_entry)

    pub has : ticket_of v.number s.tickets ≡ Some n
    has = sym (owed-ticket log v.number r.history) ∙ (ap (λ (o : Rattle.cd_legal.specs.Owing.Owes). o.ticket) (fit.owes live) ∙ ticket)

    pub may_finish : allowed s last_entry ≡ true
    may_finish = has-ticket_of v.number s.tickets ∙ ap Rattle.std.specs.Prelude.is_some has

    pub history_ended : IsHistory ended_log
    history_ended = history-snoc log (signed v.number last_entry) r.history may_finish (Rattle.std.proofs.Common.eq-eqb v.number v.number refl)

    one : open_by v.number s.tickets ≤ 1
    one = one_ticket (entries log) v.number legal

    open_here : 1 ≤ open_at n s.tickets
    open_here = ticket-open v.number n s.tickets has

    pub born : n ≤ s.serial
    born = ticket-born (entries log) v.number n legal has

    pub used : r.edge < n + MAX_UNRETIRED
    used = not_reused (entries log) n r.edge MAX_UNRETIRED legal r.order.reused (pos (open_at n s.tickets) open_here)
      where
        pos : (z : ℕ) → 1 ≤ z → 0 < z
        pos z le = omega arith

    abbrev place : ℕ
    place = place_of s n

    abbrev flag : Bool
    flag = get_or m.balances place 0 == 1

    abbrev w_ended : View T
    w_ended = finished v log n flag

    abbrev rest : ℕ
    rest = open_at n (without_ticket v.number s.tickets)

    found : flag ≡ (is_settled s r.unsettled n && (rest == 0))
    found = found_one m.packed m.balances s r.unsettled r.edge (begins_in log) r.order r.counts n v.number has one born used

    unretired : has_number n s.retired ≡ false
    unretired = ⊎_elim (λ q. absurd (wrong (open_at n s.tickets) open_here (retired-free (entries log) n legal q).1)) (λ q. q) (tells (has_number n s.retired))
      where
        wrong : (z : ℕ) → 1 ≤ z → z ≡ 0 → ⊥
        wrong z le e = absurd (omega arith)

    core_ended : core_at ended_log ≡ core_at log
    core_ended = core_quiet log v.number last_entry refl

    begins_same : (k : ℕ) → begins_in ended_log k ≡ begins_in log k
    begins_same k = begins_kept log v.number last_entry k refl

    ready_ended : is_ready (state_at ended_log) r.edge ≡ is_ready s r.edge
    ready_ended = ap (λ (z : State). is_ready z r.edge) state_ended

    stays_ended : Stays m.turn m.turn log ended_log r.unsettled r.unsettled r.edge r.edge
    stays_ended = record { turn_is = refl; core_is = core_ended; unsettled_is = refl; begun_is = λ k is. begins_same k; ready_is = ready_ended }

    twice : (b z : Bool) → (b && (not false && not (not z))) ≡ (b && z)
    twice true true = refl
    twice true false = refl
    twice false z = refl

    -- whether its serial is due then
    pub due_now : is_due (after s last_entry) r.unsettled n ≡ flag
    due_now = ap (λ (q : Bool). is_settled s r.unsettled n && (not q && not (is_ticketed n (without_ticket v.number s.tickets)))) unretired
        ∙ (ap (λ (q : Bool). is_settled s r.unsettled n && (not false && not q)) (ticketed-is n (without_ticket v.number s.tickets))
        ∙ (twice (is_settled s r.unsettled n) (rest == 0) ∙ sym found))

    order_ended : Ordered (after s last_entry) r.unsettled r.edge
    order_ended = ordered_same s r.unsettled r.edge r.order (after s last_entry) refl refl (λ k h. h) r.order.fresh (λ k low h. h)

    -- what is due then may be retired
    pub due_allowed : (k : ℕ) → is_due (after s last_entry) r.unsettled k ≡ true → may_retire (after s last_entry) k ≡ true
    due_allowed k due = due_retires (after s last_entry) r.unsettled r.edge order_ended k due

    due_before : is_due s r.unsettled n ≡ false
    due_before = ap (λ (q : Bool). is_settled s r.unsettled n && (not (has_number n s.retired) && not q)) (ticketed-is n s.tickets ∙ ap (λ (q : Bool). not q) (ne_eqb (open_at n s.tickets) 0 (nonzero (open_at n s.tickets) open_here)))
        ∙ never (is_settled s r.unsettled n) (not (has_number n s.retired))
      where
        nonzero : (z : ℕ) → 1 ≤ z → z ≢ 0
        nonzero z le e = absurd (omega arith)

        never : (a b : Bool) → (a && (b && false)) ≡ false
        never true true = refl
        never true false = refl
        never false b = refl

    due_other : (k : ℕ) → k ≢ n → is_due (after s last_entry) r.unsettled k ≡ is_due s r.unsettled k
    due_other k ne = ap (λ (q : Bool). is_settled s r.unsettled k && (not (has_number k s.retired) && not q))
        (ticketed-same k (without_ticket v.number s.tickets) s.tickets (same_rest m.packed m.balances s r.unsettled r.edge (begins_in log) r.order r.counts n v.number has one born used k (λ e. ne (sym e))))

    pub step_finish : IsKept stands opening ended_log (finish m id v log n place)
    step_finish =
        let left : List ℕ = set m.balances place (get_or m.balances place 0 - 1) in
        next stands opening log m r id v w_ended at live refl refl ended_log r.unsettled r.edge m.packed m.turn m.counted left m.board
        history_ended
        (r.counted ∙ ap (λ (z : ℕ). z % 2 ^ 64) (sym (noted_kept log v.number last_entry refl)))
        (subst (λ (z : State). Ordered z r.unsettled r.edge) (sym state_ended) order_ended)
        (subst (λ (z : State). Counts m.packed left z r.unsettled r.edge (begins_in ended_log)) (sym state_ended)
        (counts_finish m.packed m.balances s r.unsettled r.edge (begins_in log) r.order r.counts n v.number has one born used (begins_in ended_log) begins_same))
        (subst (λ (z : State). Crowd (begins_in ended_log z.serial) (set m.views id w_ended)) (sym state_ended)
        (crowd_same w_ended live refl refl (begins_in ended_log s.serial) (same_le (begins_in ended_log s.serial) (begins_in log s.serial) (begins_same s.serial))))
        (fits_more opening m.turn log r.unsettled r.edge v last_entry fit w_ended refl r.unsettled
        (λ h. let g = fit.holds h in (g.3, g.4 ∙ sym ready_ended)) fit.waits
        (λ l is. absurd (none_some v.unsettled l quiet is)) (λ l is on. absurd (none_some v.unsettled l quiet is)) fit.checks)
        (goes_on log v.number last_entry (λ h. ap (λ (z : State). z.halted) (sym state_ended) ∙ h)) (λ j u apart e also. stays_ended)
        (duties_given m.views id v w_ended at live live (is_due s r.unsettled) (is_due (state_at ended_log) r.unsettled) r.duties n flag due_before
        (ap (λ (z : State). is_due z r.unsettled n) state_ended ∙ due_now)
        (λ k ne. ap (λ (z : State). is_due z r.unsettled k) state_ended ∙ due_other k ne) refl)
        (free_stays stands opening log m r id v w_ended at live refl refl ended_log r.unsettled r.edge m.packed m.turn m.counted left m.board refl refl stays_ended)
        (taken_stays stands opening log m r id v w_ended at live refl refl ended_log r.unsettled r.edge m.packed m.turn m.counted left m.board refl refl refl)
      where
        same_le : (a b : ℕ) → a ≡ b → a ≤ b
        same_le a b e = omega arith
