-- A halt, or the last end of a request under the serial that it superseded, gives the duty of this.
use Rattle.std.proofs.Common.{◌≡◌, ◌⊎◌, inl, inr, ℕ, zero, suc, ◌+◌, ◌<◌, ◌≤◌, ◌==◌, Bool, true, false, nat_lt, cond, List, [], ◌∷◌, ◌++◌, Option, Some, None, refl, sym, ap, subst, ◌∙◌, ⊎_elim, eq-eqb, arith}
use Rattle.std.specs.Prelude.{◌&&◌, ◌||◌, is_some}
use Rattle.std.proofs.lemmas.Bool.{eqb-true}
use Rattle.std.proofs.lemmas.List.{append-nil}
use mathlib.Core.List.{IsPrefix}
use Rattle.cd_legal.specs.declared.entry.Entry.{Entry}
use Rattle.cd_legal.specs.declared.entry.Entry.TheVariants.{Begin, Finish, Retire}
use Rattle.cd_legal.specs.declared.entry.Signed.{Signed}
use Rattle.cd_legal.specs.declared.state.State.{State}
use Rattle.cd_legal.specs.Entry.{signed, entries}
use Rattle.cd_legal.specs.Legal.{allowed, after, state_at, IsLegal}
use Rattle.cd_legal.specs.Owing.{owes_of}
use Rattle.cd_legal.specs.Signing.{may_sign, IsHistory}
use Rattle.cd_legal.specs.State.{has_number, open_at, open_by, ticket_of, without_ticket}
use Rattle.cd_legal.proofs.Callers.{has-ticket_of, open_at-closed, open_at-push, one_ticket}
use Rattle.cd_legal.proofs.Facts.{Retires, can, is-less, less-is}
use Rattle.cd_legal.proofs.Fresh.{serial_rises}
use Rattle.cd_legal.proofs.Histories.{along, both, first, second}
use Rattle.cd_legal.proofs.Logs.{prefix_more, prefix_trans, snoc_same, state-append, state-snoc, legal-back, legal-front, legal-snoc, history-along}
use Rattle.cd_gate.specs.declared.view.View.{View}
use Rattle.cd_gate.proofs.Longer.{prefix_self}
use Rattle.cd_gate.proofs.Numbers.{tells, off, has_append}
use Rattle.cd_gate.proofs.Tickets.{Freed}
use Rattle.cd_hall.specs.Dues.{is_last_at, DueAtEnd, DueLater, LastEnd, MayRetireAll, SettledAfter}
use Rattle.cd_hall.specs.Turned.{Turned}
use Rattle.cd_hall.proofs.OneEnd.{shorter, either_first, freed, freed_on, none_ends}

none_left : (a b : ℕ) → 1 + a ≡ b → b ≡ 1 → a ≡ 0
none_left a b e f = omega arith

module _ (n : ℕ) where
  -- where the last request ends under a superseded serial, none begins or ends under it any more
  last_ended : (other : List Signed) (k : ℕ) → IsLegal other → ticket_of k (state_at other).tickets ≡ Some n → is_last_at (state_at other) n ≡ true → Freed n (after (state_at other) (Finish k))
  last_ended other k legal has last =
      let s : State = state_at other in
      let rest : ℕ = open_at n (without_ticket k s.tickets) in
      let few : 1 + rest ≡ open_at n s.tickets = ap (λ (b : Bool). cond {A = ℕ} b 1 0 + rest) (sym (eq-eqb n n refl)) ∙ open_at-closed k n n s.tickets (one_ticket (entries other) k legal) has in
      let one : open_at n s.tickets ≡ 1 = eqb-true (open_at n s.tickets) 1 (second (nat_lt n s.serial) (open_at n s.tickets == 1) last) in
      (is-less n s.serial (first (nat_lt n s.serial) (open_at n s.tickets == 1) last), none_left rest (open_at n s.tickets) few one)

  -- the halt gives the duty where no request is left, and only there
  module _ (seen : List Signed) (gives : List ℕ) (halt : DueLater seen n gives) where
    gives_then : Freed n (state_at halt.later) → gives ≡ n ∷ []
    gives_then free = halt.due ∙ ap (λ (b : Bool). cond b (n ∷ []) []) (eq-eqb (open_at n (state_at halt.later).tickets) 0 free.1)

    gives_none : (Freed n (state_at halt.later) → ⊥) → gives ≡ []
    gives_none never = ⊎_elim
        (λ none. absurd (never (freed n (state_at halt.later) (subst (λ (ds : List ℕ). MayRetireAll (state_at halt.later) ds) (halt.due ∙ ap (λ (b : Bool). cond b (n ∷ []) []) none) halt.may))))
        (λ some. halt.due ∙ ap (λ (b : Bool). cond b (n ∷ []) []) some) (tells (open_at n (state_at halt.later).tickets == 0))

    -- so it does where none was left when its apps were stopped
    pub gives_at_once : n < (state_at seen).serial → open_at n (state_at seen).tickets ≡ 0 → gives ≡ n ∷ []
    gives_at_once low none = gives_then (freed_on n seen halt.later halt.seen_first halt.history.is_legal (low, none))

    module _ {T : Type 0} (x y : View T) (other log : List Signed) (ends : List ℕ) (t : Turned x y other (Finish x.number ∷ [])) (history : IsHistory log) (p : IsPrefix halt.later log) (q : IsPrefix y.seen log) (has : ticket_of x.number (state_at other).tickets ≡ Some n) where
      end_legal : IsLegal other
      end_legal = legal-front other log (prefix_trans other y.seen log (signed x.number (Finish x.number) ∷ [], sym t.is) q) history.is_legal

      -- what does not begin what the end met has seen it
      seen_by : (IsPrefix halt.later other → ⊥) → IsPrefix y.seen halt.later
      seen_by never = ⊎_elim
          (λ r. ⊎_elim (λ l. absurd (never l)) (λ e. subst (λ (l : List Signed). IsPrefix l halt.later) (e ∙ sym t.is) (prefix_self halt.later))
          (shorter halt.later other (signed x.number (Finish x.number)) (subst (λ (l : List Signed). IsPrefix halt.later l) t.is r)))
          (λ r. r) (either_first halt.later y.seen log p q)

      one_of : (done : Bool) → ends ≡ cond (is_last_at (state_at other) n && done) (n ∷ []) [] → SettledAfter halt.later other done → is_last_at (state_at other) n ≡ true → gives ++ ends ≡ n ∷ []
      one_of true is order last =
          let none : gives ≡ [] = gives_none (λ free. none_ends n x.number (state_at other) (freed_on n halt.later other (order.late refl) end_legal free) has) in
          let some : ends ≡ n ∷ [] = is ∙ ap (λ (b : Bool). cond (b && true) (n ∷ []) []) last in
          λ i. none i ++ some i
      one_of false is order last =
          let before : IsPrefix y.seen halt.later = seen_by (λ l. off (order.known l)) in
          let free : Freed n (state_at y.seen) = subst (λ (s : State). Freed n s) (sym (ap (λ (l : List Signed). state_at l) t.is ∙ state-snoc other (signed x.number (Finish x.number)))) (last_ended other x.number end_legal has last) in
          let some : gives ≡ n ∷ [] = gives_then (freed_on n y.seen halt.later before halt.history.is_legal free) in
          let none : ends ≡ [] = is ∙ ap (λ (b : Bool). cond (b && false) (n ∷ []) []) last in
          λ i. some i ++ none i

      pub one_gives : (done : Bool) → DueAtEnd (state_at other) n done ends → SettledAfter halt.later other done → is_last_at (state_at other) n ≡ true → gives ++ ends ≡ n ∷ []
      one_gives done is order last = one_of done is.due order last

  -- another end gives none
  pub other_gives_none : (s : State) (done : Bool) (ends : List ℕ) → DueAtEnd s n done ends → is_last_at s n ≡ false → ends ≡ []
  other_gives_none s done ends is more = is.due ∙ ap (λ (b : Bool). cond (b && done) (n ∷ []) []) more

  -- ---- where a request was left, a last one ends

  zero_or : (a : ℕ) → (a ≡ 0) ⊎ (0 < a)
  zero_or zero = inl refl
  zero_or (suc a) = inr (omega arith)

  some_of : (o : Option ℕ) → is_some o ≡ true → (m : ℕ) × (o ≡ Some m)
  some_of None is = absurd (off is)
  some_of (Some m) is = (m, refl)

  abbrev Ends : State → Entry → Type 0
  Ends s e = (k : ℕ) × (e ≡ Finish k) × (ticket_of k s.tickets ≡ Some n) × (open_at n s.tickets ≡ 1)

  ended : (s : State) (k m : ℕ) → open_by k s.tickets ≤ 1 → ticket_of k s.tickets ≡ Some m → 0 < open_at n s.tickets → open_at n (without_ticket k s.tickets) ≡ 0 → Ends s (Finish k)
  ended s k m few has some none = ⊎_elim
      (λ e. let same : m ≡ n = eqb-true m n e in
      (k, refl, has ∙ ap (λ (z : ℕ). Some z) same, count (cond {A = ℕ} (m == n) 1 0) (open_at n (without_ticket k s.tickets)) (open_at n s.tickets) (open_at-closed k m n s.tickets few has) (ap (λ (b : Bool). cond {A = ℕ} b 1 0) e) none))
      (λ e. absurd (never (cond {A = ℕ} (m == n) 1 0) (open_at n (without_ticket k s.tickets)) (open_at n s.tickets) (open_at-closed k m n s.tickets few has) (ap (λ (b : Bool). cond {A = ℕ} b 1 0) e) none some))
      (tells (m == n))
    where
      count : (c a b : ℕ) → c + a ≡ b → c ≡ 1 → a ≡ 0 → b ≡ 1
      count c a b e f g = omega arith

      never : (c a b : ℕ) → c + a ≡ b → c ≡ 0 → a ≡ 0 → 0 < b → ⊥
      never c a b e f g h = absurd (omega arith)

  not_none : (a : ℕ) → 0 < a → a ≡ 0 → ⊥
  not_none a some none = absurd (omega arith)

  less_none : (c a b : ℕ) → b ≡ c + a → b ≡ 0 → 0 < a → ⊥
  less_none c a b e f g = absurd (omega arith)

  ends_by : (s : State) (e : Entry) → ((k : ℕ) → open_by k s.tickets ≤ 1) → allowed s e ≡ true → 0 < open_at n s.tickets → open_at n (after s e).tickets ≡ 0 → Ends s e
  ends_by s (Begin k m) few may some none =
      absurd (less_none (cond {A = ℕ} (m == n) 1 0) (open_at n s.tickets) (open_at n (after s (Begin k m)).tickets) (open_at-push n s.tickets (record { caller = k; serial = m })) none some)
  ends_by s (Finish k) few may some none =
      let t = some_of (ticket_of k s.tickets) (sym (has-ticket_of k s.tickets) ∙ may) in
      ended s k t.0 (few k) t.1 some none
  ends_by s e few may some none = absurd (not_none (open_at n s.tickets) some none)

  module _ (seen : List Signed) (low : n < (state_at seen).serial) (some : 0 < open_at n (state_at seen).tickets) where
    superseded_on : (log : List Signed) → IsPrefix seen log → IsLegal log → n < (state_at log).serial
    superseded_on log p legal =
        let whole : IsLegal (seen ++ p.0) = subst (λ (l : List Signed). IsLegal l) (sym p.1) legal in
        subst (λ (l : List Signed). n < (state_at l).serial) p.1
        (subst (λ (s : State). n < s.serial) (sym (state-append seen p.0))
        (along (λ s. n < s.serial) (λ s e may is. up n s.serial (after s e).serial is (serial_rises s e may)) (state_at seen) (entries p.0) (legal-back seen p.0 whole) low))
      where
        up : (a b c : ℕ) → a < b → b ≤ c → a < c
        up a b c l le = omega arith

    -- the last one has ended, if none is left
    abbrev EndsIn : List Signed → Type 0
    EndsIn log = IsLegal log × (IsPrefix seen log → open_at n (state_at log).tickets ≡ 0 → LastEnd n seen log)

    nothing_before : (xs : List Signed) → IsPrefix xs [] → xs ≡ []
    nothing_before [] p = refl
    nothing_before (x ∷ xs) p = absurd (let h : x ∷ (xs ++ p.0) ≡ [] = p.1 in cc)

    more : (log : List Signed) (x : Signed) → LastEnd n seen log → LastEnd n seen (log ++ x ∷ [])
    more log x e = record {
      found = e.found;
      caller = e.caller;
      after_it = e.after_it;
      there = prefix_more (e.found ++ signed e.caller (Finish e.caller) ∷ []) log (x ∷ []) e.there;
      ticket = e.ticket;
      last = e.last;
    }

    here : (log : List Signed) (x : Signed) → IsLegal log → IsPrefix seen log → may_sign x.by (owes_of x.by log) x.entry ≡ true → Ends (state_at log) x.entry → LastEnd n seen (log ++ x ∷ [])
    here log x legal p signs e =
        let by_is : e.0 ≡ x.by = eqb-true e.0 x.by (sym (ap (may_sign x.by (owes_of x.by log)) e.1) ∙ signs) in
        let same : signed e.0 (Finish e.0) ≡ x = λ i. record { by = by_is i; entry = sym e.1 i } in
        record {
          found = log;
          caller = e.0;
          after_it = p;
          there = ([], append-nil (log ++ signed e.0 (Finish e.0) ∷ []) ∙ ap (λ (z : Signed). log ++ z ∷ []) same);
          ticket = e.2;
          last = both (nat_lt n (state_at log).serial) (open_at n (state_at log).tickets == 1) (less-is n (state_at log).serial (superseded_on log p legal)) (eq-eqb (open_at n (state_at log).tickets) 1 e.3);
        }

    step : (log : List Signed) (x : Signed) → allowed (state_at log) x.entry ≡ true → may_sign x.by (owes_of x.by log) x.entry ≡ true → IsLegal log → (IsPrefix seen log → open_at n (state_at log).tickets ≡ 0 → LastEnd n seen log)
        → IsPrefix seen (log ++ x ∷ []) → open_at n (state_at (log ++ x ∷ [])).tickets ≡ 0 → LastEnd n seen (log ++ x ∷ [])
    step log x may signs legal had p none = ⊎_elim
        (λ q. ⊎_elim
        (λ z. more log x (had q z))
        (λ z. here log x legal q signs (ends_by (state_at log) x.entry (λ k. one_ticket (entries log) k legal) may z (ap (λ (s : State). open_at n s.tickets) (sym (state-snoc log x)) ∙ none)))
        (zero_or (open_at n (state_at log).tickets)))
        (λ e. absurd (not_none (open_at n (state_at seen).tickets) some (ap (λ (l : List Signed). open_at n (state_at l).tickets) e ∙ none)))
        (shorter seen log x p)

    pub last_end : (log : List Signed) → IsHistory log → IsPrefix seen log → open_at n (state_at log).tickets ≡ 0 → LastEnd n seen log
    last_end log history = (history-along EndsIn
        (λ l x may signs had. (legal-snoc l x had.0 may, step l x may signs had.0 had.1)) log history
        (refl, λ p none. absurd (not_none (open_at n (state_at seen).tickets) some (ap (λ (l : List Signed). open_at n (state_at l).tickets) (nothing_before seen p))))).1

-- ---- a serial is retired once

has_last : (n : ℕ) (ms : List ℕ) → has_number n (ms ++ n ∷ []) ≡ true
has_last n [] = ap (λ (b : Bool). b || false) (eq-eqb n n refl)
has_last n (m ∷ ms) = ap (λ (b : Bool). (n == m) || b) (has_last n ms) ∙ or_true (n == m)
  where
    or_true : (b : Bool) → (b || true) ≡ true
    or_true true = refl
    or_true false = refl

retired_by : (n : ℕ) (s : State) (e : Entry) → allowed s e ≡ true → has_number n s.retired ≡ true → has_number n (after s e).retired ≡ true
retired_by n s (Retire m) may is = has_append n s.retired (m ∷ []) ∙ ap (λ (b : Bool). b || has_number n (m ∷ [])) is
retired_by n s e may is = is

module _ (n : ℕ) where
  retired_on : (seen log : List Signed) → IsPrefix seen log → IsLegal log → has_number n (state_at seen).retired ≡ true → has_number n (state_at log).retired ≡ true
  retired_on seen log p legal is =
      let whole : IsLegal (seen ++ p.0) = subst (λ (l : List Signed). IsLegal l) (sym p.1) legal in
      subst (λ (l : List Signed). has_number n (state_at l).retired ≡ true) p.1
      (subst (λ (s : State). has_number n s.retired ≡ true) (sym (state-append seen p.0))
      (along (λ s. has_number n s.retired ≡ true) (retired_by n) (state_at seen) (entries p.0) (legal-back seen p.0 whole) is))

  not_again : (one two : List Signed) (j k : ℕ) → IsLegal (two ++ signed k (Retire n) ∷ []) → IsPrefix (one ++ signed j (Retire n) ∷ []) two → ⊥
  not_again one two j k legal p =
      let s : State = state_at two in
      let may : allowed s (Retire n) ≡ true = first (allowed s (Retire n)) true (legal-back two (signed k (Retire n) ∷ []) legal) in
      let f : Retires s n = can s (Retire n) may in
      let here : has_number n (state_at (one ++ signed j (Retire n) ∷ [])).retired ≡ true = ap (λ (z : State). has_number n z.retired) (state-snoc one (signed j (Retire n))) ∙ has_last n (state_at one).retired in
      off (sym f.unretired ∙ retired_on (one ++ signed j (Retire n) ∷ []) two p (legal-front two (two ++ signed k (Retire n) ∷ []) (signed k (Retire n) ∷ [], refl) legal) here)

  same_place : (one two : List Signed) (j k : ℕ) → IsLegal (two ++ signed k (Retire n) ∷ []) → IsPrefix (one ++ signed j (Retire n) ∷ []) (two ++ signed k (Retire n) ∷ []) → one ++ signed j (Retire n) ∷ [] ≡ two ++ signed k (Retire n) ∷ []
  same_place one two j k legal p = ⊎_elim (λ q. absurd (not_again one two j k legal q)) (λ e. e) (shorter (one ++ signed j (Retire n) ∷ []) two (signed k (Retire n)) p)

  pub retired_once : (one two log : List Signed) (j k : ℕ) → IsHistory log → IsPrefix (one ++ signed j (Retire n) ∷ []) log → IsPrefix (two ++ signed k (Retire n) ∷ []) log → (one ≡ two) × (j ≡ k)
  retired_once one two log j k history p q =
      let is : one ++ signed j (Retire n) ∷ [] ≡ two ++ signed k (Retire n) ∷ [] = ⊎_elim
      (λ r. same_place one two j k (legal-front (two ++ signed k (Retire n) ∷ []) log q history.is_legal) r)
      (λ r. sym (same_place two one k j (legal-front (one ++ signed j (Retire n) ∷ []) log p history.is_legal) r))
      (either_first (one ++ signed j (Retire n) ∷ []) (two ++ signed k (Retire n) ∷ []) log p q) in
      let parts = snoc_same one two (signed j (Retire n)) (signed k (Retire n)) is in
      (parts.0, ap (λ (z : Signed). z.by) parts.1)
