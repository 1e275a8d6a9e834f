-- The end of a request is one entry, and which duty comes with it by the state that this meets.
use Rattle.std.proofs.Common.{◌≡◌, inl, inr, ℕ, ◌+◌, ◌≤◌, ◌==◌, Bool, true, false, not, nat_lt, cond, List, [], ◌∷◌, ◌++◌, Option, Some, None, refl, sym, ap, subst, ◌∙◌, ⊎_elim, eq-eqb, arith}
use Rattle.std.specs.Prelude.{◌&&◌}
use Rattle.std.specs.List.{list_all}
use Rattle.std.proofs.lemmas.Bool.{eqb-true}
use Rattle.cd_legal.specs.declared.entry.Entry.TheVariants.{Finish}
use Rattle.cd_legal.specs.declared.entry.Signed.{Signed}
use Rattle.cd_legal.specs.declared.state.State.{State}
use Rattle.cd_legal.specs.Entry.{signed, entries}
use Rattle.cd_legal.specs.Legal.{state_at, may_retire}
use Rattle.cd_legal.specs.State.{has_number, is_ticketed, open_at, without_ticket}
use Rattle.cd_legal.proofs.Callers.{one_ticket, open_at-closed, ticket_of-without_other, ticket-open}
use Rattle.cd_legal.proofs.Histories.{both, first, second}
use Rattle.cd_legal.proofs.Logs.{prefix_more, mine-own, state-snoc}
use Rattle.cd_gate.specs.declared.view.View.{View}
use Rattle.cd_gate.specs.Duties.{is_at, is_settled}
use Rattle.cd_gate.specs.Tables.{Ends}
use Rattle.cd_gate.proofs.Numbers.{tells, off}
use Rattle.cd_gate.proofs.Tickets.{ticketed-is, retired-free}
use Rattle.cd_hall.specs.Dues.{is_last_at, is_before_halt, DueBy, DueThen, DueAtEnd, MayRetireAll}
use Rattle.cd_hall.specs.Turned.{Turned}

-- ---- tests

agree_on : (a b : Bool) → (a ≡ true → b ≡ true) → (b ≡ true → a ≡ true) → a ≡ b
agree_on true b to back = sym (to refl)
agree_on false true to back = back refl
agree_on false false to back = refl

-- none is left where there was one
last_one : (x y : ℕ) → 1 + x ≡ y → (x == 0) ≡ (y == 1)
last_one x y is = agree_on (x == 0) (y == 1)
    (λ e. let z = eqb-true x 0 e in eq-eqb y 1 (omega (arith, is, z)))
    (λ e. let z = eqb-true y 1 e in eq-eqb x 0 (omega (arith, is, z)))

twice : (b z : Bool) → (b && (not false && not (not z))) ≡ (b && z)
twice true true = refl
twice true false = refl
twice false z = refl

at_is : (n : ℕ) (o : Option ℕ) → is_at n o ≡ true → o ≡ Some n
at_is n None is = absurd (off is)
at_is n (Some m) is = ap (λ (z : ℕ). Some z) (eqb-true m n is)

-- superseded, unsettled, and the last that runs: only after a halt these come together
by_tests : (low late last by_halt : Bool) (n : ℕ) → (low ≡ true → late ≡ true → last ≡ true → by_halt ≡ true) → DueBy (low && last) by_halt n (cond ((low && not late) && last) (n ∷ []) [])
by_tests false late last by_halt n only = refl
by_tests true true false by_halt n only = refl
by_tests true false false by_halt n only = refl
by_tests true false true false n only = refl
by_tests true false true true n only = inr refl
by_tests true true true false n only = absurd (off (only refl refl refl))
by_tests true true true true n only = inl refl

-- superseded and settled, and the last that runs
by_settled : (low done last : Bool) → ((low && done) && last) ≡ ((low && last) && done)
by_settled false done last = refl
by_settled true true true = refl
by_settled true true false = refl
by_settled true false true = refl
by_settled true false false = refl

not_not : (b : Bool) → not b ≡ false → b ≡ true
not_not true is = refl
not_not false is = absurd (off (sym is))

-- the duty that came may be done, where its serial may be retired once it is due
pub duty_may : (s : State) (due : Bool) (n : ℕ) (ds : List ℕ) → (due ≡ true → may_retire s n ≡ true) → ds ≡ cond due (n ∷ []) [] → MayRetireAll s ds
duty_may s due n ds may is = ap (λ (l : List ℕ). list_all (may_retire s) l) is ∙ of_one due may
  where
    of_one : (b : Bool) → (b ≡ true → may_retire s n ≡ true) → list_all (may_retire s) (cond b (n ∷ []) []) ≡ true
    of_one true is_may = both (may_retire s n) true (is_may refl) refl
    of_one false is_may = refl

module _ {T : Type 0} (v w : View T) (n : ℕ) (due : Bool) (log : List Signed) (is : Ends v w n due log) where
  abbrev s : State
  s = state_at log

  abbrev rest : ℕ
  rest = open_at n (without_ticket v.number s.tickets)

  one_fewer : 1 + rest ≡ open_at n s.tickets
  one_fewer = ap (λ (b : Bool). cond {A = ℕ} b 1 0 + rest) (sym (eq-eqb n n refl))
      ∙ open_at-closed v.number n n s.tickets (one_ticket (entries log) v.number is.found.history.is_legal) is.running

  unretired : has_number n s.retired ≡ false
  unretired = ⊎_elim (λ q. absurd (wrong rest (open_at n s.tickets) one_fewer (retired-free (entries log) n is.found.history.is_legal q).1)) (λ q. q) (tells (has_number n s.retired))
    where
      wrong : (x y : ℕ) → 1 + x ≡ y → y ≡ 0 → ⊥
      wrong x y e f = absurd (omega arith)

  due_test : due ≡ ((nat_lt n s.serial && not (is_at n is.unsettled)) && (rest == 0))
  due_test = is.due_is
      ∙ (ap (λ (q : Bool). is_settled s is.unsettled n && (not q && not (is_ticketed n (without_ticket v.number s.tickets)))) unretired
      ∙ (ap (λ (q : Bool). is_settled s is.unsettled n && (not false && not q)) (ticketed-is n (without_ticket v.number s.tickets)) ∙ twice (is_settled s is.unsettled n) (rest == 0)))

  last_test : is_last_at s n ≡ (nat_lt n s.serial && (rest == 0))
  last_test = ap (λ (b : Bool). nat_lt n s.serial && b) (sym (last_one rest (open_at n s.tickets) one_fewer))

  -- where the last request ends under a serial that is not settled, the host was halted
  after_halt : nat_lt n s.serial ≡ true → is_at n is.unsettled ≡ true → (rest == 0) ≡ true → is_before_halt s n ≡ true
  after_halt low late last =
      let at : is.unsettled ≡ Some n = at_is n is.unsettled late in
      both s.halted (n + 1 == s.serial) (⊎_elim (λ q. q) (λ q. absurd (another at q)) (tells s.halted)) (eq-eqb (n + 1) s.serial (is.unsettled_then.last n at))
    where
      some_left : (x : ℕ) → 1 ≤ x → x ≡ 0 → ⊥
      some_left x le e = absurd (omega arith)

      another : is.unsettled ≡ Some n → s.halted ≡ false → ⊥
      another at on =
          let t = is.unsettled_then.lent n at on in
          some_left rest (ticket-open t.0 n (without_ticket v.number s.tickets) (ticket_of-without_other t.0 v.number s.tickets (λ e. t.1 (sym e)) ∙ t.2)) (eqb-true rest 0 last)

  pub due_then : DueThen s n (cond due (n ∷ []) [])
  due_then = subst (λ (z : Bool × Bool). DueBy z.0 (is_before_halt s n) n (cond z.1 (n ∷ []) [])) (λ i. (sym last_test i, sym due_test i))
      (by_tests (nat_lt n s.serial) (is_at n is.unsettled) (rest == 0) (is_before_halt s n) n after_halt)

  -- the same by whether the serial was settled
  abbrev pub was_settled : Bool
  was_settled = not (is_at n is.unsettled)

  pub due_at_end : DueAtEnd s n was_settled (cond due (n ∷ []) [])
  due_at_end = record {
    due = ap (λ (b : Bool). cond b (n ∷ []) []) (due_test ∙ (by_settled (nat_lt n s.serial) was_settled (rest == 0) ∙ ap (λ (b : Bool). b && was_settled) (sym last_test)));
    early = λ last late. let both_are : (nat_lt n s.serial && (rest == 0)) ≡ true = sym last_test ∙ last in
        after_halt (first (nat_lt n s.serial) (rest == 0) both_are) (not_not (is_at n is.unsettled) late) (second (nat_lt n s.serial) (rest == 0) both_are);
  }

  -- where it comes its serial may be retired
  pub finish_may : due ≡ true → may_retire (state_at w.seen) n ≡ true
  finish_may came =
      ap (λ (z : View T). may_retire (state_at z.seen) n) is.is
      ∙ (ap (λ (t : State). may_retire t n) (state-snoc log (signed v.number (Finish v.number))) ∙ is.may came)

  pub turned_by_finish : Turned v w log (Finish v.number ∷ [])
  turned_by_finish = subst (λ (z : View T). Turned v z log (Finish v.number ∷ [])) (sym is.is) record {
    seen = is.found.seen;
    is = refl;
    grows = record {
      seen = prefix_more v.seen log (signed v.number (Finish v.number) ∷ []) is.found.seen;
      history = is.history;
      before = is.found.own_seen;
      own = mine-own log v.number (Finish v.number) ∙ ap (λ (l : List Signed). l ++ signed v.number (Finish v.number) ∷ []) is.found.own;
      adds = refl;
      last = (log, refl);
      owes = refl;
      same = refl;
    };
  }
