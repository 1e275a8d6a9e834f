-- What a desk stands for.
use Rattle.std.specs.Prelude.{◌≡◌, ℕ, zero, suc, ◌+◌, ◌<◌, ◌==◌, cond, true, min, List, [], ◌∷◌, ◌++◌, length, slice_get, Option, Some, None}
use Rattle.cd_outside.specs.declared.fixtures.FixtureCall.{FixtureCall}
use Rattle.cd_outside.specs.FixtureCall.{CallsGrow}
use Rattle.cd_outside.specs.Counts.{count_end}
use Rattle.cd_pool.specs.Pairs.{pairs}
use Rattle.cd_legal.specs.declared.entry.Entry.{Entry}
use Rattle.cd_legal.specs.declared.entry.Signed.{Signed}
use Rattle.cd_legal.specs.declared.state.State.{State}
use Rattle.cd_legal.specs.Entry.{signed, entries}
use Rattle.cd_legal.specs.State.{has_number, ticket_of, open_at}
use Rattle.cd_legal.specs.Legal.{IsLegal, state_at}
use Rattle.cd_legal.specs.Calls.{fixture_calls}
use Rattle.cd_legal.specs.Begins.{begins_now}
use Rattle.cd_legal.specs.Whole.{is_closed_in}
use Rattle.cd_desk.specs.declared.desk.Desk.{Desk}
use Rattle.cd_desk.specs.Rows.{ShowsAt, row_with}

abbrev pub told_ticket : Option (Option ℕ) → Option ℕ
told_ticket None = None
told_ticket (Some o) = o

-- whether it is open at the serial
abbrev pub one_at : ℕ → Option ℕ → ℕ
one_at n None = 0
one_at n (Some m) = cond (m == n) 1 0

-- the caller has an open ticket
abbrev pub HasTicket : List (Option ℕ) → ℕ → Type 0
HasTicket tickets k = (n : ℕ) × (slice_get tickets k ≡ Some (Some n))

-- how many of these are open at the serial
abbrev pub told_at : ℕ → List (Option ℕ) → ℕ
told_at n [] = 0
told_at n (o ∷ os) = one_at n o + told_at n os

-- so many callers, and no request
abbrev pub none_open : ℕ → List (Option ℕ)
none_open zero = []
none_open (suc n) = None ∷ none_open n

module _ {F : Type 0} (calls : F → Option (List FixtureCall)) where
  -- the desk keeps what the state says, so many requests began under the serial, and since the opening desk the fixtures were
  -- called so; each row shows its draft, and the drafts without one are closed
  pub record Agrees (opening b : Desk F) (s : State) (told : List FixtureCall) (count : ℕ) : Type 0 where
    pub serial : s.serial ≡ b.serial
    pub halted : s.halted ≡ b.halted
    pub begun : min count count_end ≡ b.begun
    pub drafts : length s.drafts ≡ b.books.next
    pub rows : (d : ℕ) → ShowsAt s.retired (row_with d b.books.rows.items) (slice_get s.drafts d)
    pub closed : (d : ℕ) → d < b.books.next → row_with d b.books.rows.items ≡ None → is_closed_in s d ≡ true
    pub retired : (n : ℕ) → has_number n s.retired ≡ true → n < s.serial
    pub opening_retired : has_number 0 s.retired ≡ b.opening_retired
    pub pairs : s.pairs ≡ pairs b.books.pool.held
    pub tickets : (k : ℕ) → ticket_of k s.tickets ≡ told_ticket (slice_get b.tickets.by_caller.items k)
    pub at_serial : (n : ℕ) → open_at n s.tickets ≡ told_at n b.tickets.by_caller.items
    pub callers : length b.tickets.by_caller.items ≡ length opening.tickets.by_caller.items
    pub told_on : CallsGrow (calls opening.fixtures) told (calls b.fixtures)

  -- the history is legal, and leaves what the desk keeps
  pub record Holds (opening b : Desk F) (log : List Signed) : Type 0 where
    pub is_legal : IsLegal log
    pub agrees : Agrees opening b (state_at log) (fixture_calls (entries log)) (begins_now (entries log))

  -- what stood for a history stands afterwards for the same with this entry, whoever signs it
  abbrev pub AddsTo : Desk F → Desk F → Entry → Type 0
  AddsTo v w e = (opening : Desk F) (log : List Signed) (k : ℕ) → Holds opening v log → Holds opening w (log ++ signed k e ∷ [])

  -- what stood for a history stands for it still
  abbrev pub Keeps : Desk F → Desk F → Type 0
  Keeps v w = (opening : Desk F) (log : List Signed) → Holds opening v log → Holds opening w log
