-- The kinds of steps: what each asks of the view of the seat that makes it, and what it leaves.
use Rattle.std.specs.Prelude.{ℕ, ◌+◌, ◌-◌, ◌*◌, ◌%◌, ◌^◌, ◌==◌, Bool, true, false, ◌&&◌, List, [], ◌∷◌, ◌++◌, slice_index, slice_set, Option, Some, None}
use Rattle.cd_legal.specs.declared.entry.Entry.{Entry}
use Rattle.cd_legal.specs.declared.entry.Entry.TheVariants.{Begin, Finish, Retire}
use Rattle.cd_legal.specs.declared.entry.Signed.{Signed}
use Rattle.cd_legal.specs.declared.state.State.{State}
use Rattle.cd_legal.specs.Entry.{signed}
use Rattle.cd_legal.specs.State.{has_number}
use Rattle.cd_legal.specs.Legal.{allowed, state_at}
use Rattle.cd_legal.specs.Owing.{owes_by}
use Rattle.cd_legal.specs.Signing.{may_sign}
use Rattle.cd_legal.specs.declared.limits.TheConstants.{MAX_UNRETIRED}
use Rattle.cd_gate.specs.declared.table.TheConstants.{SERIAL_STEP, FULL_BALANCE}
use Rattle.cd_gate.specs.declared.view.View.{View}
use Rattle.cd_gate.specs.declared.view.Gone.{Gone}
use Rattle.cd_gate.specs.Counts.{is_noted}
use Rattle.cd_gate.specs.Duties.{more_due, duties_after}
use Rattle.cd_gate.specs.Words.{Slot, Moment, owed}

-- ---- what a note asks

-- a Retire is a duty of the pass; any other entry is allowed, as far as the pass has seen
abbrev pub may_follow : List ℕ → State → Entry → Bool
may_follow duties s (Retire n) = has_number n duties
may_follow duties s e = allowed s e

-- of two beginnings of one history the longer
abbrev pub longer : List Signed → List Signed → List Signed
longer [] ys = ys
longer (x ∷ xs) [] = x ∷ xs
longer (x ∷ xs) (y ∷ ys) = x ∷ longer xs ys

module _ {T : Type 0} where
  -- the entry may follow, it is made by a note, and the pass may sign it
  abbrev pub may_note : View T → Entry → Bool
  may_note v e = is_noted e && (may_follow v.duties (state_at v.seen) e && may_sign v.number (owed v) e)

  -- ---- views

  -- that of the first pass of a gate over this value
  abbrev pub first_view : T → View T
  first_view b = record { live = true; number = 0; turn = false; checked = false; ready = false; unsettled = None; seen = []; mine = []; ticket = None; draft = None; duties = []; older = []; made = 1; joined = []; opening = Some b }

  -- with the turn, and the whole history seen
  abbrev pub with_turn : View T → List Signed → View T
  with_turn v log = record v { turn = true; seen = log }

  -- without the turn
  abbrev pub without_turn : View T → View T
  without_turn v = record v { turn = false }

  -- with an entry of its own more, where this was the history
  abbrev pub adding : View T → List Signed → Entry → View T
  adding v log e = record v {
    seen = log ++ signed v.number e ∷ [];
    mine = v.mine ++ signed v.number e ∷ [];
    ticket = (owes_by (owed v) e).ticket;
    draft = (owes_by (owed v) e).draft;
  }

  -- where a note adds it
  abbrev pub noted : View T → List Signed → Entry → View T
  noted v log e = record (adding v log e) { duties = duties_after v.duties e }

  -- where the pass has found room for a request more
  abbrev pub checking : View T → List Signed → View T
  checking v log = record v { checked = true; seen = log }

  -- where it has found no room
  abbrev pub worn : View T → List Signed → View T
  worn v log = record v { seen = log }

  -- with a request that began under this serial
  abbrev pub begun : View T → List Signed → ℕ → View T
  begun v log n = record (adding v log (Begin v.number n)) { checked = false }

  -- without its request, which ran under this serial; it is told whether the serial is due then
  abbrev pub finished : View T → List Signed → ℕ → Bool → View T
  finished v log n due = record (adding v log (Finish v.number)) { duties = more_due due n v.duties }

  -- where it has made the balance of the coming serial ready
  abbrev pub readied : View T → View T
  readied v = record v { ready = true }

  -- the serial n, under which so many requests began, is superseded by this entry
  abbrev pub superseded : View T → List Signed → Entry → ℕ → ℕ → View T
  superseded v log e n begins = record (adding v log e) { ready = false; unsettled = Some (record { serial = n; begins = begins }) }

  -- where it has settled this serial, and is told whether it is due then
  abbrev pub settled : View T → ℕ → Bool → View T
  settled v n due = record v { unsettled = None; duties = more_due due n v.duties }

  -- that of number 0, when it has made one number more
  abbrev pub splitting : View T → View T
  splitting v = record v { made = v.made + 1 }

  -- that of the number that it has made, which has seen as much and owes nothing
  abbrev pub split_off : View T → View T
  split_off v = record { live = true; number = v.made; turn = false; checked = false; ready = false; unsettled = None; seen = v.seen; mine = []; ticket = None; draft = None; duties = []; older = []; made = 0; joined = []; opening = v.opening }

  -- what is kept of a joined pass
  abbrev pub gone_of : View T → Gone
  gone_of w = record { number = w.number; seen = w.seen; mine = w.mine }

  -- that of number 0, when it has joined the other: it has seen what either had
  abbrev pub joining : View T → View T → View T
  joining v w = record v { seen = longer v.seen w.seen; joined = v.joined ++ gone_of w ∷ [] }

  -- one that carries what was seen, and has no number
  abbrev pub messenger : List Signed → View T
  messenger seen = record { live = false; number = 0; turn = false; checked = false; ready = false; unsettled = None; seen = seen; mine = []; ticket = None; draft = None; duties = []; older = []; made = 0; joined = []; opening = None }

  -- one that was joined, or has delivered its message
  abbrev pub spent_view : View T
  spent_view = messenger []

  -- with the messenger's list: the longer is what it has seen, and both are to be compared
  abbrev pub told : View T → View T → View T
  told v w = record v { seen = longer v.seen w.seen; older = v.seen ∷ w.seen ∷ [] }

  -- with nothing to be compared
  abbrev pub compared : View T → View T
  compared v = record v { older = [] }

  -- ---- moments

  -- the seat has another view
  abbrev pub with_view : Moment T → ℕ → View T → Moment T
  with_view m seat v = record m { views = slice_set m.views seat v }

  -- one seat more, with this view
  abbrev pub with_seat : Moment T → View T → Moment T
  with_seat m v = record m { views = m.views ++ v ∷ [] }

  -- acquire: the seat takes the turn, which was free, and the slot with the board
  abbrev pub acquire : Moment T → ℕ → View T → List Signed → T → Moment T
  acquire m seat v log b = record (with_view m seat (with_turn v log)) { turn = v.number + 1; board = Slot.Held (Some b) }

  -- slot out, slot back: the seat, which has the slot, takes the board out of it, or puts one in
  abbrev pub move_board : Moment T → Option T → Moment T
  move_board m x = record m { board = Slot.Held x }

  -- note: the seat, which has the turn, adds an entry
  abbrev pub note : Moment T → ℕ → View T → List Signed → Entry → Moment T
  note m seat v log e = record (with_view m seat (noted v log e)) { counted = (m.counted + 1) % 2 ^ 64 }

  -- release: the seat gives back the turn, and the slot with the board in it
  abbrev pub release : Moment T → ℕ → View T → T → Moment T
  release m seat v b = record (with_view m seat (without_turn v)) { turn = 0; board = Slot.Home b }

  -- check: the seat reads the word of the serial, and finds room for a request more
  abbrev pub check : Moment T → ℕ → View T → List Signed → Moment T
  check m seat v log = with_view m seat (checking v log)

  -- or finds none
  abbrev pub check_worn : Moment T → ℕ → View T → List Signed → Moment T
  check_worn m seat v log = with_view m seat (worn v log)

  -- begin: one is added to the word of the serial
  abbrev pub begin : Moment T → ℕ → View T → List Signed → ℕ → Moment T
  begin m seat v log n = record (with_view m seat (begun v log n)) { packed = m.packed + 1 }

  -- finish: one is taken off the balance at the place of the ticket's serial, which is due where 1 was found
  abbrev pub finish : Moment T → ℕ → View T → List Signed → ℕ → ℕ → Moment T
  finish m seat v log n place = record (with_view m seat (finished v log n (slice_index m.balances place == 1))) { balances = slice_set m.balances place (slice_index m.balances place - 1) }

  -- reset: the balance of the coming serial is made ready
  abbrev pub reset : Moment T → ℕ → View T → ℕ → Moment T
  reset m seat v n = record (with_view m seat (readied v)) { balances = slice_set m.balances (1 + (n + 1) % MAX_UNRETIRED) (FULL_BALANCE) }

  -- publish, or halt: the word of the serial is swapped
  abbrev pub supersede : Moment T → ℕ → View T → List Signed → Entry → ℕ → ℕ → Moment T
  supersede m seat v log e n begins = record (with_view m seat (superseded v log e n begins)) { packed = (n + 1) * SERIAL_STEP }

  -- settle: the full balance less the requests that began is taken off the unsettled serial's balance, which leaves those that run
  abbrev pub settle : Moment T → ℕ → View T → ℕ → ℕ → Moment T
  settle m seat v n left = record (with_view m seat (settled v n (left == 0))) { balances = slice_set m.balances (1 + n % MAX_UNRETIRED) left }

  -- split: the seat of number 0 makes a pass more
  abbrev pub split : Moment T → ℕ → View T → Moment T
  split m seat v = with_seat (with_view m seat (splitting v)) (split_off v)

  -- join: the seat of number 0 takes in the other, which is spent
  abbrev pub join : Moment T → ℕ → View T → ℕ → View T → Moment T
  join m seat v other w = with_view (with_view m seat (joining v w)) other spent_view

  -- copy: the seat sends a messenger
  abbrev pub copy : Moment T → ℕ → View T → Moment T
  copy m seat v = with_seat (with_view m seat v) (messenger v.seen)

  -- hand over: the seat takes in the messenger, which is spent
  abbrev pub hand_over : Moment T → ℕ → View T → ℕ → View T → Moment T
  hand_over m seat v other w = with_view (with_view m seat (told v w)) other spent_view

  -- compare: the seat has compared its lists
  abbrev pub compare : Moment T → ℕ → View T → Moment T
  compare m seat v = with_view m seat (compared v)
