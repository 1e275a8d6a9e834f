-- The rule of the table below a gate, and what its steps tell.
use Rattle.std.specs.Prelude.{◌≡◌, ◌≢◌, ℕ, ◌+◌, ◌/◌, ◌%◌, ◌≤◌, ◌==◌, cond, nat_lt, true, false, Bool, List, [], ◌∷◌, ◌++◌, length, drop, slice_index, Option, Some}
use mathlib.Core.Option.{some}
use mathlib.Core.List.{IsPrefix}
use lib.ListN.{get_elem?}
use Rattle.atomic_table.specs.Table.{State, Me, Step, rest}
use Rattle.cd_legal.specs.declared.entry.Entry.{Entry}
use Rattle.cd_legal.specs.declared.entry.Entry.TheVariants.{Begin, Finish}
use Rattle.cd_legal.specs.declared.entry.Signed.{Signed}
use Rattle.cd_legal.specs.declared.limits.TheConstants.{MAX_BEGINS, LAST_SERIAL}
use Rattle.cd_legal.specs.declared.state.State.{State as Host}
use Rattle.cd_legal.specs.Entry.{signed, mine}
use Rattle.cd_legal.specs.Laws.{core_at}
use Rattle.cd_legal.specs.State.{has_number, ticket_of, open_at}
use Rattle.cd_legal.specs.Legal.{after, state_at, may_retire}
use Rattle.cd_legal.specs.Whole.{nothing_left}
use Rattle.cd_legal.specs.Owing.{owes_of}
use Rattle.cd_legal.specs.Signing.{IsHistory}
use Rattle.cd_gate.specs.declared.table.TheConstants.{SERIAL_WORD, SERIAL_STEP, TURN_WORD, HISTORY_WORD, BALANCE_WORD, WORD_COUNT, BOARD_SLOT, SLOT_COUNT}
use Rattle.cd_gate.specs.declared.view.Unsettled.{Unsettled}
use Rattle.cd_gate.specs.declared.view.View.{View}
use Rattle.cd_gate.specs.Counts.{begins_in}
use Rattle.cd_gate.specs.Duties.{is_due}
use Rattle.cd_gate.specs.Words.{Slot, Moment, owed, first_balances}
use Rattle.cd_gate.specs.Rule.{IsKept}
use Rattle.cd_gate.specs.Steps.{checking, worn, begun, finished, readied, superseded, settled, noted, with_turn, without_turn, compared}

-- ---- what a step finds

-- the history that a step of a pass meets
pub record Found {T : Type 0} (v : View T) (log : List Signed) : Type 0 where
  -- it is a history, which begins with what the pass had seen
  pub history : IsHistory log
  pub seen : IsPrefix v.seen log
  -- with the entries of the pass, all of which it had seen
  pub own : mine v.number log ≡ v.mine
  pub own_seen : mine v.number v.seen ≡ v.mine
  -- its number owes what its view says
  pub owes : owes_of v.number log ≡ owed v
  -- where it has the turn, others have begun and ended requests since its last step, and no more
  pub in_turn : v.turn ≡ true → core_at log ≡ core_at v.seen

-- the history that a step of the pass with the turn meets: since its last step others have begun and ended requests, and no more
pub record FoundInTurn {T : Type 0} (v : View T) (log : List Signed) : Type 0 where
  pub found : Found v log
  pub core_is : core_at log ≡ core_at v.seen

-- what a pass that takes the turn finds: the history, and the board
pub record Finds {T : Type 0} (stands : T → T → List Signed → Type 0) (opening : T) (v : View T) (log : List Signed) (b : T) : Type 0 where
  pub found : Found v log
  -- its duties may be done
  pub duties : (n : ℕ) → has_number n v.duties ≡ true → may_retire (state_at log) n ≡ true
  -- there is room for the serial of a halt, and nothing is left to be stopped or cleaned
  pub serials : (state_at log).halted ≡ false → (state_at log).serial ≤ LAST_SERIAL
  pub left : nothing_left (state_at log) ≡ true
  -- the board stands for it without Begin and Finish
  pub board : stands opening b (core_at log)

-- ---- requests

-- a pass that had the view v has begun a request at the serial, after this history, and has the view w
pub record Begins {T : Type 0} (v w : View T) (serial : ℕ) (log : List Signed) : Type 0 where
  pub found : Found v log
  pub is : w ≡ begun v log serial
  pub current : serial ≡ (state_at log).serial
  pub history : IsHistory (log ++ signed v.number (Begin v.number serial) ∷ [])

-- which serial is not settled, if one is, where the pass k ends a request: the one before the current one; and unless the host is
-- halted another pass has a request at it
pub record UnsettledThen (s : Host) (k : ℕ) (unsettled : Option ℕ) : Type 0 where
  pub last : (n : ℕ) → unsettled ≡ Some n → n + 1 ≡ s.serial
  pub lent : (n : ℕ) → unsettled ≡ Some n → s.halted ≡ false → (j : ℕ) × (j ≢ k) × (ticket_of j s.tickets ≡ Some n)

-- a pass that had the view v has ended its request at the serial, after this history, and has the view w; it is told whether the
-- serial is due then
pub record Ends {T : Type 0} (v w : View T) (serial : ℕ) (due : Bool) (log : List Signed) : Type 0 where
  pub found : Found v log
  pub is : w ≡ finished v log serial due
  pub running : ticket_of v.number (state_at log).tickets ≡ Some serial
  pub history : IsHistory (log ++ signed v.number (Finish v.number) ∷ [])
  pub unsettled : Option ℕ
  pub unsettled_then : UnsettledThen (state_at log) v.number unsettled
  pub due_is : due ≡ is_due (after (state_at log) (Finish v.number)) unsettled serial
  -- where it is due it may be retired
  pub may : due ≡ true → may_retire (after (state_at log) (Finish v.number)) serial ≡ true

-- ---- the table

-- the words at the beginning: serial 0, the turn free, nothing noted, and each balance full
abbrev pub first_words : List ℕ
first_words = 0 ∷ 0 ∷ 0 ∷ first_balances

-- how many requests began under the current serial, by what was found in its word
abbrev pub found_begins : ℕ → ℕ
found_begins found = found % SERIAL_STEP

module _ {T : Type 0} where
  -- the moment that a table shows, with this in the slot
  abbrev pub moment_of : State (Option T) (View T) → Slot T → Moment T
  moment_of s slot = record {
    packed = slice_index s.words SERIAL_WORD;
    turn = slice_index s.words TURN_WORD;
    counted = slice_index s.words HISTORY_WORD;
    balances = drop BALANCE_WORD s.words;
    board = slot;
    views = s.views;
  }

  -- the turn was free, and the seat has it, and the slot with the board; or nothing changed
  abbrev pub acquired : (T → T → List Signed → Type 0) → Step (Option T) → Me (Option T) (View T) → ℕ → Me (Option T) (View T) → Type 0
  acquired stands st m found m' =
      (found ≡ 0 → (log : List Signed) × (b : T) × (m' ≡ (with_turn m.0 log, (BOARD_SLOT, Some b) ∷ m.1)) × ((o : T) × (m.0.opening ≡ Some o) × Finds stands o m.0 log b))
      × (found ≢ 0 → m' ≡ m)

  -- the entry was noted
  abbrev pub wrote : Entry → Step (Option T) → Me (Option T) (View T) → ℕ → Me (Option T) (View T) → Type 0
  wrote e st m found m' = (log : List Signed) × FoundInTurn m.0 log × (m' ≡ (noted m.0 log e, m.1)) × IsHistory (log ++ signed m.0.number e ∷ [])

  abbrev pub released : Step (Option T) → Me (Option T) (View T) → ℕ → Me (Option T) (View T) → Type 0
  released st m found m' = m' ≡ (without_turn m.0, rest m.1)

  -- there is room for a request more, or there is none
  abbrev pub has_checked : Step (Option T) → Me (Option T) (View T) → ℕ → Me (Option T) (View T) → Type 0
  has_checked st m found m' =
      (log : List Signed) × Found m.0 log × (found_begins found ≡ begins_in log (state_at log).serial)
      × (m' ≡ (cond (nat_lt (found_begins found) MAX_BEGINS) (checking m.0 log) (worn m.0 log), m.1))

  abbrev pub has_begun : Step (Option T) → Me (Option T) (View T) → ℕ → Me (Option T) (View T) → Type 0
  has_begun st m found m' = (log : List Signed) × (w : View T) × (m' ≡ (w, m.1)) × Begins m.0 w (found / SERIAL_STEP) log

  abbrev pub has_ended : Step (Option T) → Me (Option T) (View T) → ℕ → Me (Option T) (View T) → Type 0
  has_ended st m found m' = (n : ℕ) → m.0.ticket ≡ Some n → (log : List Signed) × (w : View T) × (m' ≡ (w, m.1)) × Ends m.0 w n (found == 1) log

  abbrev pub has_readied : Step (Option T) → Me (Option T) (View T) → ℕ → Me (Option T) (View T) → Type 0
  has_readied st m found m' = m' ≡ (readied m.0, m.1)

  -- the entry has superseded the serial n
  abbrev pub superseded_at : ℕ → Entry → Step (Option T) → Me (Option T) (View T) → ℕ → Me (Option T) (View T) → Type 0
  superseded_at n e st m found m' =
      (log : List Signed) × FoundInTurn m.0 log × (found_begins found ≡ begins_in log n)
      × (m' ≡ (superseded m.0 log e n (begins_in log n), m.1)) × IsHistory (log ++ signed m.0.number e ∷ [])

  -- the entry for the serial that the pass has seen as current has superseded this
  abbrev pub has_superseded : (ℕ → Entry) → Step (Option T) → Me (Option T) (View T) → ℕ → Me (Option T) (View T) → Type 0
  has_superseded by st m found m' = (n : ℕ) → n ≡ (state_at m.0.seen).serial → superseded_at n (by n) st m found m'

  -- the serial was settled, and is due where no request was left
  abbrev pub has_settled : Step (Option T) → Me (Option T) (View T) → ℕ → Me (Option T) (View T) → Type 0
  has_settled st m found m' =
      (u : Unsettled) → m.0.unsettled ≡ Some u → (log : List Signed) × FoundInTurn m.0 log
      × ((found == st.first) ≡ (open_at u.serial (state_at log).tickets == 0)) × (m' ≡ (settled m.0 u.serial (found == st.first), m.1))

  abbrev pub has_compared : Step (Option T) → Me (Option T) (View T) → ℕ → Me (Option T) (View T) → Type 0
  has_compared st m found m' = (m' ≡ (compared m.0, m.1)) × ((i : ℕ) (l : List Signed) → get_elem? m.0.older i ≡ some l → IsPrefix l m.0.seen)

-- the rule of the table: some history and some slot agree with it
pub record Holds {T : Type 0} (stands : T → T → List Signed → Type 0) (opening : T) (s : State (Option T) (View T)) : Type 0 where
  pub log : List Signed
  pub slot : Slot T
  pub kept : IsKept stands opening log (moment_of s slot)
  -- the table has its words, and its slot
  pub wide : length s.words ≡ WORD_COUNT
  pub deep : length s.homes ≡ SLOT_COUNT
  -- a board at home is in it
  pub home : (b : T) → slot ≡ Slot.Home b → get_elem? s.homes BOARD_SLOT ≡ some (some (Some b))
