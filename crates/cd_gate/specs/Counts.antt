-- What the words count.
use Rattle.std.specs.Prelude.{◌≡◌, ℕ, ◌+◌, ◌*◌, ◌%◌, ◌<◌, ◌≤◌, ◌==◌, ◌&&◌, not, cond, Bool, true, false, List, [], ◌∷◌, length, slice_index, Option, Some, None}
use mathlib.Core.Option.{some}
use lib.ListN.{get_elem?}
use Rattle.cd_legal.specs.declared.entry.Entry.{Entry}
use Rattle.cd_legal.specs.declared.entry.Entry.TheVariants.{Begin, Finish, Publish, Halt}
use Rattle.cd_legal.specs.declared.entry.Signed.{Signed}
use Rattle.cd_legal.specs.declared.limits.TheConstants.{LAST_SERIAL, MAX_BEGINS, MAX_UNRETIRED}
use Rattle.cd_legal.specs.declared.state.State.{State}
use Rattle.cd_legal.specs.Begins.{begins_at}
use Rattle.cd_legal.specs.Entry.{entries}
use Rattle.cd_legal.specs.State.{has_number, open_at, apps_stopped}
use Rattle.cd_gate.specs.declared.table.TheConstants.{SERIAL_STEP, FULL_BALANCE}
use Rattle.cd_gate.specs.declared.view.View.{View}
use Rattle.cd_gate.specs.Duties.{is_settled}

-- how many requests began under the serial
abbrev pub begins_in : List Signed → ℕ → ℕ
begins_in log n = begins_at n (entries log)

-- it is made by a note, and not by a step of its own
abbrev pub is_noted : Entry → Bool
is_noted (Begin k n) = false
is_noted (Finish k) = false
is_noted (Publish d n from change) = false
is_noted (Halt n) = false
is_noted e = true

-- how many of these are
abbrev pub noted_in : List Entry → ℕ
noted_in [] = 0
noted_in (e ∷ es) = cond (is_noted e) 1 0 + noted_in es

-- ---- serials and their balances

-- the place of a serial's balance: the first for the serial of the halt, and one of the others in turn for each other serial
abbrev pub place_of : State → ℕ → ℕ
place_of s n = cond (s.halted && (n == s.serial)) 0 (1 + n % MAX_UNRETIRED)

-- the balance of the coming serial is ready, where `edge` is the last serial whose balance was made ready
abbrev pub is_ready : State → ℕ → Bool
is_ready s edge = not s.halted && (edge == s.serial + 1)

-- the word of the serial, and the balances, where so many requests began under each serial
pub record Counts (packed : ℕ) (balances : List ℕ) (s : State) (unsettled : Option ℕ) (edge : ℕ) (begins : ℕ → ℕ) : Type 0 where
  -- the word has the current serial, and how many requests began under it
  pub packed_is : packed ≡ s.serial * SERIAL_STEP + begins s.serial
  pub range : length balances ≡ 1 + MAX_UNRETIRED
  -- a serial that is current or unsettled has the full balance less the requests that ended: so with those that began it is the
  -- full one with those that run
  pub whole : (n : ℕ) → n ≤ s.serial → edge < n + MAX_UNRETIRED → is_settled s unsettled n ≡ false → slice_index balances (place_of s n) + begins n ≡ FULL_BALANCE + open_at n s.tickets
  -- a settled one has the requests that run
  pub settled : (n : ℕ) → edge < n + MAX_UNRETIRED → is_settled s unsettled n ≡ true → slice_index balances (place_of s n) ≡ open_at n s.tickets
  -- a balance that no serial has used is full
  pub unused : (n : ℕ) → edge < n → n < MAX_UNRETIRED → slice_index balances (1 + n) ≡ FULL_BALANCE
  -- so is that of the coming serial once it is ready, and that of the serial of the halt before the halt
  pub coming : is_ready s edge ≡ true → slice_index balances (1 + edge % MAX_UNRETIRED) ≡ FULL_BALANCE
  pub halting : s.halted ≡ false → slice_index balances 0 ≡ FULL_BALANCE
  -- under a serial that is not settled so few began that their count fits the word, and under one that is not there yet none
  pub few : (n : ℕ) → is_settled s unsettled n ≡ false → begins n < SERIAL_STEP
  pub unbegun : (n : ℕ) → s.serial < n → begins n ≡ 0

-- what is said of the serials
pub record Ordered (s : State) (unsettled : Option ℕ) (edge : ℕ) : Type 0 where
  -- the one that is unsettled is the one before the current one, and not retired
  pub last : (n : ℕ) → unsettled ≡ Some n → n + 1 ≡ s.serial
  pub fresh : (n : ℕ) → unsettled ≡ Some n → has_number n s.retired ≡ false
  -- all apps of a settled one are stopped
  pub stopped : (n : ℕ) → is_settled s unsettled n ≡ true → apps_stopped s n ≡ true
  -- the balance that was made ready last is that of the current one or of the coming one; the one of the halt has its own place
  pub low : s.serial ≤ edge + cond s.halted 1 0
  pub high : edge + cond s.halted 1 0 ≤ s.serial + 1
  -- one whose balance was used again is retired
  pub reused : (n : ℕ) → n + MAX_UNRETIRED ≤ edge → has_number n s.retired ≡ true
  -- there is room for the serial of a halt
  pub room : s.serial ≤ LAST_SERIAL + cond s.halted 1 0
  -- while the balance of the coming serial is ready nothing is unsettled
  pub ready_alone : is_ready s edge ≡ true → unsettled ≡ None

-- ---- views

-- a sum over the views
abbrev pub total : {V : Type 0} → (V → ℕ) → List V → ℕ
total f [] = 0
total f (v ∷ vs) = f v + total f vs

-- there are no more live views than numbers were made, and the requests that began under the current serial, with the views that
-- have found room for one, are at most as many more than the limit
pub record Crowd {T : Type 0} (begun : ℕ) (views : List (View T)) : Type 0 where
  pub few : (root : View T) → get_elem? views 0 ≡ some root → total (λ (u : View T). cond u.live 1 0) views ≤ root.made
  pub room : (root : View T) → get_elem? views 0 ≡ some root → begun + total (λ (u : View T). cond u.checked 1 0) views ≤ MAX_BEGINS + root.made
