-- What there is between two steps: the words, the board, and what each pass knows.
use Rattle.std.specs.Prelude.{ℕ, ◌+◌, List, Option}
use lib.ListN.{replicate}
use Rattle.cd_legal.specs.Owing.{Owes}
use Rattle.cd_legal.specs.declared.limits.TheConstants.{MAX_UNRETIRED}
use Rattle.cd_gate.specs.declared.table.TheConstants.{FULL_BALANCE}
use Rattle.cd_gate.specs.declared.view.View.{View}

-- the slot of the board: nobody has it, and the board is in it; or the pass with the turn has it, with the board in it or, once
-- this pass has taken the board in its hand, empty
pub data Slot (T : Type 0) : Type 0 where
  Home : T → Slot T
  Held : Option T → Slot T

pub record Moment (T : Type 0) : Type 0 where
  -- the current serial, and how many requests began under it
  pub packed : ℕ
  -- 0 where the turn is free, else one more than the number of the pass that has it
  pub turn : ℕ
  -- the count of the noted entries, which begins again at 2^64
  pub counted : ℕ
  -- the balance of the halted serial, and then those of the other serials in turn
  pub balances : List ℕ
  pub board : Slot T
  -- what each pass knows, by its seat
  pub views : List (View T)

-- what the pass owes, by its view
abbrev pub owed : {T : Type 0} → View T → Owes
owed v = record { ticket = v.ticket; draft = v.draft }

-- the balances at the beginning: each is full
unfoldable pub first_balances : List ℕ
first_balances = replicate (1 + MAX_UNRETIRED) FULL_BALANCE
