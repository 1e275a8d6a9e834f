-- Part of the main theorem.
-- Where a pass retires a configuration: after the Finish that closes its last request, or after the Halt that supersedes it.
use Rattle.std.specs.Prelude.{◌≡◌, ◌⊎◌, ℕ, ◌+◌, ◌==◌, ◌&&◌, nat_lt, if◌then◌else◌, List, [], Option, Some, None}
use Rattle.cd_legal.specs.declared.state.State.{State}
use Rattle.cd_legal.specs.State.{ticket_of, open_at}
use Rattle.cd_legal.specs.Placed.{Placed, placed_entries}
use Rattle.cd_legal.specs.Runs.{block_of}

-- the block that follows: none, that of a serial, or that of a serial unless it stands elsewhere
pub data Retirement : Type 0 where
  none : Retirement
  here : ℕ → Retirement
  here_or_elsewhere : ℕ → Retirement

-- the block of a serial whose last request ends: where a halt has superseded it, it may stand elsewhere
abbrev pub due_of : State → ℕ → Retirement
due_of s n = if s.halted && (n + 1 == s.serial) then Retirement.here_or_elsewhere n else Retirement.here n

-- where the request of this serial ends: it is superseded, and this is its last request
abbrev pub due_at : State → Option ℕ → Retirement
due_at s None = Retirement.none
due_at s (Some n) = if nat_lt n s.serial && (open_at n s.tickets == 1) then due_of s n else Retirement.none

-- what follows a Finish of the caller in this state
abbrev pub due : State → ℕ → Retirement
due s caller = due_at s (ticket_of caller s.tickets)

-- these entries are the block that follows: the serial is retired and its instances are cleaned, the last one first
abbrev pub IsRetirement : State → Retirement → List Placed → Type 0
IsRetirement s Retirement.none entries = entries ≡ []
IsRetirement s (Retirement.here n) entries = placed_entries entries ≡ block_of s n
IsRetirement s (Retirement.here_or_elsewhere n) entries = (entries ≡ []) ⊎ (placed_entries entries ≡ block_of s n)
