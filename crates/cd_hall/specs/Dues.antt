-- Which duty comes with the end of a request, and with a halt.
use Rattle.std.specs.Prelude.{◌≡◌, ◌⊎◌, ℕ, ◌+◌, ◌==◌, ◌&&◌, Bool, true, false, nat_lt, cond, List, [], ◌∷◌, ◌++◌, Some}
use Rattle.std.specs.List.{list_all}
use mathlib.Core.List.{IsPrefix}
use Rattle.cd_legal.specs.declared.entry.Entry.TheVariants.{Finish}
use Rattle.cd_legal.specs.declared.entry.Signed.{Signed}
use Rattle.cd_legal.specs.declared.state.State.{State}
use Rattle.cd_legal.specs.Entry.{signed}
use Rattle.cd_legal.specs.Laws.{core_at}
use Rattle.cd_legal.specs.State.{open_at, ticket_of}
use Rattle.cd_legal.specs.Legal.{state_at, may_retire}
use Rattle.cd_legal.specs.Signing.{IsHistory}

-- the serial is superseded, and one request runs under it
abbrev pub is_last_at : State → ℕ → Bool
is_last_at s n = nat_lt n s.serial && (open_at n s.tickets == 1)

-- the halt has superseded it
abbrev pub is_before_halt : State → ℕ → Bool
is_before_halt s n = s.halted && (n + 1 == s.serial)

-- the duty comes where the last request ends under a superseded serial; where the halt has superseded it, the duty may also not come
abbrev pub DueBy : Bool → Bool → ℕ → List ℕ → Type 0
DueBy false by_halt n duties = duties ≡ []
DueBy true false n duties = duties ≡ n ∷ []
DueBy true true n duties = (duties ≡ []) ⊎ (duties ≡ n ∷ [])

-- so it comes with the end of a request under the serial, by the state that its Finish meets
abbrev pub DueThen : State → ℕ → List ℕ → Type 0
DueThen s n duties = DueBy (is_last_at s n) (is_before_halt s n) n duties

-- each of these serials may be retired
abbrev pub MayRetireAll : State → List ℕ → Type 0
MayRetireAll s serials = list_all (may_retire s) serials ≡ true

-- after what was seen, and at most requests that began and ended, the duty comes exactly where no request runs under the serial.
-- The serial may then be retired
pub record DueLater (seen : List Signed) (n : ℕ) (duties : List ℕ) : Type 0 where
  pub later : List Signed
  pub history : IsHistory later
  pub seen_first : IsPrefix seen later
  pub same : core_at later ≡ core_at seen
  pub due : duties ≡ cond (open_at n (state_at later).tickets == 0) (n ∷ []) []
  pub may : MayRetireAll (state_at later) duties

-- the duty that came with the end of a request under the serial, which met this state: it came where the serial was settled by then,
-- and no other request ran under it
pub record DueAtEnd (s : State) (n : ℕ) (settled : Bool) (duties : List ℕ) : Type 0 where
  pub due : duties ≡ cond (is_last_at s n && settled) (n ∷ []) []
  -- the last request ends before the serial is settled only where the halt has superseded it
  pub early : is_last_at s n ≡ true → settled ≡ false → is_before_halt s n ≡ true

-- whether it was settled when a request ended that met this history, where it is settled after `later`: it was where `later` begins
-- what the end met
pub record SettledAfter (later found : List Signed) (settled : Bool) : Type 0 where
  pub late : settled ≡ true → IsPrefix later found
  pub known : IsPrefix later found → settled ≡ true

-- after what was seen the last request under the serial ends in the history, by this caller
pub record LastEnd (n : ℕ) (seen log : List Signed) : Type 0 where
  pub found : List Signed
  pub caller : ℕ
  pub after_it : IsPrefix seen found
  pub there : IsPrefix (found ++ signed caller (Finish caller) ∷ []) log
  pub ticket : ticket_of caller (state_at found).tickets ≡ Some n
  pub last : is_last_at (state_at found) n ≡ true
