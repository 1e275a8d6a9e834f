-- Part of the main theorem.
-- What a pass does between Begin and Finish where a request changes the configuration: a draft that is published, or given up,
-- or the halt.
use Rattle.std.specs.Prelude.{◌≡◌, ℕ, ◌+◌, ◌<◌, ◌==◌, if◌then◌else◌, List, ◌∷◌, ◌++◌, length, Option, Some, None, Ok}
use mathlib.Core.List.{IsPrefix}
use Rattle.cd_outside.specs.declared.key.Key.{Key}
use Rattle.cd_tree.specs.declared.tree.Tree.{Tree}
use Rattle.cd_wire.specs.declared.request.Request.{Request}
use Rattle.cd_legal.specs.declared.limits.TheConstants.{LAST_SERIAL}
use Rattle.cd_legal.specs.declared.plan.Plan.{Plan}
use Rattle.cd_legal.specs.declared.entry.Change.TheVariants as change
use Rattle.cd_legal.specs.declared.entry.Entry.TheVariants.{Draft, Publish, Abandon, Halt}
use Rattle.cd_legal.specs.declared.entry.Signed.{Signed}
use Rattle.cd_legal.specs.declared.state.State.{State}
use Rattle.cd_legal.specs.Legal.{state_at}
use Rattle.cd_legal.specs.Placed.{Placed, placed_entries, through, met}
use Rattle.cd_legal.specs.Runs.{Failure, opened, opened_until, ended_all, undone_after, stopped_of}
use Rattle.cd_hall.specs.Room.{oldest_before, is_full}
use Rattle.cd_serve.specs.declared.fault.ChangeFault.{ChangeFault}
use Rattle.cd_serve.specs.declared.fault.ChangeFault.TheVariants.{StillInUse, NoSerialLeft}
use Rattle.cd_serve.specs.Meanings.{Meaning}
use Rattle.cd_serve.specs.Retirements.{Retirement, IsRetirement}

-- why no configuration may follow the current one: one that is to be retired first is not, or no serial is left
abbrev pub no_room : State → Option ChangeFault
no_room s =
    if is_full s s.serial
    then Some (StillInUse (oldest_before s.serial))
    else if s.serial == LAST_SERIAL then Some NoSerialLeft else None

-- a draft of this tree
module _ (m : Meaning) (tree : Tree) where
  -- it was opened whole and published as the serial after this one by the request; then the apps of this one were stopped
  pub record IsPublished (q : Request) (serial : ℕ) (work : List Placed) : Type 0 where
    pub draft : ℕ
    pub plan : Plan
    pub opening : List Placed
    pub publish : Placed
    pub stopping : List Placed
    pub whole : work ≡ opening ++ publish ∷ stopping
    pub planned : m.plan tree ≡ Ok plan
    pub opens : placed_entries opening ≡ Draft draft tree plan ∷ opened draft plan
    pub publishes : publish.entry ≡ Publish draft (serial + 1) serial (change.Request q)
    pub stops : placed_entries stopping ≡ stopped_of (met publish) serial

  -- it was opened whole, given up, and all of it was ended
  pub record IsGivenUp (work : List Placed) : Type 0 where
    pub draft : ℕ
    pub plan : Plan
    pub opening : List Placed
    pub abandon : Placed
    pub ending : List Placed
    pub whole : work ≡ opening ++ abandon ∷ ending
    pub planned : m.plan tree ≡ Ok plan
    pub opens : placed_entries opening ≡ Draft draft tree plan ∷ opened draft plan
    pub abandons : abandon.entry ≡ Abandon draft
    pub ends : placed_entries ending ≡ ended_all draft (length plan.modules) (length plan.apps)

  -- it was opened up to a key that could not be opened, given up, and what there was of it was ended
  pub record IsUndone (key : Key) (work : List Placed) : Type 0 where
    pub draft : ℕ
    pub plan : Plan
    pub failure : Failure
    pub planned : m.plan tree ≡ Ok plan
    pub whole : placed_entries work ≡ Draft draft tree plan ∷ (opened_until draft plan failure key ++ Abandon draft ∷ undone_after draft plan failure)

  -- it was opened whole and given up by pass k, since at a place in between the serial was still this one, which had no room
  pub record IsKept (k serial : ℕ) (why : ChangeFault) (work : List Placed) : Type 0 where
    pub given_up : IsGivenUp work
    pub place : List Signed
    pub after : IsPrefix (through k given_up.opening) place
    pub before : IsPrefix place given_up.abandon.before
    pub current : (state_at place).serial ≡ serial
    pub refused : no_room (state_at place) ≡ Some why

  -- it was opened whole and given up, since another pass had published after this serial
  pub record IsSuperseded (serial : ℕ) (work : List Placed) : Type 0 where
    pub given_up : IsGivenUp work
    pub later : serial < (met given_up.abandon).serial

-- the host was halted, and the apps of the serial before were stopped; the block of that serial may follow
pub record IsHalting (work : List Placed) : Type 0 where
  pub halt : Placed
  pub stopping : List Placed
  pub block : List Placed
  pub whole : work ≡ halt ∷ (stopping ++ block)
  pub halts : halt.entry ≡ Halt ((met halt).serial + 1)
  pub stops : placed_entries stopping ≡ stopped_of (met halt) (met halt).serial
  pub retires : IsRetirement (met halt) (Retirement.here_or_elsewhere (met halt).serial) block
