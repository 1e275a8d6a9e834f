-- What a read of a connection comes to, and the fixed answer to what is refused. Of a connection are given the bytes that no request
-- has taken, whether its end was seen, and how many requests were answered.
use Rattle.std.specs.Prelude.{◌≡◌, ◌⊎◌, ℕ, Bool, true, List, ◌++◌, Option, Some, None, option_map}
use Rattle.cd_outside.specs.declared.past.Connection.{Connection}
use Rattle.cd_outside.specs.declared.past.Past.{Past}
use Rattle.cd_outside.specs.Past.{after_put, with_connection}
use Rattle.cd_wire.specs.declared.fault.WireFault.{WireFault}
use Rattle.cd_wire.specs.Faults.{status_of}
use Rattle.cd_wire.specs.Render.{refusal_bytes}
use Rattle.cd_session.specs.declared.cause.Cause.TheVariants as cause
use Rattle.cd_session.specs.declared.connection_end.ConnectionEnd.{ConnectionEnd}
use Rattle.cd_session.specs.Ends.{ended_by}
use Rattle.cd_session.specs.Ways.{IsProperPrefix}

-- the connection after more bytes were taken
abbrev pub with_taken : List ℕ → Connection → Connection
with_taken piece c = record c { taken = c.taken ++ piece }

-- the connection after its end was seen
abbrev pub with_end : Connection → Connection
with_end c = record c { ended = true }

-- more bytes came
pub record HasCome (left new_left : List ℕ) (ended new_ended : Bool) (before now : Option Past) : Type 0 where
  pub piece : List ℕ
  pub left_is : new_left ≡ left ++ piece
  pub ended_is : new_ended ≡ ended
  pub told : now ≡ option_map (with_connection (with_taken piece)) before

-- the end was seen
pub record HasEnded (left new_left : List ℕ) (new_ended : Bool) (before now : Option Past) : Type 0 where
  pub left_is : new_left ≡ left
  pub ended_is : new_ended ≡ true
  pub told : now ≡ option_map (with_connection with_end) before

-- bytes came for which there was no memory
pub record LacksRoom (answered : ℕ) (end : ConnectionEnd) (before now : Option Past) : Type 0 where
  pub piece : List ℕ
  pub end_is : end ≡ ended_by cause.Lacking answered
  pub told : now ≡ option_map (with_connection (with_taken piece)) before

-- the lane has failed, and tells nothing more
pub record HasFailed (answered : ℕ) (end : ConnectionEnd) (before now : Option Past) : Type 0 where
  pub end_is : end ≡ ended_by cause.Failed answered
  pub told : now ≡ before

-- a read of a connection whose end was not seen: it goes on with more bytes or with its end, or it is over
abbrev pub ReadsOn : Option ConnectionEnd → List ℕ → List ℕ → Bool → Bool → ℕ → ℕ → Option Past → Option Past → Type 0
ReadsOn None left new_left ended new_ended answered new_answered before now =
    (new_answered ≡ answered) × (HasCome left new_left ended new_ended before now ⊎ HasEnded left new_left new_ended before now)
ReadsOn (Some end) left new_left ended new_ended answered new_answered before now =
    LacksRoom answered end before now ⊎ HasFailed answered end before now

-- what follows was refused: its fixed answer was put, and the connection is over; or the lane failed in it
pub record IsRefused (fault : WireFault) (answered : ℕ) (end : ConnectionEnd) (before now : Option Past) : Type 0 where
  pub part : List ℕ
  pub told : now ≡ option_map (after_put part) before
  pub is : ((part ≡ refusal_bytes (status_of fault)) × (end ≡ ended_by cause.Whole answered))
      ⊎ (IsProperPrefix part (refusal_bytes (status_of fault)) × (end ≡ ended_by cause.Failed answered))
