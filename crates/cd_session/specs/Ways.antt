-- Part of the main theorem.
-- In which ways the serving of a connection ends.
use Rattle.std.specs.Prelude.{◌≡◌, ℕ, ◌<◌, Bool, true, false, List, length, take}
use Rattle.cd_wire.specs.declared.fault.WireFault.{WireFault}
use Rattle.cd_wire.specs.Requests.{HasNoRequest, HasTail, Tail}

-- what cut a connection short: the answer to its last request, which was not written whole or lacked memory, or a line of it; the
-- reading of its next bytes; the beginning of a further request; the fixed answer to what is refused; or that where the serial is worn
pub data Interruption : Type 0 where
  answering lacking logging reading beginning wearing : Interruption
  refusing : WireFault → Interruption

-- its bytes ended after its last request, or inside a body; what follows is refused; the last answer closes it; nobody answered its
-- last request there, or anywhere, since the host has halted; too many requests began under the serial; or it was interrupted
pub data Way : Type 0 where
  clean truncated closed dropped halted worn : Way
  refused : WireFault → Way
  interrupted : Interruption → Way

-- the bytes begin with no further request, for this reason
abbrev pub IsTail : List ℕ → Bool → Tail → Type 0
IsTail rest ended tail = HasNoRequest rest × HasTail rest ended tail

-- less than all of the whole, from its beginning
abbrev pub IsProperPrefix : {A : Type 0} → List A → List A → Type 0
IsProperPrefix part whole = (count : ℕ) × (count < length whole) × (part ≡ take count whole)

-- ---- what is counted

-- it was interrupted
abbrev pub is_interrupted : Way → Bool
is_interrupted Way.clean = false
is_interrupted Way.truncated = false
is_interrupted Way.closed = false
is_interrupted Way.dropped = false
is_interrupted Way.halted = false
is_interrupted Way.worn = false
is_interrupted (Way.refused fault) = false
is_interrupted (Way.interrupted break) = true

-- a call on the lane has failed, so that this cut the connection short: memory alone can't have done so
abbrev pub is_by_fault : Interruption → Bool
is_by_fault Interruption.answering = true
is_by_fault Interruption.lacking = false
is_by_fault Interruption.logging = true
is_by_fault Interruption.reading = false
is_by_fault Interruption.beginning = false
is_by_fault Interruption.wearing = true
is_by_fault (Interruption.refusing fault) = true

-- it was interrupted so
abbrev pub is_faulted : Way → Bool
is_faulted (Way.interrupted break) = is_by_fault break
is_faulted way = false

-- its last request found the host halted
abbrev pub finds_halt : Way → Bool
finds_halt Way.halted = true
finds_halt way = false
