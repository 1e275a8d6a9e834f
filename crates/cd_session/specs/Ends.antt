-- Why the serving of a connection or of a lane ended, and what is counted for it.
use Rattle.std.specs.Prelude.{◌≡◌, ◌≤◌, ℕ, Bool, true, false, Option, Some, None}
use Rattle.cd_outside.specs.declared.accepted.Accepted.TheVariants as accepted
use Rattle.cd_outside.specs.declared.address.Address.{Address}
use Rattle.cd_outside.specs.declared.past.Past.{Past}
use Rattle.cd_outside.specs.Counts.{raised, Rose}
use Rattle.cd_session.specs.declared.cause.Cause.{Cause}
use Rattle.cd_session.specs.declared.cause.Cause.TheVariants as cause
use Rattle.cd_session.specs.declared.connection_end.ConnectionEnd.{ConnectionEnd}
use Rattle.cd_session.specs.declared.lane_end.LaneHow.{LaneHow}
use Rattle.cd_session.specs.declared.lane_end.LaneHow.TheVariants as how
use Rattle.cd_session.specs.Ways.{Way, is_interrupted, is_faulted}

-- ---- a connection

-- a connection that ended for this cause, of whose requests so many were answered, and which found no host halted
abbrev pub ended_by : Cause → ℕ → ConnectionEnd
ended_by c answered = record { cause = c; answered = answered; halted = false }

-- the way has this cause: it is none that cut a connection short; the lane has failed; or memory lacked, which no fault may stand for
abbrev pub CausedBy : Cause → Way → Type 0
CausedBy cause.Whole way = is_interrupted way ≡ false
CausedBy cause.Failed way = is_interrupted way ≡ true
CausedBy cause.Lacking way = (is_interrupted way ≡ true) × (is_faulted way ≡ false)

-- a fault that is told has risen the count
abbrev pub HasRisen : Cause → ℕ → ℕ → Type 0
HasRisen cause.Whole before now = before ≤ now
HasRisen cause.Failed before now = Rose before now × (before ≤ now)
HasRisen cause.Lacking before now = before ≤ now

-- the count of those that lacked memory
abbrev pub cut_by : Cause → ℕ → ℕ
cut_by cause.Whole cut = cut
cut_by cause.Failed cut = cut
cut_by cause.Lacking cut = raised cut

-- the faults of the lane have risen where it ended for that
abbrev pub RisesBy : Option ConnectionEnd → ℕ → ℕ → Type 0
RisesBy (Some end) before now = HasRisen end.cause before now
RisesBy None before now = before ≤ now

-- where it ended since the host has halted, that is so
abbrev pub HaltedBy : Option ConnectionEnd → Bool → Type 0
HaltedBy (Some end) halted = end.halted ≡ true → halted ≡ true
HaltedBy None halted = Unit {0}

-- ---- a lane

-- Why a lane is served no further, by how often it had failed and has, and what it told and tells: its last accept says that no
-- more comes, and none has failed; its last accept failed, and no other, and the faults have risen; or the connection of its last
-- accept found the host halted.
abbrev pub IsLaneEnd : LaneHow → ℕ → ℕ → Past → Past → Type 0
IsLaneEnd how.Ended failed_before failed_now p q = (q.last ≡ Some accepted.Ended) × (q.accept_faults ≡ p.accept_faults)
IsLaneEnd how.AcceptFault failed_before failed_now p q =
    (q.last ≡ Some accepted.Failed) × (q.accept_faults ≡ raised p.accept_faults) × Rose failed_before failed_now
IsLaneEnd how.Halted failed_before failed_now p q = ((at : Address) × (q.last ≡ Some (accepted.Connection at))) × (q.accept_faults ≡ p.accept_faults)

-- how many connections of a lane find the host halted: the one that ends it
abbrev pub halts_of : LaneHow → ℕ
halts_of how.Ended = 0
halts_of how.AcceptFault = 0
halts_of how.Halted = 1
