-- Part of the main theorem.
-- What a lane tells of its pass: all its connections, how they ended, and what is counted of them.
use Rattle.std.specs.Prelude.{◌≡◌, ◌≤◌, ◌+◌, ◌-◌, ◌++◌, ℕ, min, List, [], Option, flat_map, sum_by, count_by}
use Rattle.cd_outside.specs.declared.past.Connection.{Connection}
use Rattle.cd_outside.specs.declared.past.Past.{Past}
use Rattle.cd_outside.specs.Counts.{count_end, Covers}
use Rattle.cd_outside.specs.Telling.{TellsOn}
use Rattle.cd_legal.specs.declared.entry.Signed.{Signed}
use Rattle.cd_legal.specs.Placed.{Placed}
use Rattle.cd_session.specs.declared.lane_end.LaneEnd.{LaneEnd}
pub use Rattle.cd_session.specs.Ends.{IsLaneEnd, halts_of}
pub use Rattle.cd_session.specs.Ways.{is_interrupted, is_faulted, finds_halt}
use Rattle.cd_serve.specs.Meanings.{Meaning}
use Rattle.cd_serve.specs.Connections.{Ending, ServesEach}
use Rattle.cd_serve.specs.Since.{AddsSince}

-- After some entries, pass k made these, those of one connection after those of another, and served the connections, which ended so.
pub record IsTold (m : Meaning) (k : ℕ) (history : List Signed) (before own : List Placed) (cs : List Connection) (es : List Ending) : Type 0 where
  pub whole : own ≡ flat_map (λ e. e.own) es
  pub each : ServesEach m k history before cs es

-- these are all its entries
abbrev pub Told : Meaning → ℕ → List Signed → List Placed → List Connection → List Ending → Type 0
Told m k history own cs es = IsTold m k history [] own cs es

-- ---- what is counted

-- how many connections were interrupted
abbrev pub interrupted_in : List Ending → ℕ
interrupted_in es = count_by (λ e. is_interrupted e.way) es

-- how many of them by a fault, and not for want of memory
abbrev pub faulted_in : List Ending → ℕ
faulted_in es = count_by (λ e. is_faulted e.way) es

-- how many connections found the host halted
abbrev pub halted_in : List Ending → ℕ
halted_in es = count_by (λ e. finds_halt e.way) es

-- how many requests were answered
abbrev pub answered_in : List Ending → ℕ
answered_in es = sum_by (λ e. e.answered) es

-- A lane was served by pass k, which made these entries: what it told before and tells now, how often it had failed and has, and
-- what was counted. Each connection that was interrupted and each accept that failed has its cause, a fault of the lane or the
-- memory that a connection lacked; and a fault of the lane where memory can't be the cause. Where it tells of the time before its
-- connections came, each of them keeps up with that.
pub record LaneSoFar (m : Meaning) (k : ℕ) (history : List Signed) (own : List Placed) (failed_before failed_now answered cut halts : ℕ) (since_before since_now : Option (List ℕ)) (p q : Past) : Type 0 where
  pub connections : List Connection
  pub endings : List Ending
  pub added : q.connections ≡ p.connections ++ connections
  pub told : Told m k history own connections endings
  pub answers : answered ≡ min (answered_in endings) count_end
  pub covered : Covers (interrupted_in endings + (q.accept_faults - p.accept_faults)) failed_before failed_now cut
  pub faulted : Covers (faulted_in endings + (q.accept_faults - p.accept_faults)) failed_before failed_now 0
  pub cut_interrupted : cut ≤ interrupted_in endings
  pub halts_are : halts ≡ halted_in endings
  pub since : TellsOn (AddsSince k connections endings) since_before since_now

-- it was served to its end
pub record IsServed (m : Meaning) (k : ℕ) (history : List Signed) (own : List Placed) (failed_before failed_now : ℕ) (end : LaneEnd) (since_before since_now : Option (List ℕ)) (p q : Past) : Type 0 where
  pub so_far : LaneSoFar m k history own failed_before failed_now end.answered end.cut (halts_of end.how) since_before since_now p q
  pub over : IsLaneEnd end.how failed_before failed_now p q
