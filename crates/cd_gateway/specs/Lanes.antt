-- What a lane and its peers tell together of the connections that a worker relayed.
use Rattle.std.specs.Prelude.{◌≡◌, ◌≤◌, ◌+◌, ◌-◌, ◌++◌, ℕ, min, List, flat_map, sum_by, count_by, Option, option_map}
use Rattle.cd_outside.specs.declared.address.Address.{Address}
use Rattle.cd_outside.specs.declared.past.Connection.{Connection}
use Rattle.cd_outside.specs.declared.past.Past.{Past}
use Rattle.cd_outside.specs.Counts.{count_end, Covers}
use Rattle.cd_session.specs.declared.lane_end.LaneEnd.{LaneEnd}
use Rattle.cd_session.specs.Ends.{IsLaneEnd}
use Rattle.cd_session.specs.Ways.{is_interrupted, is_faulted}
use Rattle.cd_peers.specs.declared.dialled.Dialled.{Dialled}
use Rattle.cd_gateway.specs.Connections.{Ending, RelaysEach, answered_of, exchanges_of, failed_of}

-- ---- what is counted

-- the exchanges of all these connections, in their order
abbrev pub exchanges_in : List Ending → List Dialled
exchanges_in es = flat_map (λ e. exchanges_of e.replies) es

-- how many requests were answered
abbrev pub answered_in : List Ending → ℕ
answered_in es = sum_by (λ e. answered_of e.replies) es

-- in how many a call on the peers failed
abbrev pub failed_in : List Ending → ℕ
failed_in es = sum_by (λ e. failed_of e.replies) es

-- how many connections were interrupted
abbrev pub interrupted_in : List Ending → ℕ
interrupted_in es = count_by (λ e. is_interrupted e.way) es

-- how many of them by a fault, and not for want of memory
abbrev pub faulted_in : List Ending → ℕ
faulted_in es = count_by (λ e. is_faulted e.way) es

-- how often a lane and its peers have failed
pub record Counted : Type 0 where
  pub lane : ℕ
  pub peers : ℕ

abbrev pub counted : ℕ → ℕ → Counted
counted lane peers = record { lane = lane; peers = peers }

-- ---- a lane and its peers

-- A worker relayed the connections of a lane. Given are how often the lane and its peers had failed and have, what was counted, what
-- the peers told before and tell now, where they tell it, and the same of the lane. The exchanges are those of the requests, in
-- their order. Each request in which a call on the peers failed, each connection that was interrupted and each accept that failed
-- has its cause: a fault, or the memory that a connection lacked; and a fault of the lane where memory can't be the cause.
pub record Relayed (upstreams : List Address) (before now : Counted) (answered cut : ℕ) (told_before told_now : Option (List Dialled)) (p q : Past) : Type 0 where
  pub connections : List Connection
  pub endings : List Ending
  pub added : q.connections ≡ p.connections ++ connections
  pub each : RelaysEach upstreams connections endings
  pub exchanges : told_now ≡ option_map (λ past. past ++ exchanges_in endings) told_before
  pub answers : answered ≡ min (answered_in endings) count_end
  pub failures : Covers (failed_in endings) before.peers now.peers 0
  pub covered : Covers (interrupted_in endings + (q.accept_faults - p.accept_faults)) before.lane now.lane cut
  pub faulted : Covers (faulted_in endings + (q.accept_faults - p.accept_faults)) before.lane now.lane 0
  pub cut_interrupted : cut ≤ interrupted_in endings

-- so to the end of the lane, whose last accept says that no more comes or fails
pub record IsRelayed (upstreams : List Address) (before now : Counted) (end : LaneEnd) (told_before told_now : Option (List Dialled)) (p q : Past) : Type 0 where
  pub relayed : Relayed upstreams before now end.answered end.cut told_before told_now p q
  pub over : IsLaneEnd end.how before.lane now.lane p q
