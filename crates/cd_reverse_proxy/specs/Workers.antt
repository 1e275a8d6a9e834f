-- What the lanes and their peers tell together of what was relayed. A worker is a lane with the peers by which its requests are relayed.
use Rattle.std.specs.Prelude.{◌≡◌, ◌≤◌, ◌<◌, ◌+◌, ◌-◌, ◌++◌, ◌⊎◌, ℕ, min, List, [], ◌∷◌, sum_by, Option, Some, None, option_map}
use Rattle.cd_outside.specs.declared.accepted.Accepted.TheVariants as accepted
use Rattle.cd_outside.specs.declared.address.Address.{Address}
use Rattle.cd_outside.specs.declared.past.Connection.{Connection}
use Rattle.cd_outside.specs.declared.past.Past.{Past}
use Rattle.cd_outside.specs.Counts.{count_end, Rose, Covers}
use Rattle.cd_outside.specs.Telling.{TellsOn}
use Rattle.cd_outside.specs.Devices.{Device, IsUnfailed, device}
use Rattle.cd_session.specs.declared.lane_end.LaneEnd.{LaneEnd}
use Rattle.cd_session.specs.declared.lane_end.LaneHow.TheVariants as how
use Rattle.cd_peers.specs.declared.dialled.Dialled.{Dialled}
use Rattle.cd_gateway.specs.Connections.{Ending, RelaysEach}
use Rattle.cd_gateway.specs.Lanes.{IsRelayed, answered_in, counted, exchanges_in, failed_in, faulted_in, interrupted_in}

-- ---- workers between two moments

pub record Worker : Type 0 where
  pub lane : Device Past
  pub peers : Device (List Dialled)

abbrev pub workers_of : List (Device Past) → List (Device (List Dialled)) → List Worker
workers_of [] peers = []
workers_of (lane ∷ lanes) [] = []
workers_of (lane ∷ lanes) (peer ∷ peers) = record { lane = lane; peers = peer } ∷ workers_of lanes peers

abbrev pub devices : {A T : Type 0} → (A → Option T) → (A → ℕ) → List A → List A → List (Device T)
devices told failed [] news = []
devices told failed (old ∷ olds) [] = []
devices told failed (old ∷ olds) (new ∷ news) = device told failed old new ∷ devices told failed olds news

-- lanes and peers that were these and are those
module _ {L P : Type 0} (past : L → Option Past) (faults : L → ℕ) (told : P → Option (List Dialled)) (failed : P → ℕ) where
  abbrev pub workers : List L → List L → List P → List P → List Worker
  workers lanes lanes_now peers peers_now = workers_of (devices past faults lanes lanes_now) (devices told failed peers peers_now)

-- ---- what a worker tells

-- the connections that its lane added, how each ended, and how many of its accepts failed
pub record Report : Type 0 where
  pub connections : List Connection
  pub endings : List Ending
  pub failed : ℕ

-- why no more is accepted on a lane: its last accept said that no more comes, or failed, and then a fault of the lane rose
abbrev pub EndsAccepting : Device Past → Past → Type 0
EndsAccepting lane past = (past.last ≡ Some accepted.Ended) ⊎ ((past.last ≡ Some accepted.Failed) × Rose lane.failed_before lane.failed_now)

-- The report of a worker whose lane tells its past. Each connection was relayed, and ended in its way. Where the peers tell their
-- exchanges, those are the ones of the requests, in their order; and in no more requests than faults of the peers rose has a call on
-- them failed.
pub record IsReport (upstreams : List Address) (w : Worker) (t : Report) (p q : Past) : Type 0 where
  pub added : q.connections ≡ p.connections ++ t.connections
  pub each : RelaysEach upstreams t.connections t.endings
  pub exchanges : w.peers.told_now ≡ option_map (λ past. past ++ exchanges_in t.endings) w.peers.told_before
  pub failures : Covers (failed_in t.endings) w.peers.failed_before w.peers.failed_now 0
  pub failed : t.failed ≡ q.accept_faults - p.accept_faults
  pub over : EndsAccepting w.lane q

-- a worker whose lane tells its past has a report, and another one has none
abbrev pub ReportOf : List Address → Worker → Option Report → Type 0
ReportOf upstreams w (Some t) = (p : Past) × (q : Past) × (w.lane.told_before ≡ Some p) × (w.lane.told_now ≡ Some q) × IsReport upstreams w t p q
ReportOf upstreams w None = (w.lane.told_before ≡ None) × (w.lane.told_now ≡ None)

-- worker after worker
abbrev pub AreReports : List Address → List Worker → List (Option Report) → Type 0
AreReports upstreams [] [] = Unit {0}
AreReports upstreams (w ∷ ws) (t ∷ ts) = ReportOf upstreams w t × AreReports upstreams ws ts
AreReports upstreams [] (t ∷ ts) = ⊥
AreReports upstreams (w ∷ ws) [] = ⊥

-- ---- what is counted

-- its connections that were interrupted, and its accepts that failed
abbrev pub interruptions : Report → ℕ
interruptions t = interrupted_in t.endings + t.failed

-- those that a fault alone can have caused
abbrev pub faults : Report → ℕ
faults t = faulted_in t.endings + t.failed

-- a sum over those workers that have a report
abbrev pub over_all : (Worker → Report → ℕ) → List Worker → List (Option Report) → ℕ
over_all f [] ts = 0
over_all f (w ∷ ws) [] = 0
over_all f (w ∷ ws) (None ∷ ts) = over_all f ws ts
over_all f (w ∷ ws) (Some t ∷ ts) = f w t + over_all f ws ts

-- this is so of each of them
abbrev pub AllOfThose : (Worker → Report → Type 0) → List Worker → List (Option Report) → Type 0
AllOfThose P [] ts = Unit {0}
AllOfThose P (w ∷ ws) [] = Unit {0}
AllOfThose P (w ∷ ws) (None ∷ ts) = AllOfThose P ws ts
AllOfThose P (w ∷ ws) (Some t ∷ ts) = P w t × AllOfThose P ws ts

-- each worker has a report
abbrev pub AllTell : List (Option Report) → Type 0
AllTell [] = Unit {0}
AllTell (None ∷ ts) = ⊥
AllTell (Some t ∷ ts) = AllTell ts

-- the interruptions of all of them, together, are no more than the rises of the faults of their lanes and the connections that lacked
-- memory, unless a count stands at its end
abbrev pub AllCovered : List Worker → List (Option Report) → ℕ → Type 0
AllCovered ws ts cut = AllOfThose (λ w t. w.lane.failed_now < count_end) ws ts → cut < count_end
    → over_all (λ w t. interruptions t) ws ts + over_all (λ w t. w.lane.failed_before) ws ts ≤ over_all (λ w t. w.lane.failed_now) ws ts + cut

-- What these workers tell, where so many requests were answered and so many connections lacked memory.
pub record WorkersTold (upstreams : List Address) (ws : List Worker) (answered cut : ℕ) : Type 0 where
  pub reports : List (Option Report)
  pub told : AreReports upstreams ws reports
  pub covered : AllOfThose (λ w t. Covers (interruptions t) w.lane.failed_before w.lane.failed_now cut) ws reports
  pub faulted : AllOfThose (λ w t. Covers (faults t) w.lane.failed_before w.lane.failed_now 0) ws reports
  pub all_covered : AllCovered ws reports cut
  pub cut_interrupted : AllTell reports → cut ≤ over_all (λ w t. interrupted_in t.endings) ws reports
  pub answers : AllTell reports → answered ≡ min (over_all (λ w t. answered_in t.endings) ws reports) count_end

-- no fault of these lanes has risen
abbrev pub NoneRose : List Worker → Type 0
NoneRose [] = Unit {0}
NoneRose (w ∷ ws) = IsUnfailed w.lane × NoneRose ws

-- of the connections that they tell of none was interrupted, and no accept failed
abbrev pub NoneInterrupted : List Worker → List (Option Report) → Type 0
NoneInterrupted ws ts = AllOfThose (λ w t. (interrupted_in t.endings ≡ 0) × (t.failed ≡ 0)) ws ts

-- ---- workers that were served

-- the lane was relayed to its end by its peers
pub record IsRelayedWorker (upstreams : List Address) (w : Worker) (end : LaneEnd) : Type 0 where
  pub later : w.lane.failed_before ≤ w.lane.failed_now
  pub relayed : TellsOn (IsRelayed upstreams (counted w.lane.failed_before w.peers.failed_before) (counted w.lane.failed_now w.peers.failed_now) end w.peers.told_before w.peers.told_now) w.lane.told_before w.lane.told_now
  pub running : ¬ (end.how ≡ how.Halted)

abbrev pub RelayedEach : List Address → List Worker → List LaneEnd → Type 0
RelayedEach upstreams [] [] = Unit {0}
RelayedEach upstreams (w ∷ ws) (e ∷ es) = IsRelayedWorker upstreams w e × RelayedEach upstreams ws es
RelayedEach upstreams [] (e ∷ es) = ⊥
RelayedEach upstreams (w ∷ ws) [] = ⊥

-- so each of these, and this was counted of all
pub record AreRelayed (upstreams : List Address) (ws : List Worker) (answered cut : ℕ) : Type 0 where
  pub ends : List LaneEnd
  pub each : RelayedEach upstreams ws ends
  pub answers : answered ≡ min (sum_by (λ e. e.answered) ends) count_end
  pub cuts : cut ≡ min (sum_by (λ e. e.cut) ends) count_end
