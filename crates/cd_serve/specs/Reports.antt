-- Part of the main theorem.
-- What several lanes tell together, over one history.
use Rattle.std.specs.Prelude.{◌≡◌, ◌≤◌, ◌<◌, ◌+◌, ◌-◌, ◌++◌, ℕ, false, min, List, [], ◌∷◌, map, sum_by, Option, Some, None}
use mathlib.Core.List.{IsPrefix}
use Rattle.cd_outside.specs.declared.past.Connection.{Connection}
use Rattle.cd_outside.specs.declared.past.Past.{Past}
use Rattle.cd_outside.specs.Counts.{count_end, Rose, Covers}
use Rattle.cd_outside.specs.Telling.{TellsOn}
use Rattle.cd_legal.specs.declared.entry.Signed.{Signed}
use Rattle.cd_legal.specs.Entry.{mine}
use Rattle.cd_legal.specs.Placed.{Placed, placed}
use Rattle.cd_legal.specs.Fresh.{Fresh}
use Rattle.cd_session.specs.declared.lane_end.LaneEnd.{LaneEnd}
use Rattle.cd_serve.specs.Meanings.{Meaning}
use Rattle.cd_serve.specs.Connections.{Ending}
use Rattle.cd_serve.specs.Since.{AddsSince}
use Rattle.cd_serve.specs.Lanes.{Told, is_interrupted, interrupted_in, faulted_in, answered_in, IsServed}

-- a lane between two moments: what it told and tells now, also of the time before its connections came, and how often it had failed
-- and has
pub record Span : Type 0 where
  pub told_before : Option Past
  pub told_now : Option Past
  pub since_before : Option (List ℕ)
  pub since_now : Option (List ℕ)
  pub failed_before : ℕ
  pub failed_now : ℕ

-- ---- what a lane tells

-- the connections that a lane added, how each ended, and how many of its accepts failed
pub record LaneReport : Type 0 where
  pub connections : List Connection
  pub endings : List Ending
  pub failed : ℕ

-- the report of a lane that pass k served in the history, where the lane tells its past
pub record IsLaneReport (m : Meaning) (history : List Signed) (k : ℕ) (t : LaneReport) (p q : Past) : Type 0 where
  pub added : q.connections ≡ p.connections ++ t.connections
  pub told : Told m k history (placed k history) t.connections t.endings
  pub fresh : Fresh (placed k history)
  pub failed : t.failed ≡ q.accept_faults - p.accept_faults

-- a lane that tells its past has a report, and another one has none; where it also tells of the time before, its connections keep up
abbrev pub ReportOf : Meaning → List Signed → ℕ → Span → Option LaneReport → Type 0
ReportOf m history k lane (Some t) = (p : Past) × (q : Past) × (lane.told_before ≡ Some p) × (lane.told_now ≡ Some q) × IsLaneReport m history k t p q
    × TellsOn (AddsSince k t.connections t.endings) lane.since_before lane.since_now
ReportOf m history k lane None = (lane.told_before ≡ None) × (lane.told_now ≡ None)

-- lane after lane, of which the first was served by pass k, the next by pass k + 1, and so on
abbrev pub ReportsFrom : Meaning → List Signed → ℕ → List Span → List (Option LaneReport) → Type 0
ReportsFrom m history k [] [] = Unit {0}
ReportsFrom m history k (lane ∷ lanes) (t ∷ ts) = ReportOf m history k lane t × ReportsFrom m history (k + 1) lanes ts
ReportsFrom m history k [] (t ∷ ts) = ⊥
ReportsFrom m history k (lane ∷ lanes) [] = ⊥

-- ---- what is counted

-- a count over a report, 0 where a lane has none
abbrev pub of_report : (LaneReport → ℕ) → Option LaneReport → ℕ
of_report f None = 0
of_report f (Some t) = f t

-- its connections that were interrupted, and its accepts that failed
abbrev pub interruptions : LaneReport → ℕ
interruptions t = interrupted_in t.endings + t.failed

-- those that a fault alone can have caused
abbrev pub faults : LaneReport → ℕ
faults t = faulted_in t.endings + t.failed

-- a count over all reports
abbrev pub all_of : (LaneReport → ℕ) → List (Option LaneReport) → ℕ
all_of f ts = sum_by (of_report f) ts

-- each lane has a report
abbrev pub AllTell : List (Option LaneReport) → Type 0
AllTell [] = Unit {0}
AllTell (None ∷ ts) = ⊥
AllTell (Some t ∷ ts) = AllTell ts

-- a count over those lanes that have a report
abbrev pub of_those : (Span → ℕ) → List Span → List (Option LaneReport) → ℕ
of_those f [] ts = 0
of_those f (lane ∷ lanes) [] = 0
of_those f (lane ∷ lanes) (None ∷ ts) = of_those f lanes ts
of_those f (lane ∷ lanes) (Some t ∷ ts) = f lane + of_those f lanes ts

-- the interruptions of each lane are no more than the rises of its own faults and the connections that lacked memory
abbrev pub EachCovered : List Span → List (Option LaneReport) → ℕ → Type 0
EachCovered [] ts cut = Unit {0}
EachCovered (lane ∷ lanes) [] cut = Unit {0}
EachCovered (lane ∷ lanes) (t ∷ ts) cut = Covers (of_report interruptions t) lane.failed_before lane.failed_now cut × EachCovered lanes ts cut

-- and those that a fault alone can have caused are no more than the rises of its faults
abbrev pub EachFaulted : List Span → List (Option LaneReport) → Type 0
EachFaulted [] ts = Unit {0}
EachFaulted (lane ∷ lanes) [] = Unit {0}
EachFaulted (lane ∷ lanes) (t ∷ ts) = Covers (of_report faults t) lane.failed_before lane.failed_now 0 × EachFaulted lanes ts

-- the count of faults of no lane that tells stands at its end
abbrev pub NoneAtEnd : List Span → List (Option LaneReport) → Type 0
NoneAtEnd [] ts = Unit {0}
NoneAtEnd (lane ∷ lanes) [] = Unit {0}
NoneAtEnd (lane ∷ lanes) (None ∷ ts) = NoneAtEnd lanes ts
NoneAtEnd (lane ∷ lanes) (Some t ∷ ts) = (lane.failed_now < count_end) × NoneAtEnd lanes ts

-- so the interruptions of all lanes that tell, together, unless a count stands at its end
abbrev pub AllCovered : List Span → List (Option LaneReport) → ℕ → Type 0
AllCovered lanes ts cut = NoneAtEnd lanes ts → cut < count_end
    → all_of interruptions ts + of_those (λ lane. lane.failed_before) lanes ts ≤ of_those (λ lane. lane.failed_now) lanes ts + cut

-- no fault of these lanes has risen
abbrev pub NoneRose : List Span → Type 0
NoneRose [] = Unit {0}
NoneRose (lane ∷ lanes) = ¬ (Rose lane.failed_before lane.failed_now) × NoneRose lanes

-- each of these connections went on to its own end
abbrev pub AreUninterrupted : List Ending → Type 0
AreUninterrupted [] = Unit {0}
AreUninterrupted (e ∷ es) = (is_interrupted e.way ≡ false) × AreUninterrupted es

-- so each connection that the lanes tell of, and none of their accepts failed
abbrev pub NoneInterrupted : List (Option LaneReport) → Type 0
NoneInterrupted [] = Unit {0}
NoneInterrupted (None ∷ ts) = NoneInterrupted ts
NoneInterrupted (Some t ∷ ts) = AreUninterrupted t.endings × (t.failed ≡ 0) × NoneInterrupted ts

-- What these lanes tell of the history, where so many requests were answered and so many connections lacked memory. The first
-- lane was served by pass 1.
pub record LanesTold (m : Meaning) (history : List Signed) (lanes : List Span) (answered cut : ℕ) : Type 0 where
  pub reports : List (Option LaneReport)
  pub told : ReportsFrom m history 1 lanes reports
  pub covered : EachCovered lanes reports cut
  pub faulted : EachFaulted lanes reports
  pub all_covered : AllCovered lanes reports cut
  pub cut_interrupted : AllTell reports → cut ≤ all_of (λ t. interrupted_in t.endings) reports
  pub answers : AllTell reports → answered ≡ min (all_of (λ t. answered_in t.endings) reports) count_end

-- ---- lanes that were served

-- a lane that was served to its end, and what its pass had seen and has seen
pub record ServedLane : Type 0 where
  pub lane : Span
  pub seen_before : List Signed
  pub seen_now : List Signed
  pub end : LaneEnd

-- pass k served it, made no entry before that, and makes none after
pub record IsServedLane (m : Meaning) (history : List Signed) (k : ℕ) (s : ServedLane) : Type 0 where
  pub later : s.lane.failed_before ≤ s.lane.failed_now
  pub unused : mine k s.seen_before ≡ []
  pub seen : IsPrefix s.seen_now history
  pub all_seen : mine k history ≡ mine k s.seen_now
  pub own : List Placed
  pub added : placed k s.seen_now ≡ placed k s.seen_before ++ own
  pub served : TellsOn (IsServed m k s.seen_now own s.lane.failed_before s.lane.failed_now s.end s.lane.since_before s.lane.since_now) s.lane.told_before s.lane.told_now

-- slot after slot, of which the first was served by pass k
abbrev pub ServedLanesFrom : Meaning → List Signed → ℕ → List ServedLane → Type 0
ServedLanesFrom m history k [] = Unit {0}
ServedLanesFrom m history k (s ∷ ss) = IsServedLane m history k s × ServedLanesFrom m history (k + 1) ss

abbrev pub lanes_of : List ServedLane → List Span
lanes_of ss = map (λ s. s.lane) ss
