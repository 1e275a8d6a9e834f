-- Part of the main theorem.
-- The lanes of a run: what is known of each when all passes have come together.
use Rattle.std.specs.Prelude.{◌≡◌, ◌⊎◌, ◌≤◌, ◌+◌, ◌++◌, ℕ, true, List, [], ◌∷◌, Some, IfSome}
use mathlib.Core.List.{IsPrefix}
use Rattle.cd_outside.specs.declared.accepted.Accepted.TheVariants as accepted
use Rattle.cd_outside.specs.declared.past.Past.{Past}
use Rattle.cd_outside.specs.Counts.{Rose}
use Rattle.cd_outside.specs.Telling.{TellsOn}
use Rattle.cd_legal.specs.declared.entry.Signed.{Signed}
use Rattle.cd_legal.specs.Entry.{mine}
use Rattle.cd_legal.specs.Legal.{state_at}
use Rattle.cd_legal.specs.Placed.{Placed, placed, placed_entries}
use Rattle.cd_gate.specs.Growing.{all_signed}
use Rattle.cd_session.specs.declared.lane_end.LaneHow.TheVariants as how
use Rattle.cd_serve.specs.Meanings.{Meaning}
use Rattle.cd_serve.specs.Lanes.{IsServed}
use Rattle.cd_serve.specs.Reports.{Span, ServedLane}

-- ---- what lanes tell

-- why no more is accepted on a lane: its last accept said that no more comes, or failed, and then a fault of the lane rose
abbrev pub EndsAccepting : ℕ → ℕ → Past → Type 0
EndsAccepting failed_before failed_now past = (past.last ≡ Some accepted.Ended) ⊎ ((past.last ≡ Some accepted.Failed) × Rose failed_before failed_now)

-- a lane that tells its past tells that
abbrev pub IsAtEnd : Span → Type 0
IsAtEnd lane = IfSome lane.told_now (EndsAccepting lane.failed_before lane.failed_now)

-- so each of these lanes
abbrev pub AreAtEnd : List Span → Type 0
AreAtEnd [] = Unit {0}
AreAtEnd (lane ∷ lanes) = IsAtEnd lane × AreAtEnd lanes

-- these lanes tell what they told, have failed as often as they had, and tell the same of the time before their connections came
abbrev pub AreUntouched : List Span → Type 0
AreUntouched [] = Unit {0}
AreUntouched (lane ∷ lanes) = (lane.told_now ≡ lane.told_before) × (lane.failed_now ≡ lane.failed_before) × (lane.since_now ≡ lane.since_before) × AreUntouched lanes

-- ---- lanes that were served

-- Over one history, of which the program had seen `start` before the lanes were served, and `found` after that: pass k has served
-- the lane, had seen the start before, and made these entries and no others; what it has seen then begins what was found.
pub record IsLane (m : Meaning) (start found history : List Signed) (k : ℕ) (s : ServedLane) : Type 0 where
  pub later : s.lane.failed_before ≤ s.lane.failed_now
  pub begun : IsPrefix start s.seen_before
  pub seen : IsPrefix s.seen_before s.seen_now
  pub over : IsPrefix s.seen_now found
  pub own : List Placed
  pub added : placed k s.seen_now ≡ placed k s.seen_before ++ own
  pub only : mine k history ≡ all_signed k (placed_entries own)
  pub served : TellsOn (IsServed m k s.seen_now own s.lane.failed_before s.lane.failed_now s.end s.lane.since_before s.lane.since_now) s.lane.told_before s.lane.told_now
  pub halted : s.end.how ≡ how.Halted → (state_at s.seen_now).halted ≡ true

-- lane after lane, of which the first was served by pass k
abbrev pub LanesFrom : Meaning → List Signed → List Signed → List Signed → ℕ → List ServedLane → Type 0
LanesFrom m start found history k [] = Unit {0}
LanesFrom m start found history k (s ∷ ss) = IsLane m start found history k s × LanesFrom m start found history (k + 1) ss
