-- Part of the main theorem.
-- What is known of lanes that were served side by side, each by a pass of its own.
use Rattle.std.specs.Prelude.{◌≡◌, ◌≤◌, ◌++◌, ℕ, min, Bool, true, false, List, [], ◌∷◌, length, sum_by, Option}
use mathlib.Core.List.{IsPrefix}
use Rattle.cd_outside.specs.declared.past.Past.{Past}
use Rattle.cd_outside.specs.Counts.{count_end}
use Rattle.cd_outside.specs.Telling.{TellsOn}
use Rattle.cd_legal.specs.declared.entry.Signed.{Signed}
use Rattle.cd_legal.specs.Entry.{mine}
use Rattle.cd_legal.specs.Legal.{state_at}
use Rattle.cd_legal.specs.Placed.{Placed, placed, placed_entries}
use Rattle.cd_gate.specs.declared.pass.Pass.{Pass}
use Rattle.cd_gate.specs.Ends.{IsFree}
use Rattle.cd_gate.specs.Growing.{all_signed}
use Rattle.cd_gate.specs.Passes.{view}
use Rattle.cd_hall.specs.declared.hall.Hall.{Hall}
use Rattle.cd_hall.specs.Calls.{IsPassOf}
use Rattle.cd_session.specs.declared.lane_end.LaneHow.TheVariants as how
use Rattle.cd_serve.specs.Meanings.{Meaning}
use Rattle.cd_serve.specs.Lanes.{IsServed}
use Rattle.cd_serve.specs.Reports.{Span, ServedLane as Served, lanes_of}
use Rattle.cd_host.specs.declared.slot.Slot.{Slot}
use Rattle.cd_host.specs.ServedLanes.{LanesFrom}
use Rattle.cd_host.specs.Seats.{AllFrom}

-- ---- lanes between two moments

module _ {L : Type 0} (faults : L → ℕ) (past : L → Option Past) (since : L → Option (List ℕ)) where
  -- one that was this and is that now
  abbrev pub span_of : L → L → Span
  span_of old new = record { told_before = past old; told_now = past new; since_before = since old; since_now = since new; failed_before = faults old; failed_now = faults new }

  abbrev pub spans : List L → List L → List Span
  spans [] news = []
  spans (old ∷ olds) [] = []
  spans (old ∷ olds) (new ∷ news) = span_of old new ∷ spans olds news

-- ---- a slot that was served

module _ {A F B : Type 0} {g : _} (h : Hall A F B g) {L : Type 0} (m : Meaning) (busy : L → Bool) (faults : L → ℕ) (past : L → Option Past) (since : L → Option (List ℕ)) where
  -- its pass has served its lane to the end, made these entries for that, and owes nothing
  pub record IsServedSlot (s t : Slot A F L B g) : Type 0 where
    pub is : IsPassOf h t.pass
    pub number : (view t.pass).number ≡ (view s.pass).number
    pub free : IsFree t.pass
    pub idle : busy t.lane ≡ false
    pub later : faults s.lane ≤ faults t.lane
    pub seen : IsPrefix (view s.pass).seen (view t.pass).seen
    pub own : List Placed
    pub added : placed (view s.pass).number (view t.pass).seen ≡ placed (view s.pass).number (view s.pass).seen ++ own
    pub adds : (view t.pass).mine ≡ (view s.pass).mine ++ all_signed (view s.pass).number (placed_entries own)
    pub served : TellsOn (IsServed m (view s.pass).number (view t.pass).seen own (faults s.lane) (faults t.lane) t.end (since s.lane) (since t.lane)) (past s.lane) (past t.lane)
    pub halted : t.end.how ≡ how.Halted → (state_at (view t.pass).seen).halted ≡ true

-- ---- lanes that were served

-- each of these passes has made all that it has made in this history
abbrev pub HaveTheirs : {T : Type 0} → List Signed → List (Pass T) → Type 0
HaveTheirs log passes = AllFrom (λ k p. mine k log ≡ (view p).mine) 1 passes

-- The lanes were served, each by its pass, after the program had seen `start`; then the program has found `found`. In each history
-- in which the passes have made all that they have made, the lanes tell their parts.
pub record AreServed {T : Type 0} (m : Meaning) (start found : List Signed) (lanes : List Span) (passes : List (Pass T)) (answered cut : ℕ) : Type 0 where
  pub slots : List Served
  pub are : lanes_of slots ≡ lanes
  pub count : length slots ≡ length passes
  pub answers : answered ≡ min (sum_by (λ s. s.end.answered) slots) count_end
  pub cuts : cut ≡ min (sum_by (λ s. s.end.cut) slots) count_end
  pub each : (log : List Signed) → HaveTheirs log passes → LanesFrom m start found log 1 slots
