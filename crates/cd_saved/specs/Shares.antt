-- Lanes that save on one disk: the faults of each are its own and those that its saves met there.
use Rattle.std.specs.Prelude.{ℕ, ◌+◌, List, [], ◌∷◌}
use Rattle.cd_serve.specs.Reports.{Span}
use Rattle.cd_program.specs.Seen.{Seen}

-- lanes with the faults that the saves of each have met
abbrev pub with_shares : List Span → List ℕ → List Span
with_shares [] shares = []
with_shares (lane ∷ lanes) [] = lane ∷ lanes
with_shares (lane ∷ lanes) (met ∷ shares) =
    record { told_before = lane.told_before; told_now = lane.told_now; since_before = lane.since_before; since_now = lane.since_now; failed_before = lane.failed_before; failed_now = lane.failed_now + met }
    ∷ with_shares lanes shares

-- what is seen of a call, with these faults
abbrev pub shared : {F L : Type 0} → Seen F L → List ℕ → Seen F L
shared s shares = record {
  source = s.source;
  output = s.output;
  calls = s.calls;
  lanes = with_shares s.lanes shares;
  fixtures_before = s.fixtures_before;
  fixtures_now = s.fixtures_now;
  lanes_before = s.lanes_before;
  lanes_now = s.lanes_now;
  answered = s.answered;
  published = s.published;
  cut = s.cut;
}
