-- Part of the main theorem.
-- What is seen of a call of the program from outside: each part of the outside as it was before the call and as it is now.
use Rattle.std.specs.Prelude.{◌≡◌, ℕ, List, Option}
use Rattle.cd_outside.specs.declared.fixtures.FixtureCall.{FixtureCall}
use Rattle.cd_outside.specs.declared.past.Past.{Past}
use Rattle.cd_outside.specs.Devices.{Device, device}
use Rattle.cd_legal.specs.State.{Conf}
use Rattle.cd_serve.specs.Reports.{Span}
use Rattle.cd_host.specs.Runs.{Observed}
use Rattle.cd_host.specs.Seated.{spans}
use Rattle.cd_program.specs.declared.ended.Ended.{Ended}

-- The source tells what it has left, the output what it was given, the fixtures what they were asked for, and each lane its
-- connections, and which serial each of them came with. The fixtures and the lanes stand here themselves too, as they were handed in and as they came back. Last is what was
-- counted.
pub record Seen (F L : Type 0) : Type 0 where
  pub source : Device (List ℕ)
  pub output : Device (List ℕ)
  pub calls : Device (List FixtureCall)
  pub lanes : List Span
  pub fixtures_before : F
  pub fixtures_now : F
  pub lanes_before : List L
  pub lanes_now : List L
  pub answered : ℕ
  pub published : ℕ
  pub cut : ℕ

-- ---- what came back

module _ {F L : Type 0} (s : Seen F L) where
  -- the fixtures and the lanes came back as they were, and no connection was interrupted
  pub record IsBack : Type 0 where
    pub fixtures : s.fixtures_now ≡ s.fixtures_before
    pub lanes : s.lanes_now ≡ s.lanes_before
    pub uncut : s.cut ≡ 0

  -- no lane was served
  pub record IsUnserved : Type 0 where
    pub lanes : s.lanes_now ≡ s.lanes_before
    pub unanswered : s.answered ≡ 0
    pub uncut : s.cut ≡ 0

  -- no run was begun
  pub record IsUntouched : Type 0 where
    pub unserved : IsUnserved
    pub fixtures : s.fixtures_now ≡ s.fixtures_before
    pub unpublished : s.published ≡ 0

  -- what is seen of a run, where this configuration was published last
  abbrev pub observed_in : Option Conf → Observed
  observed_in last = record {
    calls_before = s.calls.told_before;
    calls_now = s.calls.told_now;
    failed_before = s.calls.failed_before;
    failed_now = s.calls.failed_now;
    lanes = s.lanes;
    answered = s.answered;
    published = s.published;
    cut = s.cut;
    last = last;
  }

-- ---- what is seen of a call

-- what is seen of a call that was handed a source, an output, fixtures and lanes, and ended so
module _ {S O F L : Type 0} (left : S → Option (List ℕ)) (source_faults : S → ℕ) (holds : O → Option (List ℕ)) (sink_faults : O → ℕ)
    (calls : F → Option (List FixtureCall)) (fixture_faults : F → ℕ) (past : L → Option Past) (since : L → Option (List ℕ)) (lane_faults : L → ℕ) where
  abbrev pub seen : S → S → O → O → F → List L → Ended F L → Seen F L
  seen source source_now out out_now fixtures lanes e = record {
    source = device left source_faults source source_now;
    output = device holds sink_faults out out_now;
    calls = device calls fixture_faults fixtures e.fixtures;
    lanes = spans lane_faults past since lanes e.lanes;
    fixtures_before = fixtures;
    fixtures_now = e.fixtures;
    lanes_before = lanes;
    lanes_now = e.lanes;
    answered = e.answered;
    published = e.published;
    cut = e.cut;
  }
