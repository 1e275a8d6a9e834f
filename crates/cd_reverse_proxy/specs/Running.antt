-- How a run goes on after its address was opened: for the clauses of private functions.
use Rattle.std.specs.Prelude.{◌≡◌, ◌⊎◌, ◌++◌, ℕ, List, [], ◌∷◌, Option, Some, None}
use Rattle.cd_outside.specs.declared.address.Address.{Address}
use Rattle.cd_outside.specs.declared.fixtures.FixtureCall.{FixtureCall}
use Rattle.cd_outside.specs.declared.fixtures.FixtureCall.TheVariants as call
use Rattle.cd_outside.specs.declared.key.Key.{Key}
use Rattle.cd_outside.specs.Devices.{Device, HasFailed, IsSilent}
use Rattle.cd_outside.specs.Lines.{WasGiven, WasCutShort}
use Rattle.cd_session.specs.declared.counting.Counts.{Counts}
use Rattle.cd_reverse_proxy.specs.declared.status.Status.{Status}
use Rattle.cd_reverse_proxy.specs.declared.status.Status.TheVariants as status
use Rattle.cd_reverse_proxy.specs.Top.{code_of, serving_line, served_line}
use Rattle.cd_reverse_proxy.specs.Workers.{AreRelayed, Worker, WorkersTold}

-- the calls after the opening
abbrev pub closing_calls : Key → List FixtureCall
closing_calls key = call.Closed key ∷ call.Shut ∷ []

-- ---- the lanes

-- They were served after the first line was written, and this was counted; or the line was not written, and they were left.
abbrev pub HasBegun : List Address → List Worker → Type 0 → Device (List ℕ) → Option Counts → Type 0
HasBegun upstreams ws Left output None = Left × HasFailed output × WasCutShort [] serving_line output
HasBegun upstreams ws Left output (Some counts) = AreRelayed upstreams ws counts.answered counts.cut × WasGiven serving_line output

abbrev pub answered_of : Option Counts → ℕ
answered_of None = 0
answered_of (Some counts) = counts.answered

abbrev pub cut_of : Option Counts → ℕ
cut_of None = 0
cut_of (Some counts) = counts.cut

-- ---- the last line

-- that of a run in which lanes were served
abbrev pub IsLast : ℕ → Device (List ℕ) → Status → Type 0
IsLast answered output status.Done = WasGiven (served_line answered) output
IsLast answered output status.WriteFault = HasFailed output × WasCutShort [] (served_line answered) output
IsLast answered output status.NoMemory = IsSilent output
IsLast answered output status.Unopened = ⊥
IsLast answered output status.Usage = ⊥

-- a run in which none was ends as one whose line could not be written
abbrev pub Concludes : Option Counts → Device (List ℕ) → Status → Type 0
Concludes None output status.WriteFault = IsSilent output
Concludes None output status.Done = ⊥
Concludes None output status.NoMemory = ⊥
Concludes None output status.Unopened = ⊥
Concludes None output status.Usage = ⊥
Concludes (Some counts) output st = IsLast counts.answered output st

-- ---- both

-- how a run went, by its status, over the output from before its first line
abbrev pub HasRun : List Address → List Worker → Type 0 → ℕ → ℕ → Device (List ℕ) → Status → Type 0
HasRun upstreams ws Left answered cut output status.Done = WorkersTold upstreams ws answered cut × WasGiven (serving_line ++ served_line answered) output
HasRun upstreams ws Left answered cut output status.WriteFault =
    HasFailed output
    × ((Left × (answered ≡ 0) × (cut ≡ 0) × WasCutShort [] serving_line output)
    ⊎ (WorkersTold upstreams ws answered cut × WasCutShort serving_line (served_line answered) output))
HasRun upstreams ws Left answered cut output status.NoMemory = WorkersTold upstreams ws answered cut × WasGiven serving_line output
HasRun upstreams ws Left answered cut output status.Unopened = ⊥
HasRun upstreams ws Left answered cut output status.Usage = ⊥

-- it ends with the exit status of a row of that table
pub record RunsTo (upstreams : List Address) (ws : List Worker) (Left : Type 0) (answered cut : ℕ) (output : Device (List ℕ)) (code : ℕ) : Type 0 where
  pub status : Status
  pub is : code ≡ code_of status
  pub so : HasRun upstreams ws Left answered cut output status
