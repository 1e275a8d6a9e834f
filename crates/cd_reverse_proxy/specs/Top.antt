-- How the command ended, and why: a table by status.
use Rattle.std.specs.Prelude.{◌≡◌, ◌⊎◌, ◌++◌, ℕ, List, [], ◌∷◌, codes, decimal, Result, Ok, Err}
use Rattle.cd_outside.specs.declared.address.Address.{Address}
use Rattle.cd_outside.specs.declared.fixtures.FixtureCall.{FixtureCall}
use Rattle.cd_outside.specs.declared.fixtures.FixtureCall.TheVariants as call
use Rattle.cd_outside.specs.declared.key.Key.TheVariants as key
use Rattle.cd_outside.specs.FixtureCall.{CallsGrow}
use Rattle.cd_addr.specs.Addresses.{written}
use Rattle.cd_outside.specs.Devices.{HasFailed, IsSilent, IsUnfailed}
use Rattle.cd_outside.specs.Lines.{WasGiven, WasCutShort, Says, refused_line, usage_line}
use Rattle.cd_reverse_proxy.specs.declared.settings.ProxySettings.{ProxySettings}
use Rattle.cd_reverse_proxy.specs.declared.settings.WordsFault.{WordsFault}
use Rattle.cd_reverse_proxy.specs.declared.status.Status.{Status}
use Rattle.cd_reverse_proxy.specs.declared.status.Status.TheVariants as status
use Rattle.cd_reverse_proxy.specs.Seen.{Seen, IsUnserved, IsUntouched}
use Rattle.cd_reverse_proxy.specs.Workers.{NoneInterrupted, NoneRose, WorkersTold}

-- the exit status of the program
abbrev pub code_of : Status → ℕ
code_of status.Done = 0
code_of status.Unopened = 1
code_of status.Usage = 2
code_of status.WriteFault = 4
code_of status.NoMemory = 5

-- the exit status is that of a row of a table, and what the row says is so
pub record ExitsWith (code : ℕ) (IsSo : Status → Type 0) : Type 0 where
  pub status : Status
  pub is : code ≡ code_of status
  pub so : IsSo status

-- ---- the lines

abbrev pub serving_line : List ℕ
serving_line = codes "serving proxy\n"

-- so many requests were answered
unfoldable pub served_line : ℕ → List ℕ
served_line answered = codes "served " ++ decimal answered ++ codes " requests\n"

-- the line for an address that can't be opened
abbrev pub unopened_line : Address → List ℕ
unopened_line address = refused_line (codes "cannot open listen " ++ written address)

-- ---- what the fixtures were asked for

-- the address was opened and closed again, and then the lanes were told that no more comes
abbrev pub run_calls : Address → List FixtureCall
run_calls from = call.Opened (key.Listen from) ∷ call.Closed (key.Listen from) ∷ call.Shut ∷ []

-- it was not opened
abbrev pub refused_calls : Address → List FixtureCall
refused_calls from = call.NotOpened (key.Listen from) ∷ []

module _ (p : ProxySettings) {F L P : Type 0} (s : Seen F L P) where
  -- all lanes were served to their ends, after the first line was written
  pub record HasServed : Type 0 where
    pub calls : CallsGrow s.calls.told_before (run_calls p.from) s.calls.told_now
    pub told : WorkersTold p.upstreams s.workers s.answered s.cut

  -- they were left
  pub record HasLeft : Type 0 where
    pub calls : CallsGrow s.calls.told_before (run_calls p.from) s.calls.told_now
    pub unserved : IsUnserved s

  -- the address could not be opened, since the fixtures failed in that, and the line says so
  pub record HasRefused : Type 0 where
    pub calls : CallsGrow s.calls.told_before (refused_calls p.from) s.calls.told_now
    pub cause : HasFailed s.calls
    pub says : Says (unopened_line p.from) s.output
    pub unserved : IsUnserved s

  -- ---- the table of words that give settings
  abbrev pub Proxies : Status → Type 0
  Proxies status.Done = HasServed × WasGiven (serving_line ++ served_line s.answered) s.output
  Proxies status.Unopened = HasRefused
  Proxies status.Usage = ⊥
  Proxies status.WriteFault =
      HasFailed s.output
      × ((HasLeft × WasCutShort [] serving_line s.output) ⊎ (HasServed × WasCutShort serving_line (served_line s.answered) s.output))
  Proxies status.NoMemory = (IsUntouched s × IsSilent s.output) ⊎ (HasServed × WasGiven serving_line s.output)

  -- no call on the output, the fixtures or a lane has failed
  pub record NothingFailed : Type 0 where
    pub output : IsUnfailed s.output
    pub calls : IsUnfailed s.calls
    pub lanes : NoneRose s.workers

  -- it has served, and no connection was interrupted
  pub record HasCompleted : Type 0 where
    pub served : HasServed
    pub uninterrupted : NoneInterrupted s.workers served.told.reports

-- ---- the table of other words
abbrev pub Declines : {F L P : Type 0} → Seen F L P → Status → Type 0
Declines s status.Usage = IsUntouched s × Says usage_line s.output
Declines s status.NoMemory = IsUntouched s × IsSilent s.output
Declines s status.Done = ⊥
Declines s status.Unopened = ⊥
Declines s status.WriteFault = ⊥

-- ---- the table of words

module _ {F L P : Type 0} (s : Seen F L P) (code : ℕ) where
  -- what is seen of a call with this exit status, by what its words give
  abbrev pub EndsAs : Result ProxySettings WordsFault → Type 0
  EndsAs (Ok p) = ExitsWith code (Proxies p s)
  EndsAs (Err fault) = ExitsWith code (Declines s)

  -- Completeness: where no call on a part of the outside has failed, the status is 0 or 5; with status 0, and memory for each
  -- connection, none was interrupted.
  abbrev pub CompletesAs : Result ProxySettings WordsFault → Type 0
  CompletesAs (Ok p) = NothingFailed p s → ((code ≡ 0) ⊎ (code ≡ 5)) × (code ≡ 0 → s.cut ≡ 0 → HasCompleted p s)
  CompletesAs (Err fault) = Unit {0}
