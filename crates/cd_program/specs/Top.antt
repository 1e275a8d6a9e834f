-- Part of the main theorem.
-- How the program ended, and why: a table by command, and for each command one by status.
use Rattle.std.specs.Prelude.{◌≡◌, ◌⊎◌, ℕ, Bool, true, false, List, Option, Result, Ok, Err}
use Rattle.cd_outside.specs.declared.key.Key.{Key}
use Rattle.cd_tree.specs.declared.tree.Tree.{Tree}
use Rattle.cd_tree.specs.declared.tree.Tree.TheVariants as tree
use Rattle.cd_legal.specs.declared.plan.Plan.{Plan}
use Rattle.cd_legal.specs.Runs.{Failure}
use Rattle.cd_legal.specs.State.{Conf}
use Rattle.cd_module.specs.declared.fault.LoadFault.{LoadFault}
use Rattle.cd_standard.specs.Acting.{acts_of_tree, plan_of_tree}
use Rattle.cd_serve.specs.Meanings.{Meaning}
use Rattle.cd_host.specs.Hosting.{serving_line}
use Rattle.cd_host.specs.Program.{Start}
use Rattle.cd_host.specs.Runs.{Ran}
use Rattle.cd_program.specs.declared.command.Command as commands
use Rattle.cd_program.specs.declared.command.Command.TheVariants as Command
use Rattle.cd_program.specs.declared.initial.Initial.{Initial}
use Rattle.cd_program.specs.declared.initial.Initial.TheVariants.{OfFile, Null, Saved}
use Rattle.cd_program.specs.declared.refusal.Refusal.{Refusal}
use Rattle.cd_program.specs.declared.status.Status.{Status}
use Rattle.cd_program.specs.declared.status.Status.TheVariants as status
use Rattle.cd_program.specs.Adapting.{Adapts}
use Rattle.cd_program.specs.Config.{Gave}
use Rattle.cd_program.specs.Configuration.{configured, if_planned, words_of}
use Rattle.cd_program.specs.Output.{FellShort, Writes, WroteLess, Says, run_text, valid_line, read_fault_line, unopened_line}
use Rattle.cd_outside.specs.Lines.{refused_line, usage_line}
use Rattle.cd_program.specs.Seen.{Seen, IsBack, IsUnserved, IsUntouched, observed_in}
use Rattle.cd_outside.specs.Devices.{Device, HasFailed}
use Rattle.cd_program.specs.Storm.{Storms}
use Rattle.cd_program.specs.Words.{is_null, is_of_file}

-- the exit status of the program
abbrev pub code_of : Status → ℕ
code_of status.Done = 0
code_of status.Refused = 1
code_of status.Unopened = 1
code_of status.Usage = 2
code_of status.ReadFault = 3
code_of status.WriteFault = 4
code_of status.NoMemory = 5

-- the exit status is that of a row of a table, and what the row says is so
pub record ExitsWith (code : ℕ) (IsSo : Status → Type 0) : Type 0 where
  pub status : Status
  pub is : code ≡ code_of status
  pub so : IsSo status

-- what the standard modules mean
abbrev pub standard : Meaning
standard = record { acts = acts_of_tree; plan = plan_of_tree }

-- ---- the configuration

-- the source gave up the bytes of a configuration, and this is what they come to by the plans of trees
pub record Loads (plan : Tree → Result Plan LoadFault) (old new : Option (List ℕ)) (found : Result Tree Refusal) : Type 0 where
  pub bytes : List ℕ
  pub gave : Gave bytes old new
  pub is : configured plan bytes ≡ found

-- the bytes are a configuration that may run
pub record IsValid (plan : Tree → Result Plan LoadFault) (source : Device (List ℕ)) : Type 0 where
  pub tree : Tree
  pub fine : Loads plan source.told_before source.told_now (Ok tree)

-- what a run begins with comes to this: the bytes of its file, the tree null, or a tree that was saved
abbrev pub Begins : (Tree → Result Plan LoadFault) → Initial → Device (List ℕ) → Result Tree Refusal → Type 0
Begins plan OfFile source found = Loads plan source.told_before source.told_now found
Begins plan Null source found = if_planned tree.Null (plan tree.Null) ≡ found
Begins plan (Saved tree) source found = if_planned tree (plan tree) ≡ found

-- it is refused, and the line says why
pub record WasRefused (plan : Tree → Result Plan LoadFault) (initial : Initial) (source output : Device (List ℕ)) : Type 0 where
  pub refusal : Refusal
  pub refused : Begins plan initial source (Err refusal)
  pub says : Says (refused_line (words_of refusal)) output

-- the tree null may run
abbrev pub NullMayRun : (Tree → Result Plan LoadFault) → Type 0
NullMayRun plan = if_planned tree.Null (plan tree.Null) ≡ Ok tree.Null

-- ---- a run

module _ (m : Meaning) (initial : Initial) {F L : Type 0} (s : Seen F L) where
  -- It began with the tree of a configuration that may run. `start` says how the first configuration was published, or why not, and
  -- `served` whether the lanes were served to their ends. Of it and of the one history of all passes, `Ran` says all that is promised.
  pub record HasRun (start : Start) (served : Bool) : Type 0 where
    pub tree : Tree
    pub begins : Begins m.plan initial s.source (Ok tree)
    pub last : Option Conf
    pub ran : Ran m tree start served (observed_in s last)

  -- Its first configuration was published. Where the lanes were not served, less than the first line was written.
  pub record HasStarted : Type 0 where
    pub served : Bool
    pub run : HasRun Start.published served
    pub unserved : served ≡ false → IsUnserved s
    pub short : served ≡ false → WroteLess serving_line s.output.told_before s.output.told_now

  -- It started in any way; only where its first configuration was published were the lanes served.
  pub record HasEnded : Type 0 where
    pub start : Start
    pub served : Bool
    pub run : HasRun start served
    pub published : served ≡ true → start ≡ Start.published

  -- It started with a key that could not be opened, since the fixtures failed; the line says which key it is.
  pub record FailedToOpen : Type 0 where
    pub key : Key
    pub failure : Failure
    pub run : HasRun (Start.refused failure key) false
    pub cause : HasFailed s.calls
    pub says : Says (unopened_line key) s.output
    pub unserved : IsUnserved s
    pub unpublished : s.published ≡ 0

  -- ---- the table of `run` and `stdio`
  abbrev pub Serves : Status → Type 0
  Serves status.Done = HasRun Start.published true × Writes (run_text s.answered s.published) (Unit {0}) s.output
  Serves status.Refused = (is_null initial ≡ false) × WasRefused m.plan initial s.source s.output × IsUntouched s
  Serves status.Unopened = FailedToOpen
  Serves status.Usage = ⊥
  Serves status.ReadFault = (is_of_file initial ≡ true) × HasFailed s.source × Says read_fault_line s.output × IsUntouched s
  Serves status.WriteFault = HasStarted × HasFailed s.output × Writes (run_text s.answered s.published) ⊥ s.output
  Serves status.NoMemory =
      (IsUntouched s × (s.output.told_now ≡ s.output.told_before))
      ⊎ (HasEnded × Writes (run_text s.answered s.published) ⊥ s.output)

-- ---- the table of `validate`
abbrev pub Validates : (Tree → Result Plan LoadFault) → Device (List ℕ) → Device (List ℕ) → Status → Type 0
Validates plan source output status.Done = IsValid plan source × Writes valid_line (Unit {0}) output
Validates plan source output status.Refused = WasRefused plan OfFile source output
Validates plan source output status.Unopened = ⊥
Validates plan source output status.Usage = ⊥
Validates plan source output status.ReadFault = HasFailed source × Says read_fault_line output
Validates plan source output status.WriteFault = IsValid plan source × HasFailed output × Writes valid_line ⊥ output
Validates plan source output status.NoMemory = output.told_now ≡ output.told_before

-- ---- the table of words that ask for nothing that is known
abbrev pub Declines : Device (List ℕ) → Status → Type 0
Declines output status.Usage = Says usage_line output
Declines output other = ⊥

-- ---- the table of commands

-- what is seen of a call with this exit status, by the command: the row of its status, and what comes back of a call that runs
-- nothing; no lane is served before the whole first line was written
module _ {F L : Type 0} (s : Seen F L) (code : ℕ) where
  abbrev pub EndsAs : commands.Command → Type 0
  EndsAs (Command.Serve initial) = ExitsWith code (Serves standard initial s) × (FellShort serving_line s.output.told_before s.output.told_now → IsUnserved s)
  EndsAs Command.Validate = ExitsWith code (Validates plan_of_tree s.source s.output) × IsUntouched s
  EndsAs Command.Adapt = ExitsWith code (Adapts s.source s.output) × IsUntouched s
  EndsAs (Command.Storm number) = ExitsWith code (Storms standard number s.answered s.published s.output) × IsBack s
  EndsAs Command.Unknown = ExitsWith code (Declines s.output) × IsUntouched s
