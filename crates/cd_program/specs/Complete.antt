-- Part of the main theorem.
-- Completeness: what a call of the program comes to where no call on a part of the outside failed, and where memory was not lacking.
use Rattle.std.specs.Prelude.{◌≡◌, ◌⊎◌, ◌+◌, ◌++◌, ℕ, true, false, List, [], ◌∷◌, Option, Some, None, Result, Ok, Err}
use Rattle.cd_outside.specs.declared.past.Connection.{Connection}
use Rattle.cd_tree.specs.declared.tree.Tree.{Tree}
use Rattle.cd_caddyfile.specs.Adapting.{adapted}
use Rattle.cd_caddyfile.specs.declared.fault.CaddyfileFault.{CaddyfileFault}
use Rattle.cd_legal.specs.declared.entry.Signed.{Signed}
use Rattle.cd_legal.specs.declared.plan.Plan.{Plan}
use Rattle.cd_legal.specs.Placed.{Placed}
use Rattle.cd_module.specs.declared.fault.LoadFault.{LoadFault}
use Rattle.cd_serve.specs.Complete.{IsComplete}
use Rattle.cd_serve.specs.Connections.{Ending}
use Rattle.cd_serve.specs.Episodes.{another_halted}
use Rattle.cd_serve.specs.Meanings.{Meaning}
use Rattle.cd_serve.specs.Reports.{LaneReport, NoneRose, NoneInterrupted}
use Rattle.cd_host.specs.Program.{Start}
use Rattle.cd_standard.specs.Acting.{plan_of_tree}
use Rattle.cd_host.specs.Unfailing.{HaveEnded}
use Rattle.cd_program.specs.declared.command.Command as commands
use Rattle.cd_program.specs.declared.command.Command.TheVariants as Command
use Rattle.cd_program.specs.declared.initial.Initial.{Initial}
use Rattle.cd_program.specs.declared.initial.Initial.TheVariants.{OfFile, Null, Saved}
use Rattle.cd_program.specs.Configuration.{configured, if_planned}
use Rattle.cd_program.specs.Seen.{Seen}
use Rattle.cd_outside.specs.Devices.{Device, IsUnfailed}
use Rattle.cd_program.specs.Top.{HasRun, standard}

-- ---- what it asks for

-- no call on the source, the output, the fixtures or a lane has failed
pub record NothingFailed {F L : Type 0} (s : Seen F L) : Type 0 where
  pub source : IsUnfailed s.source
  pub output : IsUnfailed s.output
  pub calls : IsUnfailed s.calls
  pub lanes : NoneRose s.lanes

-- the source tells its bytes, and they are a configuration that may run
pub record HoldsConfiguration (plan : Tree → Result Plan LoadFault) (source : Device (List ℕ)) : Type 0 where
  pub bytes : List ℕ
  pub told : source.told_before ≡ Some bytes
  pub tree : Tree
  pub fine : configured plan bytes ≡ Ok tree

-- so it is where a run begins with a file; the tree null may run, and one that was saved where a plan of it is found
abbrev pub MayBegin : (Tree → Result Plan LoadFault) → Initial → Device (List ℕ) → Type 0
MayBegin plan OfFile source = HoldsConfiguration plan source
MayBegin plan Null source = Unit {0}
MayBegin plan (Saved tree) source = if_planned tree (plan tree) ≡ Ok tree

-- ---- what it gives

-- each of these connections, which pass k served one after another, has all its answers, up to its own end
abbrev pub HaveAllAnswers : Meaning → ℕ → List Signed → List Placed → List Connection → List Ending → Type 0
HaveAllAnswers m k history before [] [] = Unit {0}
HaveAllAnswers m k history before (c ∷ cs) (e ∷ es) =
    IsComplete m k history (before ++ e.own) c × HaveAllAnswers m k history (before ++ e.own) cs es
HaveAllAnswers m k history before [] (e ∷ es) = ⊥
HaveAllAnswers m k history before (c ∷ cs) [] = ⊥

-- so each connection that the lanes tell of, of which the first was served by pass k, the next by pass k + 1, and so on
abbrev pub AreComplete : Meaning → List Signed → ℕ → List (Option LaneReport) → Type 0
AreComplete m history k [] = Unit {0}
AreComplete m history k (None ∷ ts) = AreComplete m history (k + 1) ts
AreComplete m history k (Some t ∷ ts) = HaveAllAnswers m k history [] t.connections t.endings × AreComplete m history (k + 1) ts

module _ (m : Meaning) (initial : Initial) {F L : Type 0} (s : Seen F L) where
  -- It ran to its end, and of the connections that the lanes tell of none was interrupted, and each has all its answers. Where no lane
  -- has halted, each lane that tells its past tells that no more comes.
  pub record HasCompleted : Type 0 where
    pub run : HasRun m initial s Start.published true
    pub uninterrupted : NoneInterrupted run.ran.lanes.reports
    pub complete : AreComplete m run.ran.history 1 run.ran.lanes.reports
    pub ended : another_halted 0 run.ran.history ≡ false → HaveEnded s.lanes

  -- A run that ends with this status has done all that it could: it ended in order, or it lacked memory. With status 0 and no
  -- connection that lacked memory it has completed.
  pub record Completes (status : ℕ) : Type 0 where
    pub done : (status ≡ 0) ⊎ (status ≡ 5)
    pub all : status ≡ 0 → s.cut ≡ 0 → HasCompleted

-- the exit status is that of what the bytes of a Caddyfile come to, or memory was lacking; a fault has its status also where its line
-- could not be written
abbrev pub IsStatusOf : Result Tree CaddyfileFault → Device (List ℕ) → ℕ → Type 0
IsStatusOf (Ok tree) output code = IsUnfailed output → (code ≡ 0) ⊎ (code ≡ 5)
IsStatusOf (Err fault) output code = (code ≡ 1) ⊎ (code ≡ 5)

-- ---- the table of commands

-- what a call with this exit status has done besides, by the command
module _ {F L : Type 0} (s : Seen F L) (code : ℕ) where
  abbrev pub CompletesAs : commands.Command → Type 0
  CompletesAs (Command.Serve initial) = MayBegin plan_of_tree initial s.source → NothingFailed s → Completes standard initial s code
  CompletesAs Command.Validate = HoldsConfiguration plan_of_tree s.source → IsUnfailed s.source → IsUnfailed s.output → (code ≡ 0) ⊎ (code ≡ 5)
  CompletesAs Command.Adapt = (bytes : List ℕ) → s.source.told_before ≡ Some bytes → IsUnfailed s.source → IsStatusOf (adapted bytes) s.output code
  CompletesAs (Command.Storm number) = IsUnfailed s.output → (code ≡ 0) ⊎ (code ≡ 5)
  CompletesAs Command.Unknown = Unit {0}
