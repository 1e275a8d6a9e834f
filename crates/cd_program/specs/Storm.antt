-- Part of the main theorem.
-- What `storm N` does, and the line that it writes.
use Rattle.std.specs.Prelude.{◌≡◌, ◌++◌, ◌==◌, ℕ, Bool, true, List, [], length, codes, decimal, map, All, Option, Some, None, Ok}
use Rattle.std.specs.List.{list_all}
use Rattle.cd_outside.specs.declared.memory_lane.MemoryLane.{MemoryLane}
use Rattle.cd_tree.specs.declared.path.Path.{Path}
use Rattle.cd_tree.specs.declared.tree.Tree.{Tree}
use Rattle.cd_tags.specs.Encoding.{tag_text}
use Rattle.cd_tags.specs.IfMatch.{IsDigest}
use Rattle.cd_tags.specs.Tags.{tag_of}
use Rattle.cd_legal.specs.State.{Conf}
use Rattle.cd_storm.specs.FirstTree.{first_tree}
use Rattle.cd_storm.specs.Scripts.{scripts, IsFresh}
use Rattle.cd_serve.specs.Meanings.{Meaning}
use Rattle.cd_host.specs.declared.host_end.HostHow.{HostHow}
use Rattle.cd_host.specs.declared.host_end.HostHow.TheVariants as how
use Rattle.cd_host.specs.Program.{Start}
use Rattle.cd_host.specs.Runs.{Observed, Ran}
use Rattle.cd_host.specs.Seated.{spans}
use Rattle.cd_program.specs.declared.status.Status.{Status}
use Rattle.cd_program.specs.declared.status.Status.TheVariants as status
use Rattle.cd_program.specs.Output.{Writes}
use Rattle.cd_outside.specs.Devices.{Device, HasFailed}

-- ---- the line

-- so many requests were answered under so many configurations, and the tag of the last has these digits
unfoldable pub storm_line : ℕ → ℕ → ℕ → List ℕ → List ℕ
storm_line number answered published digits =
    codes "storm " ++ decimal number ++ codes ": " ++ decimal answered ++ codes " answered, " ++ decimal published ++ codes " configurations, final " ++ digits ++ codes "\n"

-- the way to a tree itself
abbrev pub root : Path
root = record { parts = [] }

-- the tag of the whole tree has these digits, as many as a digest has
pub record HasDigits (tree : Tree) (digits : List ℕ) : Type 0 where
  pub tag : tag_of tree root ≡ Ok (tag_text root digits)
  pub are : IsDigest digits

-- these are the digits of the tree of the configuration
pub record IsFinalOf (last : Option Conf) (digits : List ℕ) : Type 0 where
  pub tree : Tree
  pub is : last ≡ Some (Conf.Of tree)
  pub digits_are : HasDigits tree digits

-- ---- the run

-- no call of these lanes has failed
abbrev pub have_no_fault : List MemoryLane → Bool
have_no_fault = list_all (λ lane. lane.faults.count == 0)

-- the lanes were served to their ends, no call of the fixtures or the lanes has failed, and no connection was interrupted
pub record IsUnfailing (way : HostHow) (faults : ℕ) (lanes : List MemoryLane) (cut : ℕ) : Type 0 where
  pub served : way ≡ how.Served
  pub fixtures : faults ≡ 0
  pub all : have_no_fault lanes ≡ true
  pub uncut : cut ≡ 0

-- these lanes have the scripts of the storm of this number, and nothing has come to them yet
pub record AreLanesOf (number : ℕ) (lanes : List MemoryLane) : Type 0 where
  pub played : map (λ lane. lane.script) lanes ≡ scripts number
  pub fresh : All IsFresh lanes

-- The storm of a number was run to its end from its first tree, over its lanes, which then are `ends`. No call of a form in
-- memory has failed before or in it, no connection was interrupted, and as many lanes came back.
pub record IsStorm (m : Meaning) (number : ℕ) (run : Observed) : Type 0 where
  pub ran : Ran m (first_tree number) Start.published true run
  pub lanes : List MemoryLane
  pub are : AreLanesOf number lanes
  pub ends : List MemoryLane
  pub count : length ends ≡ length lanes
  pub seen : run.lanes ≡ spans (λ lane. lane.faults.count) (λ lane. Some lane.past) (λ lane. None) lanes ends
  pub unfailing : have_no_fault ends ≡ true
  pub unasked : run.calls_before ≡ Some []
  pub unfailed : run.failed_before ≡ 0
  pub still : run.failed_now ≡ 0
  pub uncut : run.cut ≡ 0

-- it was run so, with these counts, and the tag of the configuration that was published last has these digits
pub record HasStormed (m : Meaning) (number answered published : ℕ) (digits : List ℕ) : Type 0 where
  pub run : Observed
  pub storm : IsStorm m number run
  pub answers : run.answered ≡ answered
  pub publishings : run.published ≡ published
  pub final : IsFinalOf run.last digits

-- and its line was written, the whole of it if `complete`
pub record HasWritten (m : Meaning) (number answered published : ℕ) (complete : Type 0) (output : Device (List ℕ)) : Type 0 where
  pub digits : List ℕ
  pub stormed : HasStormed m number answered published digits
  pub wrote : Writes (storm_line number answered published digits) complete output

-- ---- the table of `storm`
abbrev pub Storms : Meaning → ℕ → ℕ → ℕ → Device (List ℕ) → Status → Type 0
Storms m number answered published output status.Done = HasWritten m number answered published (Unit {0}) output
Storms m number answered published output status.WriteFault = HasWritten m number answered published ⊥ output × HasFailed output
Storms m number answered published output status.NoMemory = (output.told_now ≡ output.told_before) × (answered ≡ 0) × (published ≡ 0)
Storms m number answered published output other = ⊥
