-- How a run that saves ends, and why.
use Rattle.std.specs.Prelude.{◌≡◌, ◌≤◌, ◌<◌, ◌+◌, ◌⊎◌, ℕ, List, Option, None, length, sum, codes, IfSome}
use Rattle.cd_outside.specs.Counts.{count_end, Rose}
use Rattle.cd_tree.specs.declared.tree.Tree.{Tree}
use Rattle.cd_autosave.specs.declared.save_fault.SaveFault.{SaveFault}
use Rattle.cd_autosave.specs.declared.save_fault.SaveFault.TheVariants as fault
use Rattle.cd_autosave.specs.Image.{recovered}
use Rattle.cd_autosave.specs.Opening.{IsDamaged, IsTreeOf}
use Rattle.cd_host.specs.Hosting.{serving_line}
use Rattle.cd_program.specs.declared.initial.Initial.{Initial}
use Rattle.cd_program.specs.declared.status.Status.{Status}
use Rattle.cd_program.specs.declared.status.Status.TheVariants as status
use Rattle.cd_program.specs.declared.command.Command.{Command}
use Rattle.cd_program.specs.Complete.{MayBegin, NothingFailed, Completes, CompletesAs}
use Rattle.cd_program.specs.Output.{FellShort, Says, read_fault_line}
use Rattle.cd_outside.specs.Lines.{refused_line}
use Rattle.cd_program.specs.Seen.{IsUnserved, IsUntouched, Seen}
use Rattle.cd_outside.specs.Devices.{Device}
use Rattle.cd_program.specs.Top.{EndsAs, ExitsWith, Serves, standard}
use Rattle.cd_saved.specs.declared.saved_run.SavedRun.{SavedRun}
use Rattle.cd_saved.specs.Shares.{shared}
use Rattle.cd_saved.specs.Words.{initial_of}

-- the disk before and after a call: the bytes that it tells, and how often it had failed and has
abbrev pub DiskSeen : Type 0
DiskSeen = Device (List ℕ)

-- ---- opening

-- the line for a file that is damaged
abbrev pub damaged_line : List ℕ
damaged_line = refused_line (codes "saved configuration is damaged")

-- Why the disk could not be opened: an open slot of it holds no saved configuration, a call on it failed, or memory was lacking. The
-- line says the first two.
abbrev pub IsRefused : DiskSeen → Device (List ℕ) → SaveFault → Status → Type 0
IsRefused disk output fault.Damaged status.Refused = IfSome disk.told_before IsDamaged × Says damaged_line output
IsRefused disk output fault.DiskFault status.ReadFault = Rose disk.failed_before disk.failed_now × Says read_fault_line output
IsRefused disk output fault.NoMemory status.NoMemory = output.told_now ≡ output.told_before
IsRefused disk output why st = ⊥

-- The disk was not opened. Then nothing is read, no run is begun, and the disk tells what it told.
pub record IsUnopened {F L : Type 0} (disk : DiskSeen) (s : Seen F L) (st : Status) : Type 0 where
  pub why : SaveFault
  pub refused : IsRefused disk s.output why st
  pub untouched : IsUntouched s
  pub source : s.source.told_now ≡ s.source.told_before
  pub same : disk.told_now ≡ disk.told_before

-- ---- a run

-- The lanes' faults with those that their saves have met, which together are no more than the rise of the disk's.
pub record AreShares {F L : Type 0} (disk : DiskSeen) (s : Seen F L) (shares : List ℕ) : Type 0 where
  pub count : length shares ≡ length s.lanes
  pub met : disk.failed_now < count_end → disk.failed_before + sum shares ≤ disk.failed_now

-- It has run as the program without a disk does, where each fault of a lane's saves counts as one of that lane. It is complete, where
-- the disk has not failed either.
pub record HasRunOver {F L : Type 0} (initial : Initial) (disk : DiskSeen) (s : Seen F L) (code : ℕ) : Type 0 where
  pub shares : List ℕ
  pub are : AreShares disk s shares
  pub ends : ExitsWith code (Serves standard initial (shared s shares))
  pub short : FellShort serving_line s.output.told_before s.output.told_now → IsUnserved s
  pub completes : MayBegin standard.plan initial s.source → NothingFailed s → ¬ (Rose disk.failed_before disk.failed_now) → Completes standard initial (shared s shares) code

-- It began with what the file of its words has, with null, or with the tree that was saved last. Where the disk tells its bytes, that
-- is the tree of the newer open slot.
pub record HasOpened {F L : Type 0} (which : SavedRun) (disk : DiskSeen) (s : Seen F L) (code : ℕ) : Type 0 where
  pub saved : Option Tree
  pub found : IfSome disk.told_before (λ image. IsTreeOf (recovered image) saved × (IsDamaged image → ⊥))
  pub run : HasRunOver (initial_of which saved) disk s code

-- ---- the tables

-- words that ask for no run that saves: as without a disk
abbrev pub AsWithout : {F L : Type 0} → Seen F L → ℕ → Command → Type 0
AsWithout s code command = EndsAs s code command × CompletesAs s code command

-- a run that saves

abbrev pub EndsOver : {F L : Type 0} → SavedRun → DiskSeen → Seen F L → ℕ → Type 0
EndsOver which disk s code = ExitsWith code (IsUnopened disk s) ⊎ HasOpened which disk s code
