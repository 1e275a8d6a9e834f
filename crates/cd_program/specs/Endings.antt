-- The last line of a call, by its status.
use Rattle.std.specs.Prelude.{◌≡◌, ℕ, List, Result, Ok, Err}
use Rattle.cd_tree.specs.declared.tree.Tree.{Tree}
use Rattle.cd_caddyfile.specs.Wording.{fault_words}
use Rattle.cd_caddyfile.specs.declared.fault.CaddyfileFault.{CaddyfileFault}
use Rattle.cd_host.specs.declared.host_end.HostHow.{HostHow}
use Rattle.cd_host.specs.declared.host_end.HostHow.TheVariants as how
use Rattle.cd_program.specs.declared.config.Unloaded.{Unloaded}
use Rattle.cd_program.specs.declared.config.Unloaded.TheVariants as unloaded
use Rattle.cd_program.specs.declared.refusal.Refusal.{Refusal}
use Rattle.cd_program.specs.declared.status.Status.{Status}
use Rattle.cd_program.specs.declared.status.Status.TheVariants as status
use Rattle.cd_program.specs.Configuration.{words_of}
use Rattle.cd_program.specs.Output.{Writes, Says, served_line, unopened_line, read_fault_line, tree_line}
use Rattle.cd_outside.specs.Lines.{refused_line}
use Rattle.cd_outside.specs.Devices.{Device, HasFailed, IsSilent}

-- that of a run that went so, over the output between the run and its end
abbrev pub Concludes : ℕ → ℕ → Device (List ℕ) → HostHow → Status → Type 0
Concludes answered published output how.Served status.Done = Writes (served_line answered published) (Unit {0}) output
Concludes answered published output how.Served status.WriteFault = HasFailed output × Writes (served_line answered published) ⊥ output
Concludes answered published output how.Served status.NoMemory = IsSilent output
Concludes answered published output (how.FirstRefused key) status.Unopened = Says (unopened_line key) output
Concludes answered published output (how.FirstRefused key) status.NoMemory = IsSilent output
Concludes answered published output how.WriteFault status.WriteFault = IsSilent output
Concludes answered published output how.NoMemory status.NoMemory = IsSilent output
Concludes answered published output h s = ⊥

-- that of a call that has no configuration, for this reason
abbrev pub IsDeclined : Unloaded → Device (List ℕ) → Status → Type 0
IsDeclined why output status.Refused = (refusal : Refusal) × (why ≡ unloaded.Refused refusal) × Says (refused_line (words_of refusal)) output
IsDeclined why output status.ReadFault = (why ≡ unloaded.Failed) × Says read_fault_line output
IsDeclined why output status.NoMemory = output.told_now ≡ output.told_before
IsDeclined why output s = ⊥

-- that of a call that adapts a file that comes to this
abbrev pub IsAdapted : Result Tree CaddyfileFault → Device (List ℕ) → Status → Type 0
IsAdapted found output status.Done = (tree : Tree) × (found ≡ Ok tree) × Writes (tree_line tree) (Unit {0}) output
IsAdapted found output status.Refused = (fault : CaddyfileFault) × (found ≡ Err fault) × Says (refused_line (fault_words fault)) output
IsAdapted found output status.WriteFault = (tree : Tree) × (found ≡ Ok tree) × HasFailed output × Writes (tree_line tree) ⊥ output
IsAdapted found output status.NoMemory = output.told_now ≡ output.told_before
IsAdapted found output s = ⊥
