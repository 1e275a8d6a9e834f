-- Part of the main theorem.
-- What `adapt` does: what the bytes of a Caddyfile come to, and the line that it writes.
use Rattle.std.specs.Prelude.{◌≡◌, ℕ, List, Option, Result, Ok, Err}
use Rattle.cd_tree.specs.declared.tree.Tree.{Tree}
use Rattle.cd_caddyfile.specs.Adapting.{adapted}
use Rattle.cd_caddyfile.specs.Wording.{fault_words}
use Rattle.cd_caddyfile.specs.declared.fault.CaddyfileFault.{CaddyfileFault}
use Rattle.cd_outside.specs.Devices.{Device, HasFailed}
use Rattle.cd_outside.specs.Lines.{refused_line}
use Rattle.cd_program.specs.Config.{Gave}
use Rattle.cd_program.specs.Output.{Writes, Says, read_fault_line, tree_line}
use Rattle.cd_program.specs.declared.status.Status.{Status}
use Rattle.cd_program.specs.declared.status.Status.TheVariants as status

-- the source gave up the bytes of a Caddyfile, and this is what they come to
pub record ComesTo (old new : Option (List ℕ)) (found : Result Tree CaddyfileFault) : Type 0 where
  pub bytes : List ℕ
  pub gave : Gave bytes old new
  pub is : adapted bytes ≡ found

-- they come to a configuration, and its line was written, the whole of it if `complete`
pub record HasAdapted (complete : Type 0) (source output : Device (List ℕ)) : Type 0 where
  pub tree : Tree
  pub comes : ComesTo source.told_before source.told_now (Ok tree)
  pub wrote : Writes (tree_line tree) complete output

-- they have a fault, and the line says which
pub record IsFaulty (source output : Device (List ℕ)) : Type 0 where
  pub fault : CaddyfileFault
  pub comes : ComesTo source.told_before source.told_now (Err fault)
  pub says : Says (refused_line (fault_words fault)) output

-- ---- the table of `adapt`
abbrev pub Adapts : Device (List ℕ) → Device (List ℕ) → Status → Type 0
Adapts source output status.Done = HasAdapted (Unit {0}) source output
Adapts source output status.Refused = IsFaulty source output
Adapts source output status.Unopened = ⊥
Adapts source output status.Usage = ⊥
Adapts source output status.ReadFault = HasFailed source × Says read_fault_line output
Adapts source output status.WriteFault = HasAdapted ⊥ source output × HasFailed output
Adapts source output status.NoMemory = output.told_now ≡ output.told_before
