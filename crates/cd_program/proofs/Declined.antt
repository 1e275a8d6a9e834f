-- What a call without a configuration ends with, in the table of its command.
use Rattle.std.proofs.Common.{◌≡◌, inl, ℕ, true, List, Result, Err}
use Rattle.cd_tree.specs.declared.tree.Tree.{Tree}
use Rattle.cd_legal.specs.declared.plan.Plan.{Plan}
use Rattle.cd_module.specs.declared.fault.LoadFault.{LoadFault}
use Rattle.cd_serve.specs.Meanings.{Meaning}
use Rattle.cd_program.specs.declared.config.Unloaded.{Unloaded}
use Rattle.cd_program.specs.declared.config.Unloaded.TheVariants as unloaded
use Rattle.cd_program.specs.declared.initial.Initial.{Initial}
use Rattle.cd_program.specs.declared.refusal.Refusal.{Refusal}
use Rattle.cd_program.specs.declared.status.Status.{Status}
use Rattle.cd_program.specs.declared.status.Status.TheVariants as status
use Rattle.cd_program.specs.Endings.{IsDeclined}
use Rattle.cd_program.specs.Seen.{Seen, IsUntouched}
use Rattle.cd_outside.specs.Devices.{Device, HasFailed}
use Rattle.cd_program.specs.Top.{Begins, Loads, NullMayRun, Serves, Validates}
use Rattle.cd_program.specs.Words.{is_of_file}
use Rattle.cd_program.proofs.Loading.{refused_not_null}

pub validates : (plan : Tree → Result Plan LoadFault) (source output : Device (List ℕ)) (why : Unloaded)
    → ((refusal : Refusal) → why ≡ unloaded.Refused refusal → Loads plan source.told_before source.told_now (Err refusal)) → (why ≡ unloaded.Failed → HasFailed source)
    → (st : Status) → IsDeclined why output st → Validates plan source output st
validates plan source output why refused failed status.Done d = absurd d
validates plan source output why refused failed status.Refused d = record { refusal = d.0; refused = refused d.0 d.1; says = d.2 }
validates plan source output why refused failed status.Unopened d = d
validates plan source output why refused failed status.Usage d = d
validates plan source output why refused failed status.ReadFault d = (failed d.0, d.1)
validates plan source output why refused failed status.WriteFault d = absurd d
validates plan source output why refused failed status.NoMemory d = d

pub serves : {F L : Type 0} (m : Meaning) (initial : Initial) (s : Seen F L) (why : Unloaded) → NullMayRun m.plan → IsUntouched s
    → ((refusal : Refusal) → why ≡ unloaded.Refused refusal → Begins m.plan initial s.source (Err refusal)) → (why ≡ unloaded.Failed → (is_of_file initial ≡ true) × HasFailed s.source)
    → (st : Status) → IsDeclined why s.output st → Serves m initial s st
serves m initial s why fine same refused failed status.Done d = absurd d
serves m initial s why fine same refused failed status.Refused d =
    let begins = refused d.0 d.1 in
    (refused_not_null m.plan fine initial s.source d.0 begins, record { refusal = d.0; refused = begins; says = d.2 }, same)
serves m initial s why fine same refused failed status.Unopened d = absurd d
serves m initial s why fine same refused failed status.Usage d = d
serves m initial s why fine same refused failed status.ReadFault d = ((failed d.0).0, (failed d.0).1, d.1, same)
serves m initial s why fine same refused failed status.WriteFault d = absurd d
serves m initial s why fine same refused failed status.NoMemory d = inl (same, d)
