use Rattle.std.proofs.Common.{◌≤◌, ◌+◌, ℕ, min, refl, sym, subst}
use Rattle.cd_outside.specs.Counts.{count_end}
use Rattle.cd_saved.proofs.Over.{lacking, run_over_disk}
use Rattle.cd_saved.proofs.running.run_over.Goals as goal

pub returns-in-Err-clause-ran : goal.returns-in-Err-clause-ran
returns-in-Err-clause-ran g c =
    rw c.unbegun.ensures (lacking c.args.initial _ _ _ refl refl (record { unserved = record { lanes = refl; unanswered = refl; uncut = refl }; fixtures = refl; unpublished = refl }) refl)

pub returns-in-Ok-clause-ran : goal.returns-in-Ok-clause-ran
returns-in-Ok-clause-ran g c =
    let at_least = subst (λ (n : ℕ). min (n + c.run_wrapped-ended.new.all.amount) count_end ≤ g.D.Disk.faults c.close.result.slots.disk) (sym c.requires.start) c.close.ensures in
    rw (sym c.into_vec.ensures) (run_over_disk c.args.initial _ _ _ c.run_wrapped-ended.new.all.amount c.run_wrapped-ended.ensures.ran at_least)
