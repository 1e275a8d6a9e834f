-- A reader that fails where one of its steps does.
use Rattle.std.proofs.Common.{◌≡◌, Result, Ok, Err}
use Rattle.std.specs.Prelude.{◌≢◌, IsErrAnd}
use Rattle.cd_text.specs.Gives.{Gives}
use Rattle.cd_module.specs.declared.fault.LoadFault.{LoadFault}
use Rattle.cd_module.specs.declared.fault.LoadFault.TheVariants.{NoMemory}

-- what a step failed with is what the definition fails with
pub step_failed : {X : Type 0} (made expected : Result X LoadFault) (fault : LoadFault) → IsErrAnd made (λ e. e ≡ fault) → (fault ≢ NoMemory → expected ≡ Err fault) → Gives NoMemory made expected
step_failed (Ok x) expected fault failed same = absurd failed
step_failed (Err e) expected fault failed same = rw failed same
