use Rattle.cd_serve.proofs.Halts.{halted-by-another}
use Rattle.cd_serve.proofs.laws.a_halt_since_then_is_of_another.Goals as goal

pub returns : goal.returns
returns c = halted-by-another
