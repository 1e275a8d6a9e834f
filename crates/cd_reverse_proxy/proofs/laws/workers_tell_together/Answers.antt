use Rattle.cd_reverse_proxy.proofs.Together.{told-together}
use Rattle.cd_reverse_proxy.proofs.laws.workers_tell_together.Goals as goal

pub returns : goal.returns
returns c = told-together
