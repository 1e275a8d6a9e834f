use Rattle.cd_serve.proofs.Together.{told-together}
use Rattle.cd_serve.proofs.laws.connections_are_told_together.Goals as goal

pub returns : goal.returns
returns c = told-together
