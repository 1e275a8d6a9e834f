use Rattle.cd_serve.proofs.Completing.{complete}
use Rattle.cd_serve.proofs.laws.connections_are_complete.Goals as goal

pub returns : goal.returns
returns c = complete
