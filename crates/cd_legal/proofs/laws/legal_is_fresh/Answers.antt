use Rattle.cd_legal.proofs.Fresh.{legal-fresh}
use Rattle.cd_legal.proofs.laws.legal_is_fresh.Goals as goal

pub returns : goal.returns
returns c = legal-fresh
