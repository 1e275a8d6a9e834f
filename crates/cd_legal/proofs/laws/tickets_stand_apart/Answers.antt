use Rattle.cd_legal.proofs.Apart.{apart}
use Rattle.cd_legal.proofs.laws.tickets_stand_apart.Goals as goal

pub returns : goal.returns
returns c = apart
