use Rattle.cd_legal.proofs.Confs.{conf-stays}
use Rattle.cd_legal.proofs.laws.configurations_stay.Goals as goal

pub returns : goal.returns
returns c = conf-stays
