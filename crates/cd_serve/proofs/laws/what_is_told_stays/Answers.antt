use Rattle.cd_serve.proofs.Longer.{told-longer}
use Rattle.cd_serve.proofs.laws.what_is_told_stays.Goals as goal

pub returns : goal.returns
returns c = told-longer
