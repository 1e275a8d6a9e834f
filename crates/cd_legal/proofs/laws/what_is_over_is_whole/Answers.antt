use Rattle.cd_legal.proofs.Over.{over-whole}
use Rattle.cd_legal.proofs.laws.what_is_over_is_whole.Goals as goal

pub returns : goal.returns
returns c = over-whole
