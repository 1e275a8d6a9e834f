use Rattle.cd_life.proofs.Laws.{over_ended}
use Rattle.cd_life.proofs.over.what_is_over_has_ended.Goals as goal

pub returns : goal.returns
returns c = over_ended
