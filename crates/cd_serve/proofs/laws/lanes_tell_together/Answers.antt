use Rattle.cd_serve.proofs.Joined.{lanes-told}
use Rattle.cd_serve.proofs.laws.lanes_tell_together.Goals as goal

pub returns : goal.returns
returns c = lanes-told
