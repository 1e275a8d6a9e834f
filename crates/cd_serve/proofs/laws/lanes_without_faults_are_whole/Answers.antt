use Rattle.cd_serve.proofs.Joined.{lanes-whole}
use Rattle.cd_serve.proofs.laws.lanes_without_faults_are_whole.Goals as goal

pub returns : goal.returns
returns c = lanes-whole
