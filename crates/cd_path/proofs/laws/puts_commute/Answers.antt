use Rattle.cd_path.proofs.Puts.{commute}
use Rattle.cd_path.proofs.laws.puts_commute.Goals as goal

pub returns : goal.returns
returns c = commute
