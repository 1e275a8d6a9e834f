use Rattle.cd_host.proofs.Alike.{all-alike}
use Rattle.cd_host.proofs.laws.alike_changes_fit_alike.Goals as goal

pub returns : goal.returns
returns c = all-alike
