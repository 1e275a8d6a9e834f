use Rattle.cd_wire.proofs.Existence.{requests_exist}
use Rattle.cd_wire.proofs.laws.requests_exist.Goals as goal

pub returns : goal.returns
returns c = requests_exist
