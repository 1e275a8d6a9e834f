use Rattle.cd_gate.proofs.Starting.{begins_by_rule}
use Rattle.cd_gate.proofs.laws.a_gate_begins_by_the_rule.Goals as goal

pub returns : goal.returns
returns g c b start = begins_by_rule g.T.Stands.stands b start
