use Rattle.cd_gate.proofs.Requesting.{step_begin}
use Rattle.cd_gate.proofs.laws.beginning_keeps_the_rule.Goals as goal

pub returns : goal.returns
returns g c o log m seat v r at live idle checked = step_begin g.T.Stands.stands o log m r seat v at live idle checked
