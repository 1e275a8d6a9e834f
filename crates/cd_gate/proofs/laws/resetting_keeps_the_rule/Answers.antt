use Rattle.cd_gate.proofs.Serials.{step_reset}
use Rattle.cd_gate.proofs.laws.resetting_keeps_the_rule.Goals as goal

pub returns : goal.returns
returns g c o log m seat v n r at has is on quiet retired = step_reset g.T.Stands.stands o log m r seat v at has n is on quiet retired
