use Rattle.cd_gate.proofs.Serials.{step_settle, sum_known}
use Rattle.cd_gate.proofs.laws.settling_keeps_the_rule.Goals as goal

pub returns-clause-rule : goal.returns-clause-rule
returns-clause-rule g c o log m seat v u r at has unsettled stopped = step_settle g.T.Stands.stands o log m r seat v at has u.serial u.begins unsettled stopped

pub returns-clause-found : goal.returns-clause-found
returns-clause-found g c o log m seat v u r at has unsettled = sum_known g.T.Stands.stands o log m r seat v at has u unsettled
