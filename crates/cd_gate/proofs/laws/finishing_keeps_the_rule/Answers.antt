use Rattle.cd_gate.proofs.Requesting.{step_finish, due_now}
use Rattle.cd_gate.proofs.laws.finishing_keeps_the_rule.Goals as goal

pub returns-clause-rule : goal.returns-clause-rule
returns-clause-rule g c o log m seat v n r at live ticket quiet = step_finish g.T.Stands.stands o log m r seat v at live n ticket quiet

pub returns-clause-due : goal.returns-clause-due
returns-clause-due g c o log m seat v n r at live ticket quiet = due_now g.T.Stands.stands o log m r seat v at live n ticket quiet
