use Rattle.cd_gate.proofs.Notes.{step_note}
use Rattle.cd_gate.proofs.laws.noting_keeps_the_rule.Goals as goal

pub returns : goal.returns
returns g c o log m seat v e r at has may = step_note g.T.Stands.stands o log m r seat v e at has may
