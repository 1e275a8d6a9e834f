use Rattle.cd_gate.proofs.Turns.{releases}
use Rattle.cd_gate.proofs.laws.releasing_keeps_the_rule.Goals as goal

pub returns : goal.returns
returns g c o log m seat v b r at has settled unready held board left = releases g.T.Stands.stands o log m r seat v b at has settled unready board left
