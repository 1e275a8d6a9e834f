use Rattle.cd_gate.proofs.InTurn.{finds, knows_noted}
use Rattle.cd_gate.proofs.knowing.a_turn_knows_the_history.Goals as goal

pub returns-clause-found : goal.returns-clause-found
returns-clause-found g c o b v log f = finds g.T.Stands.stands o b v log f

pub returns-clause-noted : goal.returns-clause-noted
returns-clause-noted g c v log e k f may now = knows_noted v log e f now k
