use Rattle.cd_gate.proofs.Turns.{acquires}
use Rattle.cd_gate.proofs.laws.acquiring_keeps_the_rule.Goals as goal

pub returns-clause-rule : goal.returns-clause-rule
returns-clause-rule g c o log m seat v b r at live free home = acquires g.T.Stands.stands o log m r seat v b at live free

pub returns-clause-board : goal.returns-clause-board
returns-clause-board g c o log m r free = (r.free free).0

pub returns-clause-seen : goal.returns-clause-seen
returns-clause-seen g c o log m seat v r at live = ((r.each seat v at).seen, (r.each seat v at).own live)
