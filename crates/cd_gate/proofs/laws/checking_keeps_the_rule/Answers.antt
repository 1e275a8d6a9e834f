use Rattle.cd_legal.specs.Legal.{state_at}
use Rattle.cd_gate.proofs.Requesting.{step_check, step_worn}
use Rattle.cd_gate.proofs.Balances.{begins_found}
use Rattle.cd_gate.proofs.laws.checking_keeps_the_rule.Goals as goal

pub returns-clause-room : goal.returns-clause-room
returns-clause-room g c o log m seat v r at live few = step_check g.T.Stands.stands o log m r seat v at live few

pub returns-clause-worn : goal.returns-clause-worn
returns-clause-worn g c o log m seat v r at live = step_worn g.T.Stands.stands o log m r seat v at live

pub returns-clause-found : goal.returns-clause-found
returns-clause-found g c o log m r = begins_found m.packed m.balances (state_at log) r.unsettled r.edge _ r.order r.counts
