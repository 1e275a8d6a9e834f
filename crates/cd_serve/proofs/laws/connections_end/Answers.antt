use Rattle.cd_serve.proofs.Connecting.{connection-ends, connection-ends-quietly}
use Rattle.cd_serve.proofs.laws.connections_end.Goals as goal

pub returns-clause-answered : goal.returns-clause-answered
returns-clause-answered c = connection-ends

pub returns-clause-quiet : goal.returns-clause-quiet
returns-clause-quiet c = connection-ends-quietly
