use Rattle.cd_wire.proofs.UsualLemmas.{server_found}
use Rattle.cd_wire.proofs.usual.lines_of_one.Goals as goal

pub returns-then-is_server : goal.returns-then-is_server
returns-then-is_server c = server_found c.args.field.now (c.is_server.ensures c.if-is_server.true)
