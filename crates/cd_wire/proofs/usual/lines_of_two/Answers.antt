use Rattle.cd_wire.proofs.UsualLemmas.{text_found}
use Rattle.cd_wire.proofs.usual.lines_of_two.Goals as goal

pub returns-then-is_plain_type : goal.returns-then-is_plain_type
returns-then-is_plain_type c =
    text_found c.args.first.now c.args.second.now (c.is_server.ensures c.if-is_server.true)
    (c.is_plain_type.ensures c.if-is_plain_type.true)
