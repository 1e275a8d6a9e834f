use Rattle.std.proofs.Common.{sym, ◌∙◌}
use Rattle.cd_life.proofs.board.Board.tickets.Goals as goal

pub returns : goal.returns
returns g c opening log h = c.tickets_at.ensures ∙ sym (h.desk.agrees.at_serial c.args.serial)
