use Rattle.std.proofs.Common.{sym}
use Rattle.cd_life.proofs.board.Board.begins.Goals as goal

pub returns : goal.returns
returns g c opening log h = sym h.desk.agrees.begun
