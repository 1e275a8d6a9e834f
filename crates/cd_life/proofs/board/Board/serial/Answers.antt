use Rattle.std.proofs.Common.{sym}
use Rattle.cd_life.proofs.board.Board.serial.Goals as goal

pub returns-clause-state : goal.returns-clause-state
returns-clause-state g c opening log h = sym h.desk.agrees.serial
