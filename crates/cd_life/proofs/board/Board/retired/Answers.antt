use Rattle.cd_life.proofs.board.Board.retired.Goals as goal

pub returns : goal.returns
returns g c opening log h = c.retired.ensures opening.desk log h.desk
