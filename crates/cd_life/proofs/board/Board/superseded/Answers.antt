use Rattle.cd_life.proofs.board.Board.superseded.Goals as goal

pub returns-clause-left : goal.returns-clause-left
returns-clause-left g c opening log h = c.superseded.ensures.left opening.desk log h.desk

pub returns-clause-clean : goal.returns-clause-clean
returns-clause-clean g c opening log h over more = c.superseded.ensures.clean opening.desk log h.desk over more
