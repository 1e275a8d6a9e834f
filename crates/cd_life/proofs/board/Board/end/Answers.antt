use Rattle.std.proofs.Common.{◌∙◌}
use Rattle.cd_life.proofs.Laws.{last_is}
use Rattle.cd_life.proofs.board.Board.end.Goals as goal

pub end-fixtures-requires : goal.end-fixtures-requires
end-fixtures-requires g c = let h = c.requires in (h.0.desk, h.1, h.2.desk, h.3)

pub returns-clause-last : goal.returns-clause-last
returns-clause-last g c opening log h = c.share_of.ensures ∙ last_is g.F.Fixtures.calls g.F.Fixtures.faults g.M.ModuleSet.plan g.M.ModuleSet.change opening c.args.self log h c.last_serial-last.result c.last_serial-last.ensures
