use Rattle.std.proofs.Common.{refl}
use Rattle.cd_life.proofs.Standings.{adds, calm, shelf_plain}
use Rattle.cd_life.proofs.board.Board.finish.Goals as goal

pub returns-clause-entry : goal.returns-clause-entry
returns-clause-entry g c = adds g.F.Fixtures.calls g.F.Fixtures.faults g.M.ModuleSet.plan g.M.ModuleSet.change c.args.self.now _ _ c.finish.ensures.entry (calm _ _ c.finish.ensures.faults) (λ o l h. tt) (shelf_plain g.F.Fixtures.calls g.F.Fixtures.faults g.M.ModuleSet.plan g.M.ModuleSet.change c.args.self.now _ _ refl refl refl refl)
