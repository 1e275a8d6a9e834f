use Rattle.std.proofs.Common.{◌∙◌, sym, refl}
use Rattle.cd_life.proofs.Standings.{adds, calm, shelf_retire, shelf_last}
use Rattle.cd_life.proofs.board.Board.retire.Goals as goal

pub returns-clause-entry : goal.returns-clause-entry
returns-clause-entry g c =
    adds g.F.Fixtures.calls g.F.Fixtures.faults g.M.ModuleSet.plan g.M.ModuleSet.change c.args.self.now _ _ c.retire.ensures.entry (calm _ _ c.retire.ensures.faults) (λ o l h. tt)
    (shelf_retire g.F.Fixtures.calls g.F.Fixtures.faults g.M.ModuleSet.plan g.M.ModuleSet.change c.args.self.now _ c.args.serial (sym c.is_last_published-last.ensures ∙ c.if-last.false) c.take_out.ensures.others c.take_out.ensures.len c.take_out.ensures.gone c.take_out.ensures.capacity refl)

pub returns-then-last-clause-entry : goal.returns-then-last-clause-entry
returns-then-last-clause-entry g c =
    adds g.F.Fixtures.calls g.F.Fixtures.faults g.M.ModuleSet.plan g.M.ModuleSet.change c.args.self.now _ _ c.retire.ensures.entry (calm _ _ c.retire.ensures.faults) (λ o l h. tt)
    (shelf_last g.F.Fixtures.calls g.F.Fixtures.faults g.M.ModuleSet.plan g.M.ModuleSet.change c.args.self.now _ c.args.serial (sym c.is_last_published-last.ensures ∙ c.if-last.true) refl refl)
