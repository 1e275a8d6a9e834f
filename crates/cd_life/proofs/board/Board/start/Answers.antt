use Rattle.std.proofs.Common.{refl}
use Rattle.cd_life.proofs.Standings.{adds, started_rises, shelf_plain}
use Rattle.cd_life.proofs.board.Board.start.Goals as goal

pub start_next-requires-clause-at : goal.start_next-requires-clause-at
start_next-requires-clause-at g c = (_, c.requires.draft)

pub returns-clause-entry : goal.returns-clause-entry
returns-clause-entry g c =
    let e = c.start_next.ensures.entry in
    (e.0, adds g.F.Fixtures.calls g.F.Fixtures.faults g.M.ModuleSet.plan g.M.ModuleSet.change c.args.self.now _ _ e.1 (started_rises c.args.draft.now.left.number c.args.draft.now.left.started e.0 _ _ c.start_next.result c.start_next.ensures.later c.start_next.ensures.cause) (λ o l h. tt) (shelf_plain g.F.Fixtures.calls g.F.Fixtures.faults g.M.ModuleSet.plan g.M.ModuleSet.change c.args.self.now _ _ refl refl refl refl))

pub returns-clause-draft : goal.returns-clause-draft
returns-clause-draft g c = c.start_next.ensures.at _ c.requires.draft
