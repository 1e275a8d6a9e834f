use Rattle.std.proofs.Common.{refl}
use Rattle.cd_life.proofs.Standings.{adds, made_rises, shelf_plain}
use Rattle.cd_life.proofs.board.Board.make.Goals as goal

pub make_next-requires-clause-at : goal.make_next-requires-clause-at
make_next-requires-clause-at g c = (_, c.requires.draft)

pub returns-clause-entry : goal.returns-clause-entry
returns-clause-entry g c =
    let e = c.make_next.ensures.entry in
    (e.0, adds g.F.Fixtures.calls g.F.Fixtures.faults g.M.ModuleSet.plan g.M.ModuleSet.change c.args.self.now _ _ e.1 (made_rises c.args.draft.now.left.number c.args.draft.now.left.made e.0 _ _ c.make_next.result c.make_next.ensures.later c.make_next.ensures.cause) (λ o l h. tt) (shelf_plain g.F.Fixtures.calls g.F.Fixtures.faults g.M.ModuleSet.plan g.M.ModuleSet.change c.args.self.now _ _ refl refl refl refl))

pub returns-clause-draft : goal.returns-clause-draft
returns-clause-draft g c = c.make_next.ensures.at _ c.requires.draft
