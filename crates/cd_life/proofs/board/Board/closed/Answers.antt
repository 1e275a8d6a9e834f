use Rattle.std.proofs.Common.{refl, ap, arith}
use Rattle.cd_life.proofs.Standings.{keeps, shelf_same}
use Rattle.cd_life.proofs.board.Board.closed.Goals as goal

pub returns-clause-keeps : goal.returns-clause-keeps
returns-clause-keeps g c =
    let w = record c.args.self.now { desk = c.closed.new.self } in
    keeps g.F.Fixtures.calls g.F.Fixtures.faults g.M.ModuleSet.plan g.M.ModuleSet.change c.args.self.now w c.closed.ensures.keeps (ap (λ z. g.F.Fixtures.faults z.fixtures) c.closed.ensures.same) (shelf_same c.args.self.now w refl refl (omega arith) refl)

pub returns-clause-same : goal.returns-clause-same
returns-clause-same g c = ap (λ z. record c.args.self.now { desk = z }) c.closed.ensures.same
