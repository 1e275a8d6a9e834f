use Rattle.std.proofs.Common.{◌≡◌, ◌-◌, rules, refl}
use Rattle.cd_life.proofs.Standings.{adds, calm, shelf_abandon}
use Rattle.cd_life.proofs.board.Board.abandon.Goals as goal

pub abandon-closing-requires : goal.abandon-closing-requires
abandon-closing-requires g c = (_, c.requires)

pub returns-clause-entry : goal.returns-clause-entry
returns-clause-entry g c =
    let live : c.saturating_sub-self.result ≡ c.args.self.now.live - 1 = search rules in
    adds g.F.Fixtures.calls g.F.Fixtures.faults g.M.ModuleSet.plan g.M.ModuleSet.change c.args.self.now _ _ c.abandon-closing.ensures.entry (calm _ _ c.abandon-closing.ensures.faults) (λ o log h. tt) (shelf_abandon g.F.Fixtures.calls g.F.Fixtures.faults g.M.ModuleSet.plan g.M.ModuleSet.change c.args.self.now _ _ refl live)
