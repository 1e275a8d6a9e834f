use Rattle.std.proofs.Common.{◌≡◌, ◌-◌, List, sym, subst, rules, ◌∙◌}
use Rattle.cd_outside.specs.declared.fixtures.FixtureCall.{FixtureCall}
use Rattle.cd_outside.specs.Counts.{Covers}
use Rattle.cd_outside.specs.FixtureCall.{CallsGrow}
use Rattle.cd_legal.specs.Calls.{fixture_calls, failures}
use Rattle.cd_legal.specs.Entry.{entries}
use Rattle.cd_legal.specs.Laws.{core_at}
use Rattle.cd_gate.specs.Passes.{opening_of}
use Rattle.cd_life.specs.Standing.{Stood}
use Rattle.cd_hall.proofs.Cores.{fixture_calls-core, failures-core}
use Rattle.cd_hall.proofs.Ended.{ends_as, has_ended, published_is, all_fit, last_core}
use Rattle.cd_hall.proofs.hall.Hall.close.Goals as goal

pub end-fixtures-requires-after_bounds : goal.end-fixtures-requires-after_bounds
end-fixtures-requires-after_bounds g c κs within =
    let end = c.close-board.ensures in
    let stands = Stood g.F.Fixtures.calls g.F.Fixtures.faults g.M.ModuleSet.plan g.M.ModuleSet.change in
    let o = opening_of c.args.self.gate in
    (o, core_at end.log, end.board, has_ended stands o c.close-board.result c.args.passes.items c.requires.halted end)

pub returns : goal.returns
returns g c =
    let end = c.close-board.ensures in
    let stands = Stood g.F.Fixtures.calls g.F.Fixtures.faults g.M.ModuleSet.plan g.M.ModuleSet.change in
    let o = opening_of c.args.self.gate in
    let l = core_at end.log in
    let serial = c.serial.ensures.state o l end.board in
    let less : c.saturating_sub-published.result ≡ c.serial.result - 1 = search rules in (
      end.log,
      ends_as stands o c.close-board.result c.args.passes.items c.requires.halted end,
      all_fit g.M.ModuleSet.plan g.M.ModuleSet.change end.log end.board.fits,
      subst (λ f. CallsGrow (g.F.Fixtures.calls o.desk.fixtures) (fixture_calls (entries end.log)) (g.F.Fixtures.calls f)) (sym c.end-fixtures.ensures.fixtures)
          (subst (λ (calls : List FixtureCall). CallsGrow (g.F.Fixtures.calls o.desk.fixtures) calls (g.F.Fixtures.calls c.close-board.result.desk.fixtures)) (fixture_calls-core end.log) end.board.desk.agrees.told_on),
      subst (λ f. Covers (failures (entries end.log)) (g.F.Fixtures.faults o.desk.fixtures) (g.F.Fixtures.faults f) 0) (sym c.end-fixtures.ensures.fixtures)
          (subst (λ n. Covers n (g.F.Fixtures.faults o.desk.fixtures) (g.F.Fixtures.faults c.close-board.result.desk.fixtures) 0) (failures-core end.log) end.board.covered),
      c.end-fixtures.ensures.last o l end.board ∙ last_core end.log,
      published_is stands o c.close-board.result c.args.passes.items c.requires.halted end c.serial.result c.saturating_sub-published.result serial less,
    )
