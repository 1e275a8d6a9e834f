use Rattle.std.proofs.Common.{rules, ap, ◌∙◌}
use Rattle.cd_legal.specs.Laws.{core_at}
use Rattle.cd_gate.specs.Passes.{view, opening_of}
use Rattle.cd_desk.specs.declared.closing.Closing.{Closing}
use Rattle.cd_life.specs.Standing.{Stood}
use Rattle.cd_hall.proofs.Bare.{low_core}
use Rattle.cd_hall.proofs.GivenUp.{same_turn}
use Rattle.cd_hall.proofs.Retirable.{is_below}
use Rattle.cd_hall.proofs.superseding.stop_superseded.Goals as goal

pub superseded-closing-requires : goal.superseded-closing-requires
superseded-closing-requires g c =
    (search rules, (search rules, is_below g.F.Fixtures.calls (opening_of c.args.gate.now).desk c.args.turn.now.value.desk (core_at (view c.args.pass.now).seen) c.requires.turn.board.desk c.args.serial (low_core (view c.args.pass.now).seen c.args.serial c.requires.superseded)))

pub stop_all-requires-clause-closing : goal.stop_all-requires-clause-closing
stop_all-requires-clause-closing g c κs within = record {
  turn = same_turn (Stood g.F.Fixtures.calls g.F.Fixtures.faults g.M.ModuleSet.plan g.M.ModuleSet.change) c.args.gate.now c.args.turn.now _ c.args.pass.now c.requires.turn c.superseded-closing.ensures.same;
  at = c.superseded-closing.ensures.at;
}

pub put_back-requires : goal.put_back-requires
put_back-requires g c = (search rules, (search rules, ap (λ (z : Closing). z.serial) c.stop_all.ensures.closing ∙ c.superseded-closing.ensures.serial))

pub returns-clause-turn : goal.returns-clause-turn
returns-clause-turn g c = same_turn (Stood g.F.Fixtures.calls g.F.Fixtures.faults g.M.ModuleSet.plan g.M.ModuleSet.change) c.args.gate.now c.stop_all.new.turn _ c.stop_all.new.pass c.stop_all.ensures.turn c.put_back.ensures

pub returns-clause-stops : goal.returns-clause-stops
returns-clause-stops g c = (
  c.superseded-closing.result,
  c.superseded-closing.ensures.left (opening_of c.args.gate.now) (core_at (view c.args.pass.now).seen)
      (same_turn (Stood g.F.Fixtures.calls g.F.Fixtures.faults g.M.ModuleSet.plan g.M.ModuleSet.change) c.args.gate.now c.args.turn.now (record c.args.turn.now { value = c.superseded-closing.new.self }) c.args.pass.now c.requires.turn c.superseded-closing.ensures.same).board,
  c.stop_all.ensures.goes,
)
