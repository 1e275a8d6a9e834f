use Rattle.std.proofs.Common.{rules, ap, ◌∙◌}
use Rattle.cd_legal.specs.Laws.{core_at}
use Rattle.cd_legal.specs.Legal.{state_at}
use Rattle.cd_gate.specs.Passes.{view, opening_of}
use Rattle.cd_desk.specs.declared.closing.Closing.{Closing}
use Rattle.cd_life.specs.Standing.{Stood}
use Rattle.cd_hall.proofs.Bare.{low_core, stopped_core, retired_core}
use Rattle.cd_hall.proofs.Requested.{kept_turn}
use Rattle.cd_hall.proofs.GivenUp.{same_turn}
use Rattle.cd_hall.proofs.Retirable.{is_below, no_app_left}
use Rattle.cd_hall.proofs.superseding.clean_retired.Goals as goal

pub superseded-closing-requires : goal.superseded-closing-requires
superseded-closing-requires g c =
    (search rules, (search rules, is_below g.F.Fixtures.calls (opening_of c.args.gate.now).desk c.args.turn.now.value.desk (core_at (view c.args.pass.now).seen) c.requires.turn.board.desk c.args.serial (low_core (view c.args.pass.now).seen c.args.serial c.requires.retired.superseded)))

pub clean_all-requires-clause-closing : goal.clean_all-requires-clause-closing
clean_all-requires-clause-closing g c κs within = record {
  turn = same_turn (Stood g.F.Fixtures.calls g.F.Fixtures.faults g.M.ModuleSet.plan g.M.ModuleSet.change) c.args.gate.now c.args.turn.now _ c.args.pass.now c.requires.turn c.superseded-closing.ensures.same;
  at = c.superseded-closing.ensures.at;
}

pub clean_all-requires-clause-stopped : goal.clean_all-requires-clause-stopped
clean_all-requires-clause-stopped g c κs within =
    no_app_left (state_at (core_at (view c.args.pass.now).seen)) c.args.serial c.superseded-closing.result
    (c.superseded-closing.ensures.left (opening_of c.args.gate.now) (core_at (view c.args.pass.now).seen)
    (same_turn (Stood g.F.Fixtures.calls g.F.Fixtures.faults g.M.ModuleSet.plan g.M.ModuleSet.change) c.args.gate.now c.args.turn.now (record c.args.turn.now { value = c.superseded-closing.new.self }) c.args.pass.now c.requires.turn c.superseded-closing.ensures.same).board)
    (stopped_core (view c.args.pass.now).seen c.args.serial ∙ c.requires.retired.stopped)

pub clean_all-requires-clause-may : goal.clean_all-requires-clause-may
clean_all-requires-clause-may g c κs within more =
    c.superseded-closing.ensures.clean (opening_of c.args.gate.now) (core_at (view c.args.pass.now).seen)
    (same_turn (Stood g.F.Fixtures.calls g.F.Fixtures.faults g.M.ModuleSet.plan g.M.ModuleSet.change) c.args.gate.now c.args.turn.now (record c.args.turn.now { value = c.superseded-closing.new.self }) c.args.pass.now c.requires.turn c.superseded-closing.ensures.same).board
    (retired_core (view c.args.pass.now).seen c.args.serial ∙ c.requires.retired.retired) more

pub closed-requires-clause-apps : goal.closed-requires-clause-apps
closed-requires-clause-apps g c κs within =
    ap (λ (z : Closing). z.apps) c.clean_all.ensures.closing
    ∙ no_app_left (state_at (core_at (view c.args.pass.now).seen)) c.args.serial c.superseded-closing.result
    (c.superseded-closing.ensures.left (opening_of c.args.gate.now) (core_at (view c.args.pass.now).seen)
    (same_turn (Stood g.F.Fixtures.calls g.F.Fixtures.faults g.M.ModuleSet.plan g.M.ModuleSet.change) c.args.gate.now c.args.turn.now (record c.args.turn.now { value = c.superseded-closing.new.self }) c.args.pass.now c.requires.turn c.superseded-closing.ensures.same).board)
    (stopped_core (view c.args.pass.now).seen c.args.serial ∙ c.requires.retired.stopped)

pub closed-requires-clause-instances : goal.closed-requires-clause-instances
closed-requires-clause-instances g c κs within = ap (λ (z : Closing). z.instances) c.clean_all.ensures.closing

pub returns-clause-turn : goal.returns-clause-turn
returns-clause-turn g c = kept_turn g.F.Fixtures.calls g.F.Fixtures.faults g.M.ModuleSet.plan g.M.ModuleSet.change c.args.gate.now c.clean_all.new.turn c.clean_all.new.pass c.clean_all.ensures.turn _ c.closed.ensures.keeps

pub returns-clause-cleans : goal.returns-clause-cleans
returns-clause-cleans g c = (
  c.superseded-closing.result,
  c.superseded-closing.ensures.left (opening_of c.args.gate.now) (core_at (view c.args.pass.now).seen)
      (same_turn (Stood g.F.Fixtures.calls g.F.Fixtures.faults g.M.ModuleSet.plan g.M.ModuleSet.change) c.args.gate.now c.args.turn.now (record c.args.turn.now { value = c.superseded-closing.new.self }) c.args.pass.now c.requires.turn c.superseded-closing.ensures.same).board,
  c.clean_all.ensures.goes,
)
