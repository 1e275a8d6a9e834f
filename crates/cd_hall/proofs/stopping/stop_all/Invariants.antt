use Rattle.std.proofs.Common.{◌≡◌}
use Rattle.cd_legal.specs.Runs.{stopped_all}
use Rattle.cd_gate.specs.Passes.{view}
use Rattle.cd_desk.specs.Closings.{IsClosing, MayClean}
use Rattle.cd_life.specs.Standing.{Stood}
use Rattle.cd_hall.specs.Turns.{InTurn}
use Rattle.cd_hall.proofs.OneByOne.{GoesSoFar}
use Rattle.cd_hall.proofs.stopping.stop_all.Given as goal

abbrev pub invariant-loop-left : goal.invariant-loop-left
invariant-loop-left g l = record {
  count : l.left ≡ l.closing.apps;
  turn : InTurn (Stood g.F.Fixtures.calls g.F.Fixtures.faults g.M.ModuleSet.plan g.M.ModuleSet.change) l.gate l.turn l.pass;
  goes : GoesSoFar (view l.fn.pass) (view l.pass) (stopped_all l.fn.closing.number l.fn.closing.apps) (stopped_all l.closing.number l.closing.apps);
  unsettled : (view l.pass).unsettled ≡ (view l.fn.pass).unsettled;
  closing : record l.closing { apps = 0 } ≡ record l.fn.closing { apps = 0 };
  at : IsClosing l.turn.value.desk l.closing;
  clean : MayClean l.fn.turn.value.desk.books l.fn.closing.number → MayClean l.turn.value.desk.books l.fn.closing.number;
}

abbrev pub decreases-loop-left : goal.decreases-loop-left
decreases-loop-left g l = l.left
