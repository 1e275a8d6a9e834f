use Rattle.std.proofs.Common.{◌≡◌, ◌<◌}
use Rattle.cd_legal.specs.Runs.{cleaned_all}
use Rattle.cd_gate.specs.Passes.{view}
use Rattle.cd_desk.specs.Closings.{IsClosing, MayClean}
use Rattle.cd_life.specs.Standing.{Stood}
use Rattle.cd_hall.specs.Turns.{InTurn}
use Rattle.cd_hall.proofs.OneByOne.{GoesSoFar}
use Rattle.cd_hall.proofs.stopping.clean_all.Given as goal

abbrev pub invariant-loop-left : goal.invariant-loop-left
invariant-loop-left g l = record {
  count : l.left ≡ l.closing.instances;
  turn : InTurn (Stood g.F.Fixtures.calls g.F.Fixtures.faults g.M.ModuleSet.plan g.M.ModuleSet.change) l.gate l.turn l.pass;
  goes : GoesSoFar (view l.fn.pass) (view l.pass) (cleaned_all l.fn.closing.number l.fn.closing.instances) (cleaned_all l.closing.number l.closing.instances);
  unsettled : (view l.pass).unsettled ≡ (view l.fn.pass).unsettled;
  closing : record l.closing { instances = 0 } ≡ record l.fn.closing { instances = 0 };
  at : IsClosing l.turn.value.desk l.closing;
  stopped : l.closing.apps ≡ 0;
  may : 0 < l.closing.instances → MayClean l.turn.value.desk.books l.closing.number;
}

abbrev pub decreases-loop-left : goal.decreases-loop-left
decreases-loop-left g l = l.left
