-- What a pass of the hall knows in its turn.
use Rattle.std.specs.Prelude.{List}
use Rattle.cd_legal.specs.declared.entry.Signed.{Signed}
use Rattle.cd_legal.specs.Laws.{core_at}
use Rattle.cd_gate.specs.declared.gate.Gate.{Gate}
use Rattle.cd_gate.specs.declared.pass.Pass.{Pass}
use Rattle.cd_gate.specs.declared.pass.Turn.{Turn}
use Rattle.cd_gate.specs.Knowing.{Knows}
use Rattle.cd_gate.specs.Passes.{view, HasTurnOf, opening_of}

-- a pass that has the turn, knows the history, and has in hand a board that stands for it without Begin and Finish
pub record InTurn {T : Type 0} (stands : T → T → List Signed → Type 0) (g : Gate T) (t : Turn T) (p : Pass T) : Type 0 where
  pub turn : HasTurnOf g p
  pub knows : Knows (view p)
  pub board : stands (opening_of g) t.value (core_at (view p).seen)
