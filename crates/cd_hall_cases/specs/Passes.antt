-- What is known of a pass whose thread is done.
use Rattle.std.specs.Prelude.{◌≡◌, ℕ, true, [], None}
use Rattle.cd_legal.specs.Legal.{state_at}
use Rattle.cd_gate.specs.declared.pass.Pass.{Pass}
use Rattle.cd_gate.specs.Passes.{view}
use Rattle.cd_life.specs.declared.board.Board.{Board}
use Rattle.cd_hall.specs.declared.hall.Hall.{Hall}
use Rattle.cd_pair.specs.Passes.{Has}

-- that of number 0 has seen the halt
pub record HasServed {A F B : Type 0} {g : _} (h : Hall A F B g) (p : Pass (Board A F B g)) (k : ℕ) : Type 0 where
  pub has : Has h p k None None []
  pub halted : k ≡ 0 → (state_at (view p).seen).halted ≡ true
