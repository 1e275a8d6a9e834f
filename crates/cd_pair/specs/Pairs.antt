-- What is known of the two passes of a hall between scenes.
use Rattle.std.specs.Prelude.{[], None}
use Rattle.cd_life.specs.declared.board.Board.{Board}
use Rattle.cd_hall.specs.declared.hall.Hall.{Hall}
use Rattle.cd_pair.specs.declared.stage.Pair.{Pair}
use Rattle.cd_pair.specs.Passes.{Has}

-- they are the passes of number 0 and 1 of the hall, without a ticket, a draft and a duty
pub record AreIdle {A F B : Type 0} {g : _} (h : Hall A F B g) (pair : Pair (Board A F B g)) : Type 0 where
  pub one : Has h pair.one 0 None None []
  pub two : Has h pair.two 1 None None []
