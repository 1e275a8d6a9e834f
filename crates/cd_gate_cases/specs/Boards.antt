-- What a board stands for.
use Rattle.std.specs.Prelude.{◌≡◌, true, List, [], ◌∷◌}
use Rattle.cd_legal.specs.declared.entry.Signed.{Signed}
use Rattle.cd_legal.specs.declared.state.State.{State}
use Rattle.cd_legal.specs.Legal.{state_at}
use Rattle.cd_legal.specs.State.{opening_state}
use Rattle.cd_gate_cases.specs.declared.board.Board.{Board}
use Rattle.cd_gate_cases.specs.declared.board.Board.TheVariants.{Running, Halted, Retired}

-- the state of the host
abbrev pub state_on : Board → State
state_on Running = opening_state
state_on Halted = record opening_state { serial = 1; halted = true }
state_on Retired = record opening_state { serial = 1; halted = true; retired = 0 ∷ [] }

-- the history leaves it
abbrev pub StandsFor : Board → List Signed → Type 0
StandsFor board log = state_at log ≡ state_on board
