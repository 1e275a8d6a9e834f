-- What a pass has at hand in its turn.
use Rattle.std.specs.Prelude.{◌≡◌, false, true, List}
use Rattle.cd_legal.specs.declared.entry.Signed.{Signed}
use Rattle.cd_legal.specs.Legal.{state_at}
use Rattle.cd_legal.specs.Whole.{nothing_left}
use Rattle.cd_gate.specs.declared.gate.Gate.{Gate}
use Rattle.cd_gate.specs.declared.pass.Pass.{Pass}
use Rattle.cd_gate.specs.declared.pass.Turn.{Turn}
use Rattle.cd_gate.specs.Passes.{view}
use Rattle.cd_desk.specs.declared.closing.Closing.{Closing}
use Rattle.cd_desk.specs.Closings.{IsClosing}
use Rattle.cd_life.specs.declared.board.Board.{Board}
use Rattle.cd_life.specs.declared.board.Draft.{Draft}
use Rattle.cd_hall.specs.Drafts.{IsDraftOf, held}
use Rattle.cd_hall.specs.Turns.{InTurn}

-- its draft, of which every key could be opened, while nothing is left to be stopped or cleaned
pub record HasDraftInTurn {T A B : Type 0} {k : _} (stands : T → T → List Signed → Type 0) (g : Gate T) (t : Turn T) (p : Pass T) (d : Draft A B k) : Type 0 where
  pub turn : InTurn stands g t p
  pub draft : IsDraftOf (view p) d
  pub unfailed : (held d).failed ≡ false
  pub left : nothing_left (state_at (view p).seen) ≡ true

-- what is left to be ended of a draft, by the board in hand
pub record HasClosingInTurn {A F B : Type 0} {k : _} (stands : Board A F B k → Board A F B k → List Signed → Type 0) (g : Gate (Board A F B k)) (t : Turn (Board A F B k)) (p : Pass (Board A F B k)) (c : Closing) : Type 0 where
  pub turn : InTurn stands g t p
  pub at : IsClosing t.value.desk c
