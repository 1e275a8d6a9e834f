-- What calls of the hall tell.
use Rattle.std.specs.Prelude.{◌≡◌, ℕ, false, true, List, [], ◌∷◌, Option, Some, None}
use Rattle.cd_legal.specs.Legal.{state_at}
use Rattle.cd_legal.specs.Signing.{IsHistory}
use Rattle.cd_legal.specs.Whole.{nothing_left}
use Rattle.cd_gate.specs.declared.pass.Pass.{Pass}
use Rattle.cd_gate.specs.declared.view.View.{View}
use Rattle.cd_gate.specs.Passes.{view, IsIdleOf}
use Rattle.cd_life.specs.declared.board.Board.{Board}
use Rattle.cd_hall.specs.declared.duty.Duty.{Duty}
use Rattle.cd_hall.specs.declared.hall.Hall.{Hall}

-- the serials of the duties that came
abbrev pub duties_in : Option Duty → List ℕ
duties_in None = []
duties_in (Some duty) = duty.serial ∷ []

-- a pass of the hall without the turn, which has seen a history. It has not looked for room for a request that it has not begun
pub record IsPassOf {A F B : Type 0} {g : _} (h : Hall A F B g) (p : Pass (Board A F B g)) : Type 0 where
  pub idle : IsIdleOf h.gate p
  pub unchecked : (view p).checked ≡ false
  pub history : IsHistory (view p).seen

-- no duty came, nothing is left to be stopped or cleaned, and each superseded serial is settled as before
pub record StaysCalm {T : Type 0} (v w : View T) : Type 0 where
  pub duties : w.duties ≡ v.duties
  pub unsettled : w.unsettled ≡ v.unsettled
  pub left : nothing_left (state_at w.seen) ≡ true
