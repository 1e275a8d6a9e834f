-- Passes that were told what others have seen.
use Rattle.std.proofs.Common.{◌≡◌, ℕ, ap, ◌∙◌}
use Rattle.cd_gate.specs.declared.pass.Pass.{Pass}
use Rattle.cd_gate.specs.Passes.{view}
use Rattle.cd_gate.specs.Words.{owed}
use Rattle.cd_life.specs.declared.board.Board.{Board}
use Rattle.cd_hall.specs.declared.hall.Hall.{Hall}
use Rattle.cd_hall.specs.Calls.{IsPassOf}
use Rattle.cd_host.specs.Seats.{IsIdleAt, IsUnused}

module _ {A F B : Type 0} {g : _} (h : Hall A F B g) where
  pub told-idle : (k : ℕ) (old new : Pass (Board A F B g)) → IsIdleAt h k old → IsPassOf h new → view new ≡ record (view old) { seen = (view new).seen } → IsIdleAt h k new
  told-idle k old new idle is same = record { is = is; number = ap (λ v. v.number) same ∙ idle.number; free = (ap owed same ∙ idle.free.0, ap (λ v. v.duties) same ∙ idle.free.1) }

  pub told-unused : (k : ℕ) (old new : Pass (Board A F B g)) → IsUnused h k old → IsPassOf h new → view new ≡ record (view old) { seen = (view new).seen } → IsUnused h k new
  told-unused k old new unused is same = record { idle = told-idle k old new unused.idle is same; mine = ap (λ v. v.mine) same ∙ unused.mine }
