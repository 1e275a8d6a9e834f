use Rattle.std.proofs.Common.{◌≡◌, ◌++◌, length}
use Rattle.cd_fill.specs.Filling.{filled_as}
use Rattle.cd_fill.proofs.filling.fill_as.Given as goal

abbrev pub invariant-loop-piece : goal.invariant-loop-piece
invariant-loop-piece l = filled_as l.form l.scene l.text ≡ l.out ++ filled_as l.form l.scene l.rest

abbrev pub decreases-loop-piece : goal.decreases-loop-piece
decreases-loop-piece l = length l.rest
