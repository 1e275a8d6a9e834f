use Rattle.std.proofs.Common.{◌≡◌, ℕ, ◌<◌, ◌≤◌, length, get_or, false}
use Rattle.cd_fill.specs.Filling.{open_brace}
use Rattle.cd_fill.proofs.filling.last_open.Given as goal

abbrev pub invariant-loop-end : goal.invariant-loop-end
invariant-loop-end l = (l.end ≤ length l.piece) × ((k : ℕ) → l.end ≤ k → k < length l.piece → open_brace (get_or l.piece k 0) ≡ false)

abbrev pub decreases-loop-end : goal.decreases-loop-end
decreases-loop-end l = l.end
