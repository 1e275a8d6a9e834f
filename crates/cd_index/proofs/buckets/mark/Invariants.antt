use Rattle.std.proofs.Common.{◌≡◌, ℕ, ◌+◌, ◌-◌, true, false, length, get_or}
use Rattle.cd_index.proofs.buckets.mark.Given as goal

abbrev pub invariant-loop-lengths : goal.invariant-loop-lengths
invariant-loop-lengths l = (k : ℕ) → get_or l.fn.lengths.items k false ≡ true → get_or l.lengths.items k false ≡ true

abbrev pub decreases-loop-lengths : goal.decreases-loop-lengths
decreases-loop-lengths l = (l.long + 1) - length l.lengths.items
