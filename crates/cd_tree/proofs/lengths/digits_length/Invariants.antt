use Rattle.std.proofs.Common.{◌≡◌, ◌<◌, ◌+◌, ◌^◌, length, decimal}
use Rattle.cd_tree.proofs.lengths.digits_length.Given as goal

abbrev pub invariant-loop-left : goal.invariant-loop-left
invariant-loop-left l = record {
  below : l.left < 2 ^ 64;
  so_far : l.length + length (decimal l.left) ≡ 1 + length (decimal l.number);
}

abbrev pub decreases-loop-left : goal.decreases-loop-left
decreases-loop-left l = l.left
