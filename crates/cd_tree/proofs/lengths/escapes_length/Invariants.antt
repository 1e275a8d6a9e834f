use Rattle.std.proofs.Common.{◌≡◌, ◌≤◌, ◌+◌, ◌-◌, ◌^◌, min, drop}
use Rattle.cd_tree.specs.Lengths.{more}
use Rattle.cd_tree.proofs.lengths.escapes_length.Given as goal

abbrev pub invariant-loop-byte : goal.invariant-loop-byte
invariant-loop-byte l = record {
  within : l.length ≤ 2 ^ 64 - 1;
  so_far : min (l.length + more (drop l.byte-index l.bytes)) (2 ^ 64 - 1) ≡ min (more l.bytes) (2 ^ 64 - 1);
}
