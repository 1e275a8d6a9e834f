use Rattle.std.proofs.Common.{◌≡◌, ◌≤◌, ◌+◌, ◌-◌, ◌^◌, min, map, drop}
use Rattle.cd_tree.specs.Lengths.{commas}
use Rattle.cd_parts.specs.Measures.{part_length}
use Rattle.cd_parts.proofs.measured.parts_length.Given as goal

abbrev pub invariant-loop-part : goal.invariant-loop-part
invariant-loop-part l = record {
  within : l.length ≤ 2 ^ 64 - 1;
  so_far : min (l.length + commas (map part_length (drop l.part-index l.parts))) (2 ^ 64 - 1) ≡ min (commas (map part_length l.parts)) (2 ^ 64 - 1);
}
