use Rattle.std.proofs.Common.{◌≡◌, ◌≤◌, ◌+◌, ◌-◌, ◌^◌, min, map, drop}
use Rattle.cd_tree.specs.Lengths.{commas}
use Rattle.cd_parts.specs.declared.measured.Measured.{Measured}
use Rattle.cd_parts.proofs.measured.items_length.Given as goal

abbrev pub invariant-loop-item : goal.invariant-loop-item
invariant-loop-item l = record {
  within : l.length ≤ 2 ^ 64 - 1;
  so_far : min (l.length + commas (map (λ (m : Measured). m.length) (drop l.item-index l.items))) (2 ^ 64 - 1) ≡ min (commas (map (λ (m : Measured). m.length) l.items)) (2 ^ 64 - 1);
}
