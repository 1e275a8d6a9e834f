use Rattle.std.proofs.Common.{◌≡◌, ◌≤◌, ◌-◌, ◌^◌, max, min, map, drop}
use Rattle.cd_tree.specs.Tree.{largest}
use Rattle.cd_parts.specs.declared.measured.Measured.{Measured}
use Rattle.cd_parts.proofs.measured.deepest_item.Given as goal

abbrev pub invariant-loop-item : goal.invariant-loop-item
invariant-loop-item l = record {
  within : l.deepest ≤ 2 ^ 64 - 1;
  so_far : min (max l.deepest (largest (map (λ (m : Measured). m.depth) (drop l.item-index l.items)))) (2 ^ 64 - 1) ≡ min (largest (map (λ (m : Measured). m.depth) l.items)) (2 ^ 64 - 1);
}
