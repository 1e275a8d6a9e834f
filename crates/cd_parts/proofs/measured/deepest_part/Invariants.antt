use Rattle.std.proofs.Common.{◌≡◌, ◌≤◌, ◌-◌, ◌^◌, max, min, map, drop}
use Rattle.cd_tree.specs.Tree.{largest}
use Rattle.cd_parts.specs.declared.measured.Part.{Part}
use Rattle.cd_parts.proofs.measured.deepest_part.Given as goal

abbrev pub invariant-loop-part : goal.invariant-loop-part
invariant-loop-part l = record {
  within : l.deepest ≤ 2 ^ 64 - 1;
  so_far : min (max l.deepest (largest (map (λ (part : Part). part.value.depth) (drop l.part-index l.parts)))) (2 ^ 64 - 1) ≡ min (largest (map (λ (part : Part). part.value.depth) l.parts)) (2 ^ 64 - 1);
}
