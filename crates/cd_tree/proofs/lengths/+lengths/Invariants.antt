use Rattle.std.proofs.Common.{◌≡◌, ◌≤◌, ◌+◌, ◌-◌, ◌^◌, min, map, drop}
use Rattle.cd_tree.specs.Lengths.{weight, member_weight, commas}
use Rattle.cd_tree.proofs.lengths.+lengths.Given as goal

abbrev pub invariant-items_length-loop-item : goal.invariant-items_length-loop-item
invariant-items_length-loop-item l = record {
  within : l.length ≤ 2 ^ 64 - 1;
  so_far : min (l.length + commas (map weight (drop l.item-index l.item-items))) (2 ^ 64 - 1) ≡ min (commas (map weight l.item-items)) (2 ^ 64 - 1);
}

abbrev pub invariant-members_length-loop-member : goal.invariant-members_length-loop-member
invariant-members_length-loop-member l = record {
  within : l.length ≤ 2 ^ 64 - 1;
  so_far : min (l.length + commas (map member_weight (drop l.member-index l.member-items))) (2 ^ 64 - 1) ≡ min (commas (map member_weight l.member-items)) (2 ^ 64 - 1);
}
