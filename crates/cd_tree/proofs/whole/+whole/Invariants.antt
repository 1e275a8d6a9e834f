use Rattle.std.proofs.Common.{◌≡◌, map, drop}
use Rattle.std.specs.List.{list_all}
use Rattle.cd_tree.specs.Marked.{is_whole, member_whole}
use Rattle.cd_tree.proofs.whole.+whole.Given as goal

abbrev pub invariant-are_whole_items-loop-item : goal.invariant-are_whole_items-loop-item
invariant-are_whole_items-loop-item l = list_all (λ b. b) (map is_whole (drop l.item-index l.item-items)) ≡ list_all (λ b. b) (map is_whole l.item-items)

abbrev pub invariant-are_whole_members-loop-member : goal.invariant-are_whole_members-loop-member
invariant-are_whole_members-loop-member l = list_all (λ b. b) (map member_whole (drop l.member-index l.member-items)) ≡ list_all (λ b. b) (map member_whole l.member-items)
