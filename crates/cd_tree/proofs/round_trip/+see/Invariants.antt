use Rattle.std.proofs.Common.{◌≡◌, map, drop}
use Rattle.cd_text.specs.Steps.{joined}
use Rattle.cd_tree.specs.Tree.{tokens, member_tokens}
use Rattle.cd_tree.specs.Utf8.{are_text}
use Rattle.cd_tree.proofs.round_trip.+see.Given as goal

abbrev pub invariant-see_items-loop-item : goal.invariant-see_items-loop-item
invariant-see_items-loop-item l = are_text (joined (map tokens (drop l.item-index l.item-items))) ≡ are_text (joined (map tokens l.item-items))

abbrev pub invariant-see_members-loop-member : goal.invariant-see_members-loop-member
invariant-see_members-loop-member l = are_text (joined (map member_tokens (drop l.member-index l.member-items))) ≡ are_text (joined (map member_tokens l.member-items))
