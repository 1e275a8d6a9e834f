use Rattle.std.proofs.Common.{◌≡◌, map}
use Rattle.cd_ids.specs.Walk.{walk, walk_member, in_elements, in_members}
use Rattle.cd_ids.specs.Noting.{noted}
use Rattle.cd_ids.proofs.Loops.{elements_left, members_left}
use Rattle.cd_ids.proofs.walk.+walk.Given as goal

abbrev pub invariant-walk_items-loop-place : goal.invariant-walk_items-loop-place
invariant-walk_items-loop-place g l = noted g.N.Notes.with l.notes (elements_left l.item-items l.place l.at) ≡ noted g.N.Notes.with l.initial.notes (in_elements 0 (map walk l.item-items) l.at)

abbrev pub invariant-walk_members-loop-member : goal.invariant-walk_members-loop-member
invariant-walk_members-loop-member g l = noted g.N.Notes.with l.notes (members_left l.member-items l.member-index l.at) ≡ noted g.N.Notes.with l.initial.notes (in_members (map walk_member l.member-items) l.at)
