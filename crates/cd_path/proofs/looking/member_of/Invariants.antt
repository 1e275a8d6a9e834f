use Rattle.std.proofs.Common.{◌≡◌, drop}
use Rattle.cd_path.specs.Looking.{member_at}
use Rattle.cd_path.proofs.looking.member_of.Given as goal

abbrev pub invariant-loop-member : goal.invariant-loop-member
invariant-loop-member l = member_at l.key (drop l.member-index l.member-items) ≡ member_at l.key l.member-items
