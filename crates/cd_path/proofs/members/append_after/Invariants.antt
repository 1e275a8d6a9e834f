use Rattle.std.proofs.Common.{◌≡◌, ◌++◌, drop, filter}
use Rattle.cd_path.specs.Members.{is_after}
use Rattle.cd_path.proofs.members.append_after.Given as goal

abbrev pub invariant-loop-member : goal.invariant-loop-member
invariant-loop-member l = l.made ++ filter (is_after l.key) (drop l.member-index l.members) ≡ l.initial.made ++ filter (is_after l.key) l.members
