use Rattle.std.proofs.Common.{◌≡◌, map}
use Rattle.cd_parts.specs.Measures.{member_of}
use Rattle.cd_parts.proofs.measured.members_of.Given as goal

abbrev pub invariant-loop-part : goal.invariant-loop-part
invariant-loop-part l = l.members ≡ map member_of l.yielded
