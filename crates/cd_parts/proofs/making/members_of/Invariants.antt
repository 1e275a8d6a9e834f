use Rattle.std.proofs.Common.{◌≡◌, map}
use Rattle.cd_parts.specs.Making.{rolled}
use Rattle.cd_parts.proofs.making.members_of.Given as goal

abbrev pub invariant-loop-entry : goal.invariant-loop-entry
invariant-loop-entry l = l.members ≡ map rolled l.yielded
