use Rattle.std.proofs.Common.{◌≡◌, drop}
use Rattle.cd_legal.specs.State.{has_number}
use Rattle.cd_legal.proofs.conditions.has_number.Given as goal

abbrev pub invariant-loop-other : goal.invariant-loop-other
invariant-loop-other l = has_number l.number (drop l.other-index l.numbers) ≡ has_number l.number l.numbers
