use Rattle.std.proofs.Common.{◌≡◌, length}
use Rattle.cd_module.specs.Patterns.{stands_in}
use Rattle.cd_module.proofs.pattern.stands_in.Given as goal

abbrev pub invariant-loop-rest : goal.invariant-loop-rest
invariant-loop-rest l = stands_in l.part l.text ≡ stands_in l.part l.rest

abbrev pub decreases-loop-rest : goal.decreases-loop-rest
decreases-loop-rest l = length l.rest
