use Rattle.std.proofs.Common.{◌≡◌, length}
use Rattle.std.specs.Str.{str_to_ascii_lowercase}
use Rattle.cd_module.specs.Patterns.{stands_in}
use Rattle.cd_module.proofs.pattern.stands_in_any_case.Given as goal

abbrev pub invariant-loop-rest : goal.invariant-loop-rest
invariant-loop-rest l =
    stands_in (str_to_ascii_lowercase l.part) (str_to_ascii_lowercase l.text)
    ≡ stands_in (str_to_ascii_lowercase l.part) (str_to_ascii_lowercase l.rest)

abbrev pub decreases-loop-rest : goal.decreases-loop-rest
decreases-loop-rest l = length l.rest
