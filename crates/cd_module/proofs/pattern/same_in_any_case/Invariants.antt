use Rattle.std.proofs.Common.{◌≡◌, length}
use Rattle.std.specs.Str.{str_eq_ignore_ascii_case}
use Rattle.cd_module.proofs.pattern.same_in_any_case.Given as goal

abbrev pub invariant-loop-left : goal.invariant-loop-left
invariant-loop-left l = str_eq_ignore_ascii_case l.one l.other ≡ str_eq_ignore_ascii_case l.left l.right

abbrev pub decreases-loop-left : goal.decreases-loop-left
decreases-loop-left l = length l.left
