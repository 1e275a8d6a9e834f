use Rattle.std.proofs.Common.{◌≡◌, length}
use Rattle.cd_text.specs.Escapes.{escapes_are_whole}
use Rattle.cd_text.proofs.escapes.escapes_are_whole.Given as goal

-- what is left decides
abbrev pub invariant-loop-text : goal.invariant-loop-text
invariant-loop-text l = escapes_are_whole l.text ≡ escapes_are_whole l.fn.text

abbrev pub decreases-loop-text : goal.decreases-loop-text
decreases-loop-text l = length l.text
