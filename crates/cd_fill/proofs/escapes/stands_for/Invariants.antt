use Rattle.std.proofs.Common.{◌≡◌, length}
use Rattle.std.specs.Str.{bytes_eq}
use Rattle.cd_fill.specs.Values.{decoded}
use Rattle.cd_fill.proofs.escapes.stands_for.Given as goal

abbrev pub invariant-loop-character : goal.invariant-loop-character
invariant-loop-character l = bytes_eq (decoded l.raw) l.text ≡ bytes_eq (decoded l.left) l.wanted

abbrev pub decreases-loop-character : goal.decreases-loop-character
decreases-loop-character l = length l.left
