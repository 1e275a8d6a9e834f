use Rattle.std.proofs.Common.{◌≡◌, map, take}
use Rattle.cd_parts.specs.Lines.{lines_at, set_from}
use Rattle.cd_parts.proofs.matchers.named_sets.Given as goal

abbrev pub invariant-loop-matcher : goal.invariant-loop-matcher
invariant-loop-matcher l = l.sets ≡ map (λ d. set_from (lines_at l.lines d.line) d) (take l.matcher-index l.defined)
