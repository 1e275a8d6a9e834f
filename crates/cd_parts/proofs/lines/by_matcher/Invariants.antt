use Rattle.std.proofs.Common.{◌≡◌, ℕ, take}
use Rattle.std.specs.List.{filter}
use Rattle.cd_parts.specs.Lines.{is_of, lines_at}
use Rattle.cd_parts.proofs.lines.by_matcher.Given as goal

abbrev pub invariant-loop-test : goal.invariant-loop-test
invariant-loop-test l = (matcher : ℕ) → lines_at l.found matcher ≡ filter (is_of matcher) (take l.test-index l.tested)
