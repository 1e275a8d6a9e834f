use Rattle.std.proofs.Common.{◌≡◌, map, drop}
use Rattle.cd_caddyfile.specs.Sites.{no_tests}
use Rattle.cd_parts.specs.Gathered.{gathered}
use Rattle.cd_parts.specs.Lines.{and_lines}
use Rattle.cd_parts.proofs.matchers.tests_in.Given as goal

abbrev pub invariant-loop-line : goal.invariant-loop-line
invariant-loop-line l = and_lines (gathered l.tests) (map (λ r. r.now) (drop l.line-index l.lines)) ≡ and_lines no_tests (map (λ r. r.now) l.lines)
