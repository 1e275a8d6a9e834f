use Rattle.std.proofs.Common.{◌≤◌, ◌+◌, ℕ, List, length, drop}
use Rattle.cd_caddyfile.specs.Blocks.{last, end}
use Rattle.cd_caddyfile.specs.Sites.{Tests}
use Rattle.cd_adapt.specs.Counting.{size, IsCounted}
use Rattle.cd_adapt.specs.Splitting.{followed}
use Rattle.cd_adapt.proofs.counting.count_groups.Given as goal

abbrev pub invariant-lines : goal.invariant-lines
invariant-lines l = record {
  within : l.left ≤ length l.lines;
  few : size l.counter + l.left ≤ length l.lines;
  counted : (tests_of : List ℕ → Tests) → IsCounted tests_of (followed (drop l.left l.lines) (last end)) l.counter;
}

abbrev pub decreases-lines : goal.decreases-lines
decreases-lines l = l.left
