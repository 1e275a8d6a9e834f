use Rattle.std.proofs.Common.{◌≤◌, ℕ, List, length, drop}
use Rattle.cd_caddyfile.specs.Blocks.{last, end}
use Rattle.cd_caddyfile.specs.Sites.{Tests}
use Rattle.cd_adapt.specs.Laying.{AreLaid}
use Rattle.cd_parts.specs.Matching.{set_named, Agrees}
use Rattle.cd_adapt.specs.Splitting.{followed}
use Rattle.cd_adapt.proofs.laying.routes_of.Given as goal

abbrev pub invariant-lines : goal.invariant-lines
invariant-lines l = record {
  within : l.left ≤ length l.lines;
  laid : (tests_of : List ℕ → Tests) → Agrees (set_named l.table l.site.line) tests_of →
      AreLaid tests_of l.next (followed (drop l.left l.lines) (last end)) l.layout.outer l.layout.here l.layout.free;
}

abbrev pub decreases-lines : goal.decreases-lines
decreases-lines l = l.left
