use Rattle.std.proofs.Common.{◌≡◌, ◌≤◌, ℕ, ◌+◌, List, ◌++◌, map, length}
use Rattle.std.specs.Prelude.{All, IsUtf8}
use Rattle.cd_caddyfile.specs.Blocks.{nested, file_lines}
use Rattle.cd_caddyfile.specs.FileSites.{sites_in}
use Rattle.cd_caddyfile.specs.Lines.{lines_of}
use Rattle.cd_caddyfile.specs.Sites.{Tests}
use Rattle.cd_adapt.specs.Splitting.{site_made, sites_left, IsSplit}
use Rattle.cd_adapt.proofs.splitting.sites_of.Given as goal

abbrev pub invariant-lines : goal.invariant-lines
invariant-lines l = record {
  sites : (tests_of : ℕ → List ℕ → Tests) →
      sites_in tests_of (file_lines l.bytes) ≡ map (site_made tests_of) l.splitter.sites ++ sites_left tests_of l.splitter.current (nested l.number (lines_of l.rest));
  split : IsSplit l.number l.splitter;
  texts : All (λ line. IsUtf8 line) (lines_of l.rest);
  count : l.number + length l.rest ≤ 1 + length l.bytes;
}

abbrev pub decreases-lines : goal.decreases-lines
decreases-lines l = length l.rest
