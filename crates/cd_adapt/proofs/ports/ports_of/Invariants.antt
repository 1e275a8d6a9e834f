use Rattle.std.proofs.Common.{◌≡◌, ◌≤◌, ℕ, ◌+◌, List, [], ◌++◌, length, map, drop}
use Rattle.cd_caddyfile.specs.Shape.{ports_after}
use Rattle.cd_caddyfile.specs.Sites.{Tests}
use Rattle.cd_adapt.specs.Ports.{AreMet}
use Rattle.cd_adapt.specs.Splitting.{site_made, size_of}
use Rattle.cd_adapt.proofs.ports.ports_of.Given as goal

abbrev pub invariant-loop-site : goal.invariant-loop-site
invariant-loop-site l = record {
  met : AreMet l.ports l.met;
  few : length l.ports + size_of (drop l.site-index l.sites) ≤ size_of l.sites;
  ports : (tests_of : ℕ → List ℕ → Tests) →
      l.ports ++ ports_after l.ports (map (site_made tests_of) (drop l.site-index l.sites)) ≡ ports_after [] (map (site_made tests_of) l.sites);
}
