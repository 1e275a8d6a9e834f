use Rattle.std.proofs.Common.{◌≡◌, ◌≤◌, ℕ, ◌+◌, List, ◌++◌, map, drop}
use Rattle.std.specs.List.{All}
use Rattle.cd_caddyfile.specs.Shape.{site_routes, all_groups}
use Rattle.cd_caddyfile.specs.Sites.{Tests}
use Rattle.cd_parts.specs.Measures.{measured}
use Rattle.cd_adapt.specs.Ports.{told}
use Rattle.cd_adapt.specs.Serving.{AgreesAll}
use Rattle.cd_adapt.specs.Splitting.{IsWhole, site_made, size_of}
use Rattle.cd_adapt.proofs.serving.ServerRoutes.add_sites.Given as goal

abbrev pub invariant-loop-site : goal.invariant-loop-site
invariant-loop-site l = record {
  whole : All IsWhole (told (drop l.site-index l.sites));
  few : l.self.next + size_of (told (drop l.site-index l.sites)) ≤ l.initial.self.next + size_of (told l.sites);
  routes : (tests_of : ℕ → List ℕ → Tests) → AgreesAll l.table tests_of →
      l.self.routes ++ map measured (site_routes (map (site_made tests_of) (told (drop l.site-index l.sites))) l.self.next)
      ≡ l.initial.self.routes ++ map measured (site_routes (map (site_made tests_of) (told l.sites)) l.initial.self.next);
  next : (tests_of : ℕ → List ℕ → Tests) → AgreesAll l.table tests_of →
      l.self.next + all_groups (map (site_made tests_of) (told (drop l.site-index l.sites))) ≡ l.initial.self.next + all_groups (map (site_made tests_of) (told l.sites));
}
