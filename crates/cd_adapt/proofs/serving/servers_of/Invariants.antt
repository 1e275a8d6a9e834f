use Rattle.std.proofs.Common.{◌≡◌, ◌≤◌, ℕ, ◌*◌, List, ◌++◌, map, drop}
use Rattle.cd_caddyfile.specs.Sites.{Tests}
use Rattle.cd_parts.specs.Measures.{measured_entry}
use Rattle.cd_adapt.specs.Ports.{sites_of}
use Rattle.cd_adapt.specs.Serving.{AgreesAll, MOST_LINES, servers_by}
use Rattle.cd_adapt.specs.Splitting.{site_made}
use Rattle.cd_adapt.proofs.serving.servers_of.Given as goal

abbrev pub invariant-loop-number : goal.invariant-loop-number
invariant-loop-number l = record {
  few : l.next ≤ l.number * MOST_LINES;
  servers : (tests_of : ℕ → List ℕ → Tests) → AgreesAll l.table tests_of →
      l.parts ++ map measured_entry (servers_by (λ port. map (site_made tests_of) (sites_of port l.by_port)) (drop l.number l.ports) l.number l.next)
      ≡ map measured_entry (servers_by (λ port. map (site_made tests_of) (sites_of port l.by_port)) l.ports 0 0);
}
