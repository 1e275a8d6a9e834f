use Rattle.std.proofs.Common.{◌≡◌, take, drop, []}
use Rattle.cd_caddyfile.specs.Faults.{first_fault, sooner, repeated_sites}
use Rattle.cd_caddyfile.specs.Keys.{HasAddresses}
use Rattle.cd_caddyfile.proofs.repeats.site_fault.Given as goal

abbrev pub invariant-each_site : goal.invariant-each_site
invariant-each_site l = record {
  addresses : HasAddresses l.addresses (take l.site-index l.sites);
  fault : first_fault (repeated_sites [] l.sites) ≡ sooner l.fault (first_fault (repeated_sites (take l.site-index l.sites) (drop l.site-index l.sites)));
}
