use Rattle.std.proofs.Common.{◌≡◌, ℕ, ◌++◌, filter, drop}
use Rattle.cd_adapt.specs.Ports.{is_served, sites_of}
use Rattle.cd_adapt.proofs.ports.add_sites.Given as goal

abbrev pub invariant-loop-site : goal.invariant-loop-site
invariant-loop-site l =
    (port : ℕ) → sites_of port l.by_port ++ filter (is_served port l.with_host) (drop l.site-index l.sites)
    ≡ sites_of port l.initial.by_port ++ filter (is_served port l.with_host) l.sites
