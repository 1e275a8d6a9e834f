use Rattle.std.proofs.Common.{ap, sym, subst, ◌∙◌, ◌≤◌, arith, List, ℕ, length, map}
use Rattle.std.proofs.lemmas.Bool.{eqb-true, eqb-false}
use Rattle.cd_caddyfile.proofs.WordSteps.{if_ok}
use Rattle.cd_parts.specs.Measures.{measured_entry}
use Rattle.cd_adapt.specs.Ports.{sites_of}
use Rattle.cd_adapt.specs.Serving.{servers_by}
use Rattle.cd_adapt.specs.Splitting.{site_made}
use Rattle.cd_adapt.specs.declared.splitting.SiteLines.{SiteLines}
use Rattle.cd_adapt.proofs.PortLaws.{whole_served, size_served}
use Rattle.cd_adapt.proofs.ServingLaws.{no_sites, some_sites, no_elements}
use Rattle.cd_adapt.proofs.serving.shape_of.Goals as goal

pub returns-then-is_empty : goal.returns-then-is_empty
returns-then-is_empty c = if_ok c.nothing.result (λ made is tests_of agrees.
    no_sites tests_of c.args.sites.now made (no_elements c.args.sites.now (eqb-true _ _ (sym c.is_empty.ensures ∙ c.if-is_empty.true))) is) c.nothing.ensures

pub servers_of-requires-clause-whole : goal.servers_of-requires-clause-whole
servers_of-requires-clause-whole c = λ port. whole_served port _ c.args.sites.now (c.in_ok-by_port.ensures port) c.requires.whole

pub servers_of-requires-clause-few : goal.servers_of-requires-clause-few
servers_of-requires-clause-few c = λ port. omega (arith, size_served port _ c.args.sites.now (c.in_ok-by_port.ensures port), c.requires.few)

pub servers_of-requires-clause-few_ports : goal.servers_of-requires-clause-few_ports
servers_of-requires-clause-few_ports c = omega (arith, ap (λ (l : List ℕ). length l) c.as_slice.ensures, c.in_ok-ports.ensures.few, c.requires.few)

pub returns : goal.returns
returns c = if_ok c.apps_of.result (λ made is tests_of agrees.
    some_sites tests_of c.args.sites.now (λ port. sites_of port c.in_ok-by_port.by_port) c.in_ok-ports.ports c.in_ok-servers.servers made
    (λ none. eqb-false _ _ (sym c.is_empty.ensures ∙ c.if-is_empty.false) (ap (λ (l : List SiteLines). length l) none)) c.in_ok-by_port.ensures (c.in_ok-ports.ensures.ports tests_of)
    (c.in_ok-servers.ensures tests_of agrees ∙ ap (λ (l : List ℕ). map measured_entry (servers_by (λ port. map (site_made tests_of) (sites_of port c.in_ok-by_port.by_port)) l 0 0)) c.as_slice.ensures) is) c.apps_of.ensures
