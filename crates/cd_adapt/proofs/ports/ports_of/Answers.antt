use Rattle.std.proofs.Common.{ℕ, List, [], ◌++◌, ◌≡◌, map, ◌+◌, length, drop, sym, ap, subst, arith}
use Rattle.cd_caddyfile.specs.Shape.{ports_after}
use Rattle.cd_adapt.specs.Splitting.{site_made}
use Rattle.cd_adapt.proofs.ServingLaws.{ports_on, few_ports, size_next, ports_done}
use Rattle.cd_adapt.proofs.ports.ports_of.Goals as goal

pub loop-site-preserved : goal.loop-site-preserved
loop-site-preserved c =
    let i = c.loop-site.site-index in
    let all = c.args.sites.now in
    let x = c.site-item.result in
    record {
      met = c.in_ok-add_port.ensures.met;
      few = omega (arith, c.loop-site.invariant.few, size_next i all x c.loop-site-test.true c.site-item.is, few_ports x.address.port c.loop-site.ports, ap length c.in_ok-add_port.ensures.ports);
      ports = λ tests_of. subst (λ (l : List ℕ). l ++ ports_after l (map (site_made tests_of) (drop (i + 1) all)) ≡ ports_after [] (map (site_made tests_of) all)) (sym c.in_ok-add_port.ensures.ports)
          (ports_on tests_of i all x c.loop-site.ports _ c.loop-site-test.true c.site-item.is (c.loop-site.invariant.ports tests_of));
    }

pub returns-clause-ports : goal.returns-clause-ports
returns-clause-ports c tests_of = ports_done tests_of c.loop-site.site-index c.args.sites.now c.loop-site.ports _ c.loop-site-test.false (c.loop-site.invariant.ports tests_of)
