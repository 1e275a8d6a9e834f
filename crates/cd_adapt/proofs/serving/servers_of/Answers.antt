use Rattle.std.proofs.Common.{ap, arith, refl, sym, subst, ◌++◌, ◌∷◌, [], ◌+◌, ◌≡◌, ◌<◌, ◌^◌, ◌∙◌, length, get_or, map, List, codes, decimal}
use Rattle.std.specs.List.{All}
use Rattle.cd_caddyfile.specs.Shape.{server, all_groups}
use Rattle.cd_parts.specs.Measures.{measured, measured_entry}
use Rattle.cd_adapt.specs.Ports.{sites_of}
use Rattle.cd_adapt.specs.Serving.{MOST_LINES, servers_by}
use Rattle.cd_adapt.specs.Splitting.{site_made, size_of, IsWhole}
use Rattle.cd_adapt.specs.Steps.{part}
use Rattle.cd_adapt.specs.declared.splitting.SiteLines.{SiteLines}
use Rattle.cd_parts.specs.declared.measured.Measured.{Measured}
use Rattle.cd_parts.specs.declared.measured.Part.{Part}
use Rattle.cd_adapt.proofs.ServingLaws.{room_for, servers_on, servers_done}
use Rattle.cd_adapt.proofs.serving.servers_of.Goals as goal

pub loop-number-init : goal.loop-number-init
loop-number-init c = record {
  few = omega arith;
  servers = λ tests_of agrees.
      ap (λ (l : List Part). l ++ map measured_entry (servers_by (λ port. map (site_made tests_of) (sites_of port c.args.by_port.now)) c.args.ports.now 0 0)) c.new-parts.ensures;
}

pub server-requires-clause-few : goal.server-requires-clause-few
server-requires-clause-few c =
    let port = get_or c.args.ports.now c.loop-number.number 0 in
    room_for c.loop-number.number (length c.args.ports.now) MOST_LINES (size_of (sites_of port c.args.by_port.now)) c.loop-number.next c.loop-number-test.true c.loop-number.invariant.few
    c.requires.few_ports (c.requires.few port) (omega arith)

pub loop-number-preserved : goal.loop-number-preserved
loop-number-preserved c =
    let k = c.loop-number.number in
    let port = get_or c.args.ports.now c.loop-number.number 0 in
    record {
      few = omega (arith, c.in_ok-served.ensures.few, c.loop-number.invariant.few, c.requires.few port);
      servers = λ tests_of agrees. servers_on (λ p. map (site_made tests_of) (sites_of p c.args.by_port.now)) port k c.loop-number.next c.in_ok-served.served.next c.args.ports.now c.loop-number.parts c.add_server.new.parts _
          c.loop-number-test.true refl
          (c.in_ok-add_server.ensures ∙ ap (λ (m : Measured). c.loop-number.parts ++ part (codes "srv" ++ decimal k) m ∷ []) (c.in_ok-served.ensures.server tests_of agrees))
          (c.in_ok-served.ensures.next tests_of agrees) (c.loop-number.invariant.servers tests_of agrees);
    }

pub returns : goal.returns
returns c tests_of agrees =
    servers_done (λ port. map (site_made tests_of) (sites_of port c.args.by_port.now)) c.loop-number.number c.loop-number.next c.args.ports.now c.loop-number.parts _
    c.loop-number-test.false (c.loop-number.invariant.servers tests_of agrees)
