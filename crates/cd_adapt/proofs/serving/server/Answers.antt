use Rattle.std.proofs.Common.{◌∙◌, ◌++◌, ap, List, map}
use Rattle.cd_caddyfile.specs.Shape.{site_routes}
use Rattle.cd_parts.specs.Measures.{measured}
use Rattle.cd_adapt.specs.Ports.{sites_of}
use Rattle.cd_adapt.specs.Splitting.{site_made}
use Rattle.cd_parts.specs.declared.measured.Measured.{Measured}
use Rattle.cd_adapt.proofs.ServingLaws.{server-is}
use Rattle.cd_adapt.proofs.serving.server.Goals as goal

pub returns-clause-server : goal.returns-clause-server
returns-clause-server c tests_of agrees =
    let sites = map (site_made tests_of) (sites_of c.args.port c.args.by_port.now) in
    c.in_ok-server.ensures ∙ server-is c.args.port c.args.next sites c.add_port.new.self.routes
    (c.in_ok-add_port.ensures.routes tests_of agrees ∙ ap (λ (l : List Measured). l ++ map measured (site_routes sites c.args.next)) c.new.ensures)
