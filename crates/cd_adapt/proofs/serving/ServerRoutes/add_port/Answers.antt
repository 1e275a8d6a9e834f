use Rattle.std.proofs.Common.{sym}
use Rattle.cd_adapt.proofs.ServingLaws.{no_routes, no_groups}
use Rattle.cd_adapt.proofs.serving.ServerRoutes.add_port.Goals as goal

pub returns-in-None-clause-routes : goal.returns-in-None-clause-routes
returns-in-None-clause-routes c tests_of agrees = no_routes tests_of c.args.port c.args.by_port.now c.args.self.now.routes c.args.self.now.next (sym c.in-None.ensures.value)

pub returns-in-None-clause-next : goal.returns-in-None-clause-next
returns-in-None-clause-next c tests_of agrees = no_groups tests_of c.args.port c.args.by_port.now c.args.self.now.next (sym c.in-None.ensures.value)
