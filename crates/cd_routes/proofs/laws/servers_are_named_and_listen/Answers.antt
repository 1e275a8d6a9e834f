use Rattle.cd_routes.proofs.Servers.{server_made}
use Rattle.cd_routes.proofs.laws.servers_are_named_and_listen.Goals as goal

pub returns-clause-named : goal.returns-clause-named
returns-clause-named c = λ read e. (server_made c.args.name.now c.args.tree.now c.args.at.now read e).named

pub returns-clause-listens : goal.returns-clause-listens
returns-clause-listens c = λ read e. (server_made c.args.name.now c.args.tree.now c.args.at.now read e).listens
