use Rattle.cd_routes.proofs.Equations.{run_route_is}
use Rattle.cd_routes.proofs.laws.a_route_does.Goals as goal

pub returns : goal.returns
returns c = λ named. run_route_is named c.args.this.now
