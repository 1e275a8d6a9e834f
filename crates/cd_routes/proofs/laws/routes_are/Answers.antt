use Rattle.cd_routes.proofs.Routes as reading
use Rattle.cd_routes.proofs.laws.routes_are.Goals as goal

pub returns : goal.returns
returns c = λ known. reading.routes_are known c.args.tree.now c.args.at.now
