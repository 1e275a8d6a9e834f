use Rattle.cd_module.proofs.Bare.{alike}
use Rattle.cd_routes.specs.Reading.{routes}
use Rattle.cd_routes.proofs.Bare.{routes-bare}
use Rattle.cd_routes.proofs.laws.routes_see_no_ids.Goals as goal

pub returns : goal.returns
returns c = λ known e. alike (routes known) (routes-bare known) c.args.tree.now c.args.other.now c.args.at.now e
