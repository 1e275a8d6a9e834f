use Rattle.cd_routes.specs.Reading.{routes}
use Rattle.cd_routes.proofs.NameKept.{step_name_kept}
use Rattle.cd_routes.proofs.laws.steps_have_their_names.Goals as goal

pub returns : goal.returns
returns c = λ known. step_name_kept known (routes known) c.args.tree.now c.args.at.now
