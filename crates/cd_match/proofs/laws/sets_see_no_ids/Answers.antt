use Rattle.cd_module.proofs.Bare.{alike}
use Rattle.cd_match.specs.Matchers.{route_sets}
use Rattle.cd_match.proofs.Bare.{route_sets-bare}
use Rattle.cd_match.proofs.laws.sets_see_no_ids.Goals as goal

pub returns : goal.returns
returns c = λ e. alike route_sets route_sets-bare c.args.tree.now c.args.other.now c.args.at.now e
