use Rattle.cd_module.proofs.Bare.{recursive-bare}
use Rattle.cd_module.proofs.laws.recursions_see_no_ids.Goals as goal

pub returns : goal.returns
returns g c = λ body inward keeps. (recursive-bare body inward keeps).same c.args.tree.now c.args.at.now
