use Rattle.cd_module.proofs.Bare.{list_of-bare}
use Rattle.cd_module.proofs.laws.lists_see_no_ids.Goals as goal

pub returns : goal.returns
returns g c = λ sees. (list_of-bare g.T.Settings.reader sees).same c.args.tree.now c.args.at.now
