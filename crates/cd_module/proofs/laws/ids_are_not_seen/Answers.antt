use Rattle.cd_module.proofs.Bare.{alike}
use Rattle.cd_module.proofs.laws.ids_are_not_seen.Goals as goal

pub returns : goal.returns
returns g c = λ sees e. alike g.T.Settings.reader sees c.args.tree.now c.args.other.now c.args.at.now e
