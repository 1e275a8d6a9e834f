use Rattle.cd_match.specs.Matchers.{sets}
use Rattle.cd_match.proofs.Naming.{name_kept}
use Rattle.cd_match.proofs.laws.matchers_have_their_names.Goals as goal

pub returns : goal.returns
returns c = name_kept sets c.args.name.now c.args.tree.now c.args.at.now
