use Rattle.cd_match.proofs.Alike.{sets_are}
use Rattle.cd_match.proofs.laws.sets_are_read_alike.Goals as goal

pub returns : goal.returns
returns c = sets_are c.args.tree.now c.args.at.now
