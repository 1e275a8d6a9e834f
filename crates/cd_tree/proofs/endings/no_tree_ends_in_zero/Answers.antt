use Rattle.cd_tree.proofs.LastBytes.{tree_ends}
use Rattle.cd_tree.proofs.endings.no_tree_ends_in_zero.Goals as goal

pub returns : goal.returns
returns c = tree_ends c.args.text.now
