use Rattle.cd_tree.proofs.ReadBack.{tree_reads_back}
use Rattle.cd_tree.proofs.round_trip.reads_back.Goals as goal

pub returns : goal.returns
returns c = tree_reads_back c.args.tree.now c.requires c.see.ensures
