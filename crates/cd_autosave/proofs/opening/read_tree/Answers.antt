use Rattle.std.proofs.Common.{length}
use Rattle.cd_autosave.proofs.Beginnings.{tree_told, invalid_told}
use Rattle.cd_autosave.proofs.opening.read_tree.Goals as goal

pub returns-in-Some-clause-tree : goal.returns-in-Some-clause-tree
returns-in-Some-clause-tree g c = tree_told (g.D.Disk.seen c.args.disk.now) c.read_whole.new.into c.args.at c.in-Some.count (length c.args.room.now) c.read_whole.ensures.long c.in-Some.ensures.bytes c.tree_in.result c.tree_in.ensures.tree

pub returns-in-Some-clause-damaged : goal.returns-in-Some-clause-damaged
returns-in-Some-clause-damaged g c = λ is. invalid_told (g.D.Disk.seen c.args.disk.now) c.read_whole.new.into c.args.at c.in-Some.count (length c.args.room.now) c.read_whole.ensures.long c.in-Some.ensures.bytes (c.tree_in.ensures.damaged is)
