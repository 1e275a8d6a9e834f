use Rattle.std.proofs.Common.{ap, arith}
use Rattle.cd_tree.specs.Lengths.{weight}
use Rattle.cd_tree.proofs.TextLengths.{weight-Items, weight-Object}
use Rattle.cd_tree.proofs.lengths.+lengths.Goals as goal

pub tree_length-returns-in-Items : goal.tree_length-returns-in-Items
tree_length-returns-in-Items t c = omega (arith, weight-Items c.in-Items.items, ap weight c.in-Items.is)

pub tree_length-returns-in-Object : goal.tree_length-returns-in-Object
tree_length-returns-in-Object t c = omega (arith, weight-Object c.in-Object.members, ap weight c.in-Object.is)
