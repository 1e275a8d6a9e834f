use Rattle.std.proofs.Common.{arith}
use Rattle.cd_tree.proofs.TextLengths.{escape-length}
use Rattle.cd_tree.proofs.lengths.escaped_length.Goals as goal

pub returns : goal.returns
returns c = omega (arith, escape-length c.args.bytes.now)
