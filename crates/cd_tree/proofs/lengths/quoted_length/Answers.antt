use Rattle.std.proofs.Common.{arith}
use Rattle.cd_tree.proofs.TextLengths.{quoted-length}
use Rattle.cd_tree.proofs.lengths.quoted_length.Goals as goal

pub returns : goal.returns
returns c = rw (quoted-length c.args.text.now) (grind arith)
