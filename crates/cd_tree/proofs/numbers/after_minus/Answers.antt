use Rattle.std.proofs.Common.{arith}
use Rattle.std.proofs.lemmas.Str.Pattern.{strip_prefix_char}
use Rattle.cd_tree.proofs.Signs.{by_sign}
use Rattle.cd_tree.proofs.numbers.after_minus.Goals as goal

pub returns : goal.returns
returns c = by_sign c.args.digits.now c.strip_prefix.result (strip_prefix_char 45 c.args.digits.now c.strip_prefix.result c.strip_prefix.ensures.cases (omega arith))
