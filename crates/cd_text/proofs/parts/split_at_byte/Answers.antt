use Rattle.std.proofs.Common.{rules}
use Rattle.std.proofs.lemmas.Bool.Decides.{nat_tests}
use Rattle.std.proofs.lemmas.List.Sums.{prefix_len-le-length}
use Rattle.cd_text.proofs.parts.split_at_byte.Goals as goal

pub returns-in-None : goal.returns-in-None
returns-in-None c = search (rules, nat_tests, prefix_len-le-length)
