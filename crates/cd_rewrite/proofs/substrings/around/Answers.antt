use Rattle.std.proofs.Common.{rules, None}
use Rattle.std.proofs.lemmas.List.{take_rest}
use Rattle.cd_rewrite.proofs.Occurrences.{around_is}
use Rattle.cd_rewrite.proofs.substrings.around.Goals as goal

pub returns-in-Some : goal.returns-in-Some
returns-in-Some c = search (rules, around_is, take_rest)

pub returns-in-None : goal.returns-in-None
returns-in-None c = around_is c.args.find.now c.requires c.args.text.now None c.in-None.ensures
