use Rattle.std.proofs.lemmas.Iterator.Consumers.{map_from_collect}
use Rattle.std.proofs.lemmas.Iterator.Splits.{YieldsList-from_str_split}
use Rattle.cd_text.proofs.parts.parts_of.Goals as goal

pub returns-in-Ok : goal.returns-in-Ok
returns-in-Ok c =
    let all = map_from_collect _ c.collect.ensures.ran (YieldsList-from_str_split c.args.separator c.args.text.now c.requires c.split.ensures.text c.split.ensures.has_more c.split.ensures.pattern) in
    rw c.in-Ok.is at all
