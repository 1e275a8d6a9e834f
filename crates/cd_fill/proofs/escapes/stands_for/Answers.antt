use Rattle.std.proofs.Common.{rules}
use Rattle.std.proofs.lemmas.Str.{utf8_lossy_empty}
use Rattle.cd_fill.proofs.Meanings.{nothing_meant, same_character}
use Rattle.cd_fill.proofs.escapes.stands_for.Goals as goal

pub loop-character-preserved : goal.loop-character-preserved
loop-character-preserved c = search (rules, same_character)

pub returns : goal.returns
returns c = search (rules, utf8_lossy_empty, nothing_meant)
