use Rattle.std.proofs.Common.{sym, subst}
use Rattle.cd_parts.specs.Lines.{lines_at}
use Rattle.cd_parts.specs.Texts.{TestsAreTexts}
use Rattle.cd_parts.proofs.TextTests.{matcher_texts}
use Rattle.cd_parts.proofs.matchers.named_set.Goals as goal

pub set_of-requires : goal.set_of-requires
set_of-requires c = subst TestsAreTexts (sym c.in_ok-tests.ensures) (matcher_texts (lines_at c.args.lines.now c.args.matcher.now.line) c.requires)
