use Rattle.std.proofs.Common.{sym, subst}
use Rattle.cd_parts.specs.Texts.{LinesAreTexts}
use Rattle.cd_parts.proofs.matchers.table_of.Goals as goal

pub named_sets-requires : goal.named_sets-requires
named_sets-requires c = subst LinesAreTexts (sym c.as_slice-2.ensures) c.requires
