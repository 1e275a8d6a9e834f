use Rattle.cd_fill.proofs.Placeholders.{placeholder_replaced, unclosed_stays, unopened_stays}
use Rattle.cd_fill.proofs.laws.placeholders_are_replaced.Goals as goal

pub returns-clause-replaced : goal.returns-clause-replaced
returns-clause-replaced c = placeholder_replaced

pub returns-clause-unclosed : goal.returns-clause-unclosed
returns-clause-unclosed c = unclosed_stays

pub returns-clause-unopened : goal.returns-clause-unopened
returns-clause-unopened c = unopened_stays
