use Rattle.cd_rewrite.proofs.Replacing.{each_replaced, some_replaced, last_replaced, none_is_left, nothing_replaced}
use Rattle.cd_rewrite.proofs.laws.occurrences_are_replaced.Goals as goal

pub returns-clause-each : goal.returns-clause-each
returns-clause-each c = each_replaced

pub returns-clause-limited : goal.returns-clause-limited
returns-clause-limited c = some_replaced

pub returns-clause-last : goal.returns-clause-last
returns-clause-last c = last_replaced

pub returns-clause-absent : goal.returns-clause-absent
returns-clause-absent c = none_is_left

pub returns-clause-nothing : goal.returns-clause-nothing
returns-clause-nothing c = nothing_replaced
