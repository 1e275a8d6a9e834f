use Rattle.cd_serve.proofs.Longer.{told-beside, fresh-beside}
use Rattle.cd_serve.proofs.laws.later_entries_of_others_change_nothing.Goals as goal

pub returns-clause-told : goal.returns-clause-told
returns-clause-told c = told-beside

pub returns-clause-fresh : goal.returns-clause-fresh
returns-clause-fresh c = fresh-beside
