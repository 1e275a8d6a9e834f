use Rattle.cd_legal.proofs.Owing.{owes-own, owes-stays, owes-none}
use Rattle.cd_legal.proofs.laws.passes_owe_by_their_own_entries.Goals as goal

pub returns-clause-own : goal.returns-clause-own
returns-clause-own c = owes-own

pub returns-clause-others : goal.returns-clause-others
returns-clause-others c = owes-stays

pub returns-clause-none : goal.returns-clause-none
returns-clause-none c = owes-none
