use Rattle.cd_legal.proofs.Owed.{owed-ticket}
use Rattle.cd_legal.proofs.laws.passes_owe_their_tickets.Goals as goal

pub returns : goal.returns
returns c = owed-ticket
