use Rattle.cd_legal.proofs.Callers.{one_ticket, ticket-born}
use Rattle.cd_legal.proofs.laws.callers_have_one_ticket.Goals as goal

pub returns-clause-one : goal.returns-clause-one
returns-clause-one c log caller legal = one_ticket log caller legal

pub returns-clause-serial : goal.returns-clause-serial
returns-clause-serial c log caller n legal is = ticket-born log caller n legal is
