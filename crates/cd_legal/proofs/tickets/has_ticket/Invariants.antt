use Rattle.std.proofs.Common.{◌≡◌, drop}
use Rattle.cd_legal.specs.State.{has_ticket}
use Rattle.cd_legal.proofs.tickets.has_ticket.Given as goal

abbrev pub invariant-loop-ticket : goal.invariant-loop-ticket
invariant-loop-ticket l = has_ticket l.caller (drop l.ticket-index l.tickets) ≡ has_ticket l.caller l.tickets
