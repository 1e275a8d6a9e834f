use Rattle.std.proofs.Common.{◌≡◌, drop}
use Rattle.cd_legal.specs.State.{is_ticketed}
use Rattle.cd_legal.proofs.tickets.is_ticketed.Given as goal

abbrev pub invariant-loop-ticket : goal.invariant-loop-ticket
invariant-loop-ticket l = is_ticketed l.serial (drop l.ticket-index l.tickets) ≡ is_ticketed l.serial l.tickets
