use Rattle.std.proofs.Common.{◌≡◌, ◌+◌, ◌≤◌, drop}
use Rattle.cd_desk.specs.Desks.{told_at}
use Rattle.cd_desk.proofs.tickets.count_at.Given as goal

abbrev pub invariant-loop-ticket : goal.invariant-loop-ticket
invariant-loop-ticket l = record {
  counted : l.count + told_at l.serial (drop l.ticket-index l.tickets) ≡ told_at l.serial l.tickets;
  within : l.count ≤ l.ticket-index;
}
