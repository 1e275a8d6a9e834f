use Rattle.std.proofs.Common.{◌≡◌}
use Rattle.cd_desk.specs.Desks.{none_open}
use Rattle.cd_desk.proofs.beginning.no_tickets.Given as goal

abbrev pub invariant-loop-caller : goal.invariant-loop-caller
invariant-loop-caller l = l.made.items ≡ none_open l.caller
