use Rattle.std.proofs.Common.{None, rules}
use Rattle.std.proofs.lemmas.Option.{slice_get_within}
use Rattle.cd_desk.proofs.Standing.{adds}
use Rattle.cd_desk.proofs.Ticketing.{begins}
use Rattle.cd_desk.proofs.desk.Desk.begin.Goals as goal

pub set_ticket-requires : goal.set_ticket-requires
set_ticket-requires g c = slice_get_within c.args.self.now.tickets.by_caller.items c.args.caller None c.requires.free

pub returns-clause-entry : goal.returns-clause-entry
returns-clause-entry g c = adds g.F.Fixtures.calls c.args.self.now _ _ (begins g.F.Fixtures.calls c.args.self.now _ c.saturating_add-self.result c.args.caller (search rules) c.requires.free c.set_ticket.ensures.set)
