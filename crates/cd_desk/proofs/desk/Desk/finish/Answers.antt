use Rattle.std.proofs.Common.{Some}
use Rattle.std.proofs.lemmas.Option.{slice_get_within}
use Rattle.cd_desk.proofs.Standing.{adds}
use Rattle.cd_desk.proofs.Ticketing.{finishes}
use Rattle.cd_desk.proofs.desk.Desk.finish.Goals as goal

pub set_ticket-requires : goal.set_ticket-requires
set_ticket-requires g c = slice_get_within c.args.self.now.tickets.by_caller.items c.args.caller (Some c.requires.0) c.requires.1

pub returns-clause-entry : goal.returns-clause-entry
returns-clause-entry g c = adds g.F.Fixtures.calls c.args.self.now _ _ (finishes g.F.Fixtures.calls c.args.self.now _ c.args.caller c.requires c.set_ticket.ensures.set)
