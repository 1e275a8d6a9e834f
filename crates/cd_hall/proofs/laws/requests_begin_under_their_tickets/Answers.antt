use Rattle.cd_hall.proofs.Cached.{begun_has, fetched_has}
use Rattle.cd_hall.proofs.laws.requests_begin_under_their_tickets.Goals as goal

pub returns-clause-at_once : goal.returns-clause-at_once
returns-clause-at_once g c v w log b unchecked is = begun_has v w c.args.ticket.now log b unchecked is

pub returns-clause-later : goal.returns-clause-later
returns-clause-later g c v w x log found b unchecked turned is = fetched_has v w x c.args.ticket.now log found b unchecked turned is
