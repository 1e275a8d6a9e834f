use Rattle.std.proofs.Common.{◌∙◌}
use Rattle.cd_gate.specs.Passes.{view}
use Rattle.cd_hall.proofs.Requested.{ticket_stays}
use Rattle.cd_host.proofs.Drafting.{begun-owes, nothing-owes}
use Rattle.cd_host.proofs.Started.{unbegun, started}
use Rattle.cd_host.proofs.starting.start_first.Goals as goal

pub draft_first-how-requires-clause-history : goal.draft_first-how-requires-clause-history
draft_first-how-requires-clause-history g c κs within = c.in-Ok.ensures.begins.1.grows.history

pub draft_first-how-requires-clause-free : goal.draft_first-how-requires-clause-free
draft_first-how-requires-clause-free g c κs within = let f = c.in-Ok.ensures.begins in begun-owes (view c.args.pass.now) (view c.begin.new.pass) f.0 _ _ f.1 ∙ c.requires.free.1

pub finish_first-requires-clause-ticket : goal.finish_first-requires-clause-ticket
finish_first-requires-clause-ticket g c κs within =
    let drafts = c.draft_first-how.ensures.drafted.signed.1 in
    ticket_stays (view c.begin.new.pass) (view c.draft_first-how.new.pass) c.in-Ok.ticket c.in-Ok.ensures.ticket drafts.seen drafts.history c.draft_first-how.ensures.ticket

pub finish_first-requires-clause-none : goal.finish_first-requires-clause-none
finish_first-requires-clause-none g c κs within = c.draft_first-how.ensures.duties ∙ c.in-Ok.ensures.duties ∙ c.requires.free.2

pub returns-in-Err-clause-started : goal.returns-in-Err-clause-started
returns-in-Err-clause-started g c = let f = c.in-Err.ensures.err in unbegun c.args.first.tree c.args.first.plan (view c.args.pass.now) (view c.begin.new.pass) f.0 f.1

pub returns-in-Err-clause-free : goal.returns-in-Err-clause-free
returns-in-Err-clause-free g c =
    let f = c.in-Err.ensures.err in
    let o = nothing-owes (view c.args.pass.now) (view c.begin.new.pass) f.0 f.1 in (o.0 ∙ c.requires.free.0, o.1 ∙ c.requires.free.1, c.in-Err.ensures.duties ∙ c.requires.free.2)

pub returns-clause-started : goal.returns-clause-started
returns-clause-started g c =
    let f = c.in-Ok.ensures.begins in
    started c.args.first.tree c.args.first.plan c.draft_first-how.result c.in-Ok.ticket.serial (view c.args.pass.now) (view c.begin.new.pass) (view c.draft_first-how.new.pass) (view c.finish_first.new.pass) f.0 f.1 f.2 c.draft_first-how.ensures.drafted c.finish_first.ensures.finished
