use Rattle.std.proofs.Common.{◌∙◌}
use Rattle.cd_gate.specs.Passes.{view}
use Rattle.cd_hall.specs.Drafts.{held}
use Rattle.cd_host.proofs.Drafting.{abandoned-owes, drafted-owes, has-published, has-tried, has-refused}
use Rattle.cd_host.proofs.Started.{undrafted, undrafted-here}
use Rattle.cd_host.proofs.starting.draft_first.Goals as goal

pub returns-then-serial-ne0-clause-drafted : goal.returns-then-serial-ne0-clause-drafted
returns-then-serial-ne0-clause-drafted g c = undrafted-here c.args.first.tree c.args.first.plan c.args.ticket.now.serial (view c.args.pass.now) c.requires.history

pub returns-in-Err-clause-drafted : goal.returns-in-Err-clause-drafted
returns-in-Err-clause-drafted g c =
    let f = c.in-Err.ensures.err in undrafted c.args.first.tree c.args.first.plan c.args.ticket.now.serial (view c.args.pass.now) (view c.draft.new.pass) f.0 f.1

pub returns-then-publish_first-clause-drafted : goal.returns-then-publish_first-clause-drafted
returns-then-publish_first-clause-drafted g c =
    let o = c.in-Ok-open_draft.ensures.opens in
    has-published c.args.first.tree c.args.first.plan c.args.ticket.now.serial c.in-Ok.draft.left.number (view c.args.pass.now) (view c.draft.new.pass) (view c.open_draft.new.pass) (view c.publish_first.new.pass)
    (held c.in-Ok.draft) (held c.open_draft.new.draft) c.in-Ok.ensures.made c.in-Ok.ensures.new o.0 o.1 o.2 c.if-publish_first.ensures.tried

pub returns-else-publish_first-clause-drafted : goal.returns-else-publish_first-clause-drafted
returns-else-publish_first-clause-drafted g c =
    let o = c.in-Ok-open_draft.ensures.opens in
    has-tried c.args.first.tree c.args.first.plan c.args.ticket.now.serial c.in-Ok.draft.left.number (view c.args.pass.now) (view c.draft.new.pass) (view c.open_draft.new.pass) (view c.publish_first.new.pass)
    (held c.in-Ok.draft) (held c.open_draft.new.draft) c.in-Ok.ensures.made c.in-Ok.ensures.new o.0 o.1 o.2 c.if-publish_first.ensures.tried

pub returns-in-Err-open_draft-clause-drafted : goal.returns-in-Err-open_draft-clause-drafted
returns-in-Err-open_draft-clause-drafted g c =
    let o = c.in-Err-open_draft.ensures.opens in
    has-refused c.args.first.tree c.args.first.plan c.args.ticket.now.serial c.in-Ok.draft.left.number (view c.args.pass.now) (view c.draft.new.pass) (view c.open_draft.new.pass) (view c.abandon.new.pass)
    (held c.in-Ok.draft) (held c.open_draft.new.draft) c.in-Ok.ensures.made c.in-Ok.ensures.new c.in-Err-open_draft.key o.0 o.1 o.2 c.abandon.ensures.spreads

pub returns-in-Err-open_draft-clause-ticket : goal.returns-in-Err-open_draft-clause-ticket
returns-in-Err-open_draft-clause-ticket g c =
    let f = c.in-Ok.ensures.made in
    let a = c.abandon.ensures.spreads in
    (abandoned-owes (view c.open_draft.new.pass) (view c.abandon.new.pass) a.0 _ _ _ a.1).0 ∙ c.in-Err-open_draft.ensures.opens.1.works.ticket ∙ drafted-owes (view c.args.pass.now) (view c.draft.new.pass) f.0 _ _ _ f.1

pub returns-in-Err-open_draft-clause-none : goal.returns-in-Err-open_draft-clause-none
returns-in-Err-open_draft-clause-none g c = let a = c.abandon.ensures.spreads in (abandoned-owes (view c.open_draft.new.pass) (view c.abandon.new.pass) a.0 _ _ _ a.1).1
