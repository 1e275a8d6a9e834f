use Rattle.std.proofs.Common.{sym, ap, subst}
use Rattle.cd_legal.specs.declared.entry.Change.{Change}
use Rattle.cd_serve.specs.Attempts.{Concludes}
use Rattle.cd_gate.specs.Passes.{view}
use Rattle.cd_hall.specs.Drafts.{Held, held}
use Rattle.cd_life.specs.Fits.{Suits}
use Rattle.cd_life.specs.Shares.{conf_in}
use Rattle.cd_legal.specs.declared.entry.Change.TheVariants as change
use Rattle.cd_serve.specs.Meanings.{Meaning}
use Rattle.cd_serve.proofs.Tries.{goes-made, goes-both, goes-given-up, goes-concluded, ticket-goes, free-given-up, opened-whole, opened-in-part, suits}
use Rattle.cd_serve.proofs.attempting.open_and_publish.Goals as goal

pub publish_or_give_up-requires-clause-ticket : goal.publish_or_give_up-requires-clause-ticket
publish_or_give_up-requires-clause-ticket g c κs within =
    let o = c.in-Ok.ensures.opens in
    ticket-goes (view c.args.pass.now) (view c.open_draft.new.pass) c.args.ticket.now c.requires.ticket (goes-made (view c.args.pass.now) (view c.open_draft.new.pass) o.0 o.1)

pub publish_or_give_up-requires-clause-change : goal.publish_or_give_up-requires-clause-change
publish_or_give_up-requires-clause-change g c κs within =
    let conf = conf_in c.args.ticket.now.share in
    let tree = (held c.open_draft.new.draft).tree in
    subst (λ (b : Change). Suits g.M.ModuleSet.change conf b tree) (sym c.of.ensures)
    (suits g.M.ModuleSet.change conf c.args.request.now (held c.args.draft).tree tree c.requires.asks (ap (λ (h : Held). h.tree) c.in-Ok.ensures.opens.2.1))

pub returns-in-Ok-clause-ticket : goal.returns-in-Ok-clause-ticket
returns-in-Ok-clause-ticket g c =
    let o = c.in-Ok.ensures.opens in
    let v = view c.args.pass.now in
    let x = view c.open_draft.new.pass in
    let z = view c.publish_or_give_up.new.pass in
    ticket-goes v z c.args.ticket.now c.requires.ticket
    (goes-both v x z (goes-made v x o.0 o.1) (goes-concluded x z (held c.open_draft.new.draft) c.args.ticket.now.serial (change.Request c.args.request.now) c.publish_or_give_up.result
    (subst (λ (b : Change). Concludes x z (held c.open_draft.new.draft) c.args.ticket.now.serial b c.publish_or_give_up.result) c.of.ensures c.publish_or_give_up.ensures.concludes)))

pub returns-in-Ok-clause-attempted : goal.returns-in-Ok-clause-attempted
returns-in-Ok-clause-attempted g c before found drafted planned =
    let o = c.in-Ok.ensures.opens in
    let m : Meaning = record { acts = g.M.ModuleSet.acts; plan = g.M.ModuleSet.plan } in
    let v = view c.args.pass.now in
    let x = view c.open_draft.new.pass in
    let z = view c.publish_or_give_up.new.pass in
    let ticket = ticket-goes v x c.args.ticket.now c.requires.ticket (goes-made v x o.0 o.1) in
    opened-whole m c.args.request.now c.args.ticket.now.serial (held c.args.draft) planned before v x z found (held c.open_draft.new.draft) c.publish_or_give_up.result drafted o ticket.has.there
    (subst (λ (b : Change). Concludes x z (held c.open_draft.new.draft) c.args.ticket.now.serial b c.publish_or_give_up.result) c.of.ensures c.publish_or_give_up.ensures.concludes)

pub returns-in-Err-clause-ticket : goal.returns-in-Err-clause-ticket
returns-in-Err-clause-ticket g c =
    let o = c.in-Err.ensures.opens in
    let a = c.abandon.ensures.spreads in
    let d = held c.open_draft.new.draft in
    let v = view c.args.pass.now in
    let x = view c.open_draft.new.pass in
    let z = view c.abandon.new.pass in
    ticket-goes v z c.args.ticket.now c.requires.ticket (goes-both v x z (goes-made v x o.0 o.1) (goes-given-up x z a.0 d.number d.made d.started a.1))

pub returns-in-Err-clause-free : goal.returns-in-Err-clause-free
returns-in-Err-clause-free g c =
    let a = c.abandon.ensures.spreads in
    let d = held c.open_draft.new.draft in
    free-given-up (view c.open_draft.new.pass) (view c.abandon.new.pass) a.0 d.number d.made d.started a.1

pub returns-in-Err-clause-attempted : goal.returns-in-Err-clause-attempted
returns-in-Err-clause-attempted g c before found drafted planned =
    let o = c.in-Err.ensures.opens in
    let a = c.abandon.ensures.spreads in
    let m : Meaning = record { acts = g.M.ModuleSet.acts; plan = g.M.ModuleSet.plan } in
    opened-in-part m c.args.request.now c.args.ticket.now.serial (held c.args.draft) planned before (view c.args.pass.now) (view c.open_draft.new.pass) (view c.abandon.new.pass) found a.0 (held c.open_draft.new.draft) c.in-Err.key c.requires.new drafted o a.1 c.abandon.ensures.duties
