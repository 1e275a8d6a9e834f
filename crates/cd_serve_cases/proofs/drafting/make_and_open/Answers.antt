use Rattle.std.proofs.Common.{Some, ap, ◌∙◌}
use Rattle.cd_hall.specs.Drafts.{Held, held}
use Rattle.cd_serve.proofs.Tries.{whole-is}
use Rattle.cd_serve_cases.proofs.Works.{works}
use Rattle.cd_serve_cases.proofs.drafting.make_and_open.Goals as goal

pub open_draft-requires-clause-new : goal.open_draft-requires-clause-new
open_draft-requires-clause-new g c κs within = let n = c.in_ok-draft.ensures.new in record { made = n.made; started = n.started; unfailed = n.failed }

pub give_up-requires-clause-draft : goal.give_up-requires-clause-draft
give_up-requires-clause-draft g c κs within =
    let o = c.in-Err.ensures in
    let d = c.in_ok-draft.ensures.draft in
    record {
      runs = works c.args.on.now.hall.now c.draft_of.new.pass c.open_draft.new.pass c.args.number c.args.ticket.now (Some c.in_ok-draft.draft.left.number) (Some c.open_draft.new.draft.left.number) o.opens.1.work d.runs o.pass o.opens.1.works o.draft.own;
      draft = o.draft;
    }

pub returns-in-Ok-clause-draft : goal.returns-in-Ok-clause-draft
returns-in-Ok-clause-draft g c =
    let o = c.in-Ok.ensures in
    let d = c.in_ok-draft.ensures.draft in
    record {
      runs = works c.args.on.now.hall.now c.draft_of.new.pass c.open_draft.new.pass c.args.number c.args.ticket.now (Some c.in_ok-draft.draft.left.number) (Some c.open_draft.new.draft.left.number) o.opens.1.work d.runs o.pass o.opens.1.works o.draft.own;
      draft = o.draft;
    }

pub returns-in-Ok-clause-whole : goal.returns-in-Ok-clause-whole
returns-in-Ok-clause-whole g c =
    let o = c.in-Ok.ensures.opens in
    let n = c.in_ok-draft.ensures.new in
    whole-is (held c.in_ok-draft.draft) (held c.open_draft.new.draft) o.0 (record { made = n.made; started = n.started; unfailed = n.failed }) o.2

pub returns-in-Ok-clause-tree : goal.returns-in-Ok-clause-tree
returns-in-Ok-clause-tree g c = ap (λ (h : Held). h.tree) c.in-Ok.ensures.opens.2.1 ∙ c.in_ok-draft.ensures.new.tree
