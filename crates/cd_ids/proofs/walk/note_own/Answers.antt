use Rattle.std.proofs.Common.{sym, ap, ◌∙◌}
use Rattle.cd_tree.specs.Fields.{get}
use Rattle.cd_ids.specs.Noting.{noted}
use Rattle.cd_ids.specs.Walk.{id_key}
use Rattle.cd_ids.proofs.Walks.{own_is, own_found}
use Rattle.cd_ids.proofs.walk.note_own.Goals as goal

pub returns-in-None : goal.returns-in-None
returns-in-None g c =
    let at = c.args.at.now in
    ap (noted g.N.Notes.with c.args.notes.now) (own_is c.args.members.now at ∙ ap (λ found. own_found found at) (ap (get id_key) (sym c.of_any.ensures) ∙ sym c.in-None.ensures.exact))

pub returns-in-Some : goal.returns-in-Some
returns-in-Some g c =
    let at = c.args.at.now in
    rw (own_is c.args.members.now at ∙ ap (λ found. own_found found at) (ap (get id_key) (sym c.of_any.ensures) ∙ sym c.in-Some.ensures.exact)) c.note_claim.ensures
