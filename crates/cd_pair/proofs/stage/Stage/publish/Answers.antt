use Rattle.std.proofs.Common.{◌≡◌, ◌+◌, [], ◌∷◌, None, Some, refl, subst, sym, ◌∙◌}
use Rattle.cd_legal.specs.declared.entry.Entry.TheVariants.{Publish}
use Rattle.cd_legal.specs.Legal.{state_at}
use Rattle.cd_legal.specs.Runs.{stopped_of}
use Rattle.cd_gate.specs.Passes.{view}
use Rattle.cd_life.specs.Origins.{change_of}
use Rattle.cd_hall.specs.Drafts.{IsDraftOf}
use Rattle.cd_pair.specs.Passes.{HasDraft}
use Rattle.cd_pair.proofs.Goes.{owes, runs-on, stopped-owe}
use Rattle.cd_pair.proofs.stage.Stage.publish.Goals as goal

pub returns-in-Ok : goal.returns-in-Ok
returns-in-Ok g c =
    let p = c.in-Ok.ensures.spreads in
    let n = c.args.ticket.now.serial in
    runs-on c.args.self.now.hall.now c.args.pass.now c.publish.new.pass c.args.number c.args.ticket.now (Some c.args.draft.left.number) None (Publish c.args.draft.left.number (n + 1) n (change_of c.args.origin) ∷ stopped_of (state_at p.0) n) c.requires.draft.runs c.publish.ensures.pass p.1.grows
    (stopped-owe (owes (Some n) None) (state_at p.0) n) c.publish.ensures.duties

pub give_up-requires-clause-draft : goal.give_up-requires-clause-draft
give_up-requires-clause-draft g c κs within =
    let k = c.in-Err.ensures.kept in
    let d = c.args.draft in
    let same : c.taken_back-draft.result.0 ≡ d = c.taken_back-draft.ensures ∙ k.1 in
    subst (λ z. HasDraft c.args.self.now.hall.now c.publish.new.pass c.args.number c.args.ticket.now z) (sym same) (record {
      runs = runs-on c.args.self.now.hall.now c.args.pass.now c.publish.new.pass c.args.number c.args.ticket.now (Some d.left.number) (Some d.left.number) [] c.requires.draft.runs c.publish.ensures.pass k.0.1.grows refl c.publish.ensures.duties;
      draft = subst (λ z. IsDraftOf (view c.publish.new.pass) z) k.1 k.2;
    })
