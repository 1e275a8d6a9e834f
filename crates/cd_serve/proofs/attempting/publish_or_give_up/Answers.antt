use Rattle.std.proofs.Common.{◌∷◌, inl, inr, refl, sym, subst, ◌∙◌}
use Rattle.cd_legal.specs.declared.entry.Entry.TheVariants.{Abandon}
use Rattle.cd_legal.specs.Runs.{ended_all}
use Rattle.cd_gate.specs.Passes.{view}
use Rattle.cd_life.specs.Origins.{change_of}
use Rattle.cd_hall.specs.Drafts.{IsDraftOf, held}
use Rattle.cd_hall.specs.Publishing.{refusal_in}
use Rattle.cd_hall.specs.Spread.{Spread}
use Rattle.cd_serve.proofs.Tries.{free-published, free-given-up}
use Rattle.cd_serve.proofs.attempting.publish_or_give_up.Goals as goal

pub abandon-requires-clause-draft : goal.abandon-requires-clause-draft
abandon-requires-clause-draft g c κs within = subst (λ d. IsDraftOf (view c.publish.new.pass) d) (sym c.refused-draft.ensures.draft) c.in-Err.ensures.kept.2

pub returns-in-Ok-clause-free : goal.returns-in-Ok-clause-free
returns-in-Ok-clause-free g c =
    let p = c.in-Ok.ensures.spreads in
    free-published (view c.args.pass.now) (view c.publish.new.pass) (held c.args.draft).number c.args.ticket.now.serial (change_of c.args.origin) (p.0, p.1)

pub returns-in-Ok-clause-concludes : goal.returns-in-Ok-clause-concludes
returns-in-Ok-clause-concludes g c =
    let p = c.in-Ok.ensures.spreads in
    inl (refl, (p.0, p.1), c.publish.ensures.duties)

pub returns-in-Err-clause-free : goal.returns-in-Err-clause-free
returns-in-Err-clause-free g c =
    let a = c.abandon.ensures.spreads in
    let d = held c.refused-draft.result.0 in
    free-given-up (view c.publish.new.pass) (view c.abandon.new.pass) a.0 d.number d.made d.started a.1

pub returns-in-Err-clause-concludes : goal.returns-in-Err-clause-concludes
returns-in-Err-clause-concludes g c =
    let k = c.in-Err.ensures.kept in
    let a = c.abandon.ensures.spreads in
    let x = view c.publish.new.pass in
    let y = view c.abandon.new.pass in
    inr (record {
      between = x;
      asked = k.0.0;
      turned = k.0.1;
      same = c.publish.ensures.duties;
      why = refusal_in c.in-Err.kept;
      refused = k.3;
      is = c.refused-draft.ensures.attempt;
      found = a.0;
      gave_up = subst (λ d. Spread x y a.0 (Abandon (held d).number ∷ ended_all (held d).number (held d).made (held d).started)) (c.refused-draft.ensures.draft ∙ k.1) a.1;
      later = c.abandon.ensures.duties;
    })
