use Rattle.std.proofs.Common.{[], ◌∷◌, ◌++◌, ap, subst, ◌∙◌}
use Rattle.cd_legal.specs.Entry.{signed}
use Rattle.cd_legal.specs.Signing.{IsHistory}
use Rattle.cd_gate.specs.Counts.{begins_in}
use Rattle.cd_gate.specs.Steps.{superseded}
use Rattle.cd_gate.proofs.Passes.{turn_stays, found_ready}
use Rattle.cd_gate.proofs.gate.Gate.publish_step.Goals as goal

pub returns-clause-pass : goal.returns-clause-pass
returns-clause-pass g c =
    let t = c.supersede_by.ensures.publishes in
    let made = c.make_ready.ensures.ready in
    let e = g.M.Names.entry c.args.about.now in
    let is = ap (λ m. m.0) t.3 ∙ ap (λ m. superseded m.0 t.0 e c.args.serial (begins_in t.0 c.args.serial)) made in
    turn_stays c.args.self.now.table.shared.table_id c.args.self.now.table.shared.key.value c.args.pass.now.number c.args.pass.now.seat.table_id c.supersede_by.new.seat.table_id c.args.pass.now.seat.me c.supersede_by.new.seat.me (c.supersede_by.ensures.table ∙ c.make_ready.ensures.table) (ap (λ m. m.1) t.3 ∙ ap (λ m. m.1) made) _ _ _ _ _ _ is c.requires.pass

pub returns-clause-publishes : goal.returns-clause-publishes
returns-clause-publishes g c =
    let t = c.supersede_by.ensures.publishes in
    let made = c.make_ready.ensures.ready in
    let e = g.M.Names.entry c.args.about.now in (
      t.0,
      found_ready c.args.pass.now.seat.me.0 _ t.0 (ap (λ m. m.0) made) t.1,
      t.2,
      ap (λ m. m.0) t.3 ∙ ap (λ m. superseded m.0 t.0 e c.args.serial (begins_in t.0 c.args.serial)) made,
      subst (λ m. IsHistory (t.0 ++ signed m.0.number e ∷ [])) made t.4,
    )
