use Rattle.std.proofs.Common.{ap, refl}
use Rattle.cd_gate.specs.declared.view.View.{View}
use Rattle.cd_gate.specs.Passes.{view}
use Rattle.cd_hall.proofs.DueThen.{due_then, was_settled, due_at_end, finish_may, turned_by_finish}
use Rattle.cd_hall.proofs.Requested.{finish_settled}
use Rattle.cd_hall.proofs.requests.end_request.Goals as goal

pub returns-clause-finishes : goal.returns-clause-finishes
returns-clause-finishes g c =
    let t = c.finish_step.ensures.ends in
    let v = view c.args.pass.now in
    let w = view c.finish_step.new.pass in (
      t.0,
      turned_by_finish v w c.args.serial c.finish_step.result t.0 t.1,
      t.1.running,
      due_then v w c.args.serial c.finish_step.result t.0 t.1,
    )

pub returns-clause-settled : goal.returns-clause-settled
returns-clause-settled g c =
    let t = c.finish_step.ensures.ends in
    let v = view c.args.pass.now in
    let w = view c.finish_step.new.pass in
    let due = c.finish_step.result in (
      was_settled v w c.args.serial due t.0 t.1,
      λ found u. finish_settled v w t.0 found c.args.serial (was_settled v w c.args.serial due t.0 t.1) _ _ (turned_by_finish v w c.args.serial due t.0 t.1) (due_at_end v w c.args.serial due t.0 t.1) refl u,
    )

pub returns-clause-may : goal.returns-clause-may
returns-clause-may g c =
    let t = c.finish_step.ensures.ends in
    finish_may (view c.args.pass.now) (view c.finish_step.new.pass) c.args.serial c.finish_step.result t.0 t.1

pub returns-clause-duties : goal.returns-clause-duties
returns-clause-duties g c = let t = c.finish_step.ensures.ends in ap (λ (z : View g.row.T.Denot). z.duties) t.1.is
