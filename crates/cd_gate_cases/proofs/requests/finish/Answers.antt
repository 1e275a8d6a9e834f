use Rattle.std.proofs.Common.{[], ◌∷◌, refl, ap, ◌∙◌}
use Rattle.cd_legal.specs.declared.entry.Entry.TheVariants.{Finish}
use Rattle.cd_legal.specs.Entry.{signed}
use Rattle.cd_gate.specs.declared.view.View.{View}
use Rattle.cd_gate.specs.Passes.{view}
use Rattle.cd_gate_cases.specs.declared.board.Board.{Board}
use Rattle.cd_gate_cases.specs.Passes.{begins}
use Rattle.cd_gate_cases.proofs.Turns.{begins-same, seen_more}
use Rattle.cd_gate_cases.proofs.requests.finish.Goals as goal

pub returns-clause-begun : goal.returns-clause-begun
returns-clause-begun g c =
    let v = view c.args.pass.now in
    let e = c.finish_step.ensures.ends in
    ap (λ (z : View Board). begins z.mine) e.1.is ∙ begins-same v.mine v.number (Finish v.number) refl

pub returns-clause-halted : goal.returns-clause-halted
returns-clause-halted g c =
    let v = view c.args.pass.now in
    let e = c.finish_step.ensures.ends in
    seen_more v (view c.finish_step.new.pass) e.0 (signed v.number (Finish v.number) ∷ []) e.1.found.seen (ap (λ (z : View Board). z.seen) e.1.is)
