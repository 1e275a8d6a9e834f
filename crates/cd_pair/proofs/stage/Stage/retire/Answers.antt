use Rattle.std.proofs.Common.{[], List, ℕ, Option, None, ap, ◌∙◌}
use Rattle.cd_legal.specs.Legal.{state_at}
use Rattle.cd_gate.specs.Duties.{without_number}
use Rattle.cd_gate.specs.Passes.{view}
use Rattle.cd_hall.specs.declared.duty.Duty.{Duty}
use Rattle.cd_hall.specs.Calls.{duties_in}
use Rattle.cd_fixed.proofs.Halted.{halted-stays}
use Rattle.cd_pair.proofs.Goes.{goes, owes, block-owes, without-own}
use Rattle.cd_pair.proofs.stage.Stage.retire.Goals as goal

pub returns-in-Some-clause-has : goal.returns-in-Some-clause-has
returns-in-Some-clause-has g c =
    let r = c.retire.ensures.spreads in
    let n = c.in-Some.duty.serial in
    goes c.args.self.now.hall.now c.args.pass.now c.retire.new.pass c.args.number None None None None (duties_in c.args.duty) [] _ c.requires.has c.retire.ensures.pass r.1.grows
    (block-owes (owes None None) (state_at r.0) n)
    (c.retire.ensures.duties ∙ (ap (λ (l : List ℕ). without_number n l) (c.requires.has.duties ∙ ap (λ (d : Option Duty). duties_in d) c.in-Some.is) ∙ without-own n))

pub returns-in-Some-clause-halted : goal.returns-in-Some-clause-halted
returns-in-Some-clause-halted g c =
    let r = c.retire.ensures.spreads in
    λ had. halted-stays (view c.args.pass.now).seen (view c.retire.new.pass).seen r.1.grows.seen had

pub returns-in-Some-clause-seen : goal.returns-in-Some-clause-seen
returns-in-Some-clause-seen g c = c.retire.ensures.spreads.1.grows.seen
