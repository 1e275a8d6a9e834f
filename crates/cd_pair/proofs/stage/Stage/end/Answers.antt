use Rattle.std.proofs.Common.{[], ◌++◌, List, ℕ, None, Some, refl, ap, ◌∙◌}
use Rattle.std.proofs.lemmas.List.{append-nil}
use Rattle.cd_hall.specs.Calls.{duties_in}
use Rattle.cd_pair.proofs.Goes.{goes}
use Rattle.cd_pair.proofs.stage.Stage.end.Goals as goal

pub retire-requires-clause-has : goal.retire-requires-clause-has
retire-requires-clause-has g c κs within =
    let d = c.finish-duty.result in
    goes c.args.self.now.hall.now c.args.pass.now c.finish-duty.new.pass c.args.number (Some c.args.ticket.serial) None None None [] (duties_in d) _ c.requires.has c.finish-duty.ensures.pass c.finish-duty.ensures.finishes.1.grows refl
    (c.finish-duty.ensures.duties ∙ (ap (λ (l : List ℕ). duties_in d ++ l) c.requires.has.duties ∙ append-nil (duties_in d)))
