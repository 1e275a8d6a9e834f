use Rattle.std.proofs.Common.{[], ◌∷◌, ◌++◌, List, ℕ, None, ap, ◌∙◌, ◌+◌}
use Rattle.std.proofs.lemmas.List.{append-nil}
use Rattle.cd_legal.specs.declared.entry.Entry.TheVariants.{Halt}
use Rattle.cd_legal.specs.Entry.{signed}
use Rattle.cd_legal.specs.Legal.{state_at}
use Rattle.cd_legal.specs.Runs.{stopped_of}
use Rattle.cd_gate.specs.Passes.{view}
use Rattle.cd_hall.specs.Calls.{duties_in}
use Rattle.cd_hall.proofs.Spreading.{spread_first}
use Rattle.cd_fixed.proofs.Halted.{halted-stays, halted-after}
use Rattle.cd_pair.proofs.Goes.{goes, owes, stopped-owe}
use Rattle.cd_pair.proofs.stage.Stage.halt.Goals as goal

pub retire-requires-clause-has : goal.retire-requires-clause-has
retire-requires-clause-has g c κs within =
    let h = c.in-Ok.ensures.spreads in
    goes c.args.self.now.hall.now c.args.pass.now c.halt.new.pass c.args.number None None None None [] (duties_in c.in-Ok.duty) _ c.requires c.halt.ensures.pass h.1.grows
    (stopped-owe (owes None None) (state_at h.0) (state_at h.0).serial)
    (h.4 ∙ (ap (λ (l : List ℕ). duties_in c.in-Ok.duty ++ l) c.requires.duties ∙ append-nil (duties_in c.in-Ok.duty)))

pub returns-in-Ok-clause-halted : goal.returns-in-Ok-clause-halted
returns-in-Ok-clause-halted g c =
    let h = c.in-Ok.ensures.spreads in
    let v = view c.args.pass.now in
    let w = view c.halt.new.pass in
    let s = state_at h.0 in
    c.retire.ensures.halted
    (halted-stays (h.0 ++ signed v.number (Halt (s.serial + 1)) ∷ []) w.seen (spread_first v w h.0 (Halt (s.serial + 1)) (stopped_of s s.serial) h.1) (halted-after h.0 v.number (s.serial + 1) []))
