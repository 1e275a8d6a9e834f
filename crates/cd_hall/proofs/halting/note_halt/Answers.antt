use Rattle.std.proofs.Common.{ℕ, ◌+◌, Some, refl, sym, ap, ◌∙◌}
use Rattle.cd_legal.specs.declared.entry.Entry.TheVariants.{Halt}
use Rattle.cd_gate.specs.Passes.{view}
use Rattle.cd_life.specs.Standing.{Stood}
use Rattle.cd_hall.proofs.GivenUp.{same_turn}
use Rattle.cd_hall.proofs.Goes.{goes_superseded}
use Rattle.cd_hall.proofs.InHand.{running_here, bound_here, halts_here}
use Rattle.cd_hall.proofs.Requested.{stands_on}
use Rattle.cd_hall.proofs.Turning.{superseded_turn}
use Rattle.cd_hall.proofs.halting.note_halt.Goals as goal

pub halt-requires-clause-running : goal.halt-requires-clause-running
halt-requires-clause-running g c κs within = running_here g.F.Fixtures.calls g.F.Fixtures.faults g.M.ModuleSet.plan g.M.ModuleSet.change c.args.gate.now c.halt_step-begins.new.turn c.args.pass.now (same_turn (Stood g.F.Fixtures.calls g.F.Fixtures.faults g.M.ModuleSet.plan g.M.ModuleSet.change) c.args.gate.now c.args.turn.now c.halt_step-begins.new.turn c.args.pass.now c.requires.turn (ap (λ z. z.value) c.halt_step-begins.ensures.same)) c.requires.running

pub halt-requires-clause-bound : goal.halt-requires-clause-bound
halt-requires-clause-bound g c κs within = bound_here g.F.Fixtures.calls g.F.Fixtures.faults g.M.ModuleSet.plan g.M.ModuleSet.change c.args.gate.now c.halt_step-begins.new.turn c.args.pass.now (same_turn (Stood g.F.Fixtures.calls g.F.Fixtures.faults g.M.ModuleSet.plan g.M.ModuleSet.change) c.args.gate.now c.args.turn.now c.halt_step-begins.new.turn c.args.pass.now c.requires.turn (ap (λ z. z.value) c.halt_step-begins.ensures.same)) c.args.serial c.requires.current.0 c.requires.current.1

pub returns-clause-turn : goal.returns-clause-turn
returns-clause-turn g c =
    let t = c.halt_step-begins.ensures.halts in
    superseded_turn (Stood g.F.Fixtures.calls g.F.Fixtures.faults g.M.ModuleSet.plan g.M.ModuleSet.change) c.args.gate.now _ c.args.pass.now c.halt_step-begins.new.pass t.0 (Halt (c.args.serial + 1)) c.args.serial _ c.requires.turn.knows t.1 t.4 refl c.halt_step-begins.ensures.pass t.3
    (stands_on g.F.Fixtures.calls g.F.Fixtures.faults g.M.ModuleSet.plan g.M.ModuleSet.change c.args.gate.now c.halt_step-begins.new.turn c.args.pass.now (same_turn (Stood g.F.Fixtures.calls g.F.Fixtures.faults g.M.ModuleSet.plan g.M.ModuleSet.change) c.args.gate.now c.args.turn.now c.halt_step-begins.new.turn c.args.pass.now c.requires.turn (ap (λ z. z.value) c.halt_step-begins.ensures.same)) c.halt.new.self (Halt (c.args.serial + 1)) (halts_here g.F.Fixtures.calls g.F.Fixtures.faults g.M.ModuleSet.plan g.M.ModuleSet.change c.args.gate.now c.halt_step-begins.new.turn c.args.pass.now (same_turn (Stood g.F.Fixtures.calls g.F.Fixtures.faults g.M.ModuleSet.plan g.M.ModuleSet.change) c.args.gate.now c.args.turn.now c.halt_step-begins.new.turn c.args.pass.now c.requires.turn (ap (λ z. z.value) c.halt_step-begins.ensures.same)) c.args.serial c.requires.current.0 c.halt.new.self c.halt.ensures.entry))

pub returns-clause-goes : goal.returns-clause-goes
returns-clause-goes g c =
    let t = c.halt_step-begins.ensures.halts in
    goes_superseded (view c.args.pass.now) (view c.halt_step-begins.new.pass) t.0 (Halt (c.args.serial + 1)) c.args.serial _ c.requires.turn.knows t.1 t.4 refl t.3

pub returns-clause-unsettled : goal.returns-clause-unsettled
returns-clause-unsettled g c =
    let t = c.halt_step-begins.ensures.halts in
    ap (λ z. z.unsettled) t.3 ∙ ap (λ (m : ℕ). Some (record { serial = c.args.serial; begins = m })) (sym t.2)
