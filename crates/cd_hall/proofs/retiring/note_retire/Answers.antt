use Rattle.std.proofs.Common.{rules, sym, subst}
use Rattle.cd_legal.specs.declared.entry.Entry.TheVariants.{Retire}
use Rattle.cd_gate.specs.declared.pass.Turn.{Turn}
use Rattle.cd_gate.specs.Passes.{view}
use Rattle.cd_life.specs.Removals.{HandsBack}
use Rattle.cd_hall.proofs.InHand.{retires_here}
use Rattle.cd_hall.proofs.Noted.{may_retire_it}
use Rattle.cd_hall.proofs.Requested.{stands_on}
use Rattle.cd_hall.proofs.retiring.note_retire.Goals as goal

pub retire-removed-requires : goal.retire-removed-requires
retire-removed-requires g c =
    (search rules, (search rules, retires_here g.F.Fixtures.calls g.F.Fixtures.faults g.M.ModuleSet.plan g.M.ModuleSet.change c.args.gate.now c.args.turn.now c.args.pass.now c.requires.turn c.args.serial c.requires.duty))

pub add-requires-clause-board : goal.add-requires-clause-board
add-requires-clause-board g c = stands_on g.F.Fixtures.calls g.F.Fixtures.faults g.M.ModuleSet.plan g.M.ModuleSet.change c.args.gate.now c.args.turn.now c.args.pass.now c.requires.turn c.retire-removed.new.self (Retire c.args.serial) c.retire-removed.ensures.entry

pub add-requires-clause-may : goal.add-requires-clause-may
add-requires-clause-may g c = may_retire_it (view c.args.pass.now) c.args.serial c.requires.duty

pub returns-clause-removed : goal.returns-clause-removed
returns-clause-removed g c = subst (λ (z : Turn _). HandsBack c.args.serial c.args.turn.now.value.kept.items z.value.kept.items c.retire-removed.result) (sym c.add.ensures.same) c.retire-removed.ensures.removed
