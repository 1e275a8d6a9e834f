use Rattle.std.proofs.Common.{◌≡◌, ◌-◌, true, [], ◌∷◌, ◌++◌, refl, sym, subst}
use Rattle.cd_legal.specs.declared.entry.Entry.TheVariants.{Cleaned}
use Rattle.cd_legal.specs.Entry.{signed}
use Rattle.cd_legal.specs.Laws.{core_at}
use Rattle.cd_gate.specs.declared.pass.Turn.{Turn}
use Rattle.cd_gate.specs.Passes.{view, opening_of}
use Rattle.cd_gate.specs.Steps.{may_note}
use Rattle.cd_desk.specs.declared.closing.Closing.{Closing}
use Rattle.cd_desk.specs.Closings.{IsClosing, MayClean}
use Rattle.cd_life.specs.Standing.{Stood}
use Rattle.cd_hall.specs.GoesOn.{GoesOn}
use Rattle.cd_hall.proofs.Noted.{may_end}
use Rattle.cd_hall.proofs.Requested.{stands_on, allows}
use Rattle.cd_hall.proofs.stopping.clean_next.Goals as goal

pub clean-requires-clause-at : goal.clean-requires-clause-at
clean-requires-clause-at g c κs within = c.requires.closing.at

pub add-requires-clause-board : goal.add-requires-clause-board
add-requires-clause-board g c =
    subst (λ (z : Closing). Stood g.F.Fixtures.calls g.F.Fixtures.faults g.M.ModuleSet.plan g.M.ModuleSet.change (opening_of c.args.gate.now) c.clean.new.self (core_at (view c.args.pass.now).seen ++ signed (view c.args.pass.now).number (Cleaned z.number z.instances) ∷ []))
    (sym c.clean.ensures.closing) (stands_on g.F.Fixtures.calls g.F.Fixtures.faults g.M.ModuleSet.plan g.M.ModuleSet.change c.args.gate.now c.args.turn.now c.args.pass.now c.requires.closing.turn c.clean.new.self (Cleaned c.args.closing.now.number (c.args.closing.now.instances - 1)) c.clean.ensures.entry)

pub add-requires-clause-may : goal.add-requires-clause-may
add-requires-clause-may g c =
    subst (λ (z : Closing). may_note (view c.args.pass.now) (Cleaned z.number z.instances) ≡ true) (sym c.clean.ensures.closing)
    (may_end (view c.args.pass.now) (Cleaned c.args.closing.now.number (c.args.closing.now.instances - 1)) refl
    (allows g.F.Fixtures.calls g.F.Fixtures.faults g.M.ModuleSet.plan g.M.ModuleSet.change c.args.gate.now c.args.turn.now c.args.pass.now c.requires.closing.turn c.clean.new.self (Cleaned c.args.closing.now.number (c.args.closing.now.instances - 1)) refl c.clean.ensures.entry))

pub returns-clause-goes : goal.returns-clause-goes
returns-clause-goes g c = subst (λ (z : Closing). GoesOn (view c.args.pass.now) (view c.add.new.pass) (Cleaned z.number z.instances ∷ [])) c.clean.ensures.closing c.add.ensures.goes

pub returns-clause-at : goal.returns-clause-at
returns-clause-at g c = subst (λ (z : Turn _). IsClosing z.value.desk c.clean.new.closing) (sym c.add.ensures.same) c.clean.ensures.at

pub returns-clause-clean : goal.returns-clause-clean
returns-clause-clean g c = subst (λ (z : Turn _). MayClean z.value.desk.books c.args.closing.now.number) (sym c.add.ensures.same) c.clean.ensures.clean

pub add-requires-clause-turn : goal.add-requires-clause-turn
add-requires-clause-turn g c = c.requires.closing.turn.turn

pub add-requires-clause-knows : goal.add-requires-clause-knows
add-requires-clause-knows g c = c.requires.closing.turn.knows
