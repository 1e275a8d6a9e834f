use Rattle.std.proofs.Common.{◌≡◌, ◌-◌, true, [], ◌∷◌, ◌++◌, refl, sym, subst}
use Rattle.cd_legal.specs.declared.entry.Entry.TheVariants.{Stopped}
use Rattle.cd_legal.specs.Entry.{signed}
use Rattle.cd_legal.specs.Laws.{core_at}
use Rattle.cd_gate.specs.declared.pass.Turn.{Turn}
use Rattle.cd_gate.specs.Passes.{view, opening_of}
use Rattle.cd_gate.specs.Steps.{may_note}
use Rattle.cd_desk.specs.declared.closing.Closing.{Closing}
use Rattle.cd_desk.specs.Closings.{IsClosing, MayClean}
use Rattle.cd_life.specs.Standing.{Stood}
use Rattle.cd_hall.specs.GoesOn.{GoesOn}
use Rattle.cd_hall.proofs.Noted.{may_end}
use Rattle.cd_hall.proofs.Requested.{stands_on, allows}
use Rattle.cd_hall.proofs.stopping.stop_next.Goals as goal

pub stop-requires-clause-at : goal.stop-requires-clause-at
stop-requires-clause-at g c κs within = c.requires.closing.at

pub add-requires-clause-board : goal.add-requires-clause-board
add-requires-clause-board g c =
    subst (λ (z : Closing). Stood g.F.Fixtures.calls g.F.Fixtures.faults g.M.ModuleSet.plan g.M.ModuleSet.change (opening_of c.args.gate.now) c.stop.new.self (core_at (view c.args.pass.now).seen ++ signed (view c.args.pass.now).number (Stopped z.number z.apps) ∷ []))
    (sym c.stop.ensures.closing) (stands_on g.F.Fixtures.calls g.F.Fixtures.faults g.M.ModuleSet.plan g.M.ModuleSet.change c.args.gate.now c.args.turn.now c.args.pass.now c.requires.closing.turn c.stop.new.self (Stopped c.args.closing.now.number (c.args.closing.now.apps - 1)) c.stop.ensures.entry)

pub add-requires-clause-may : goal.add-requires-clause-may
add-requires-clause-may g c =
    subst (λ (z : Closing). may_note (view c.args.pass.now) (Stopped z.number z.apps) ≡ true) (sym c.stop.ensures.closing)
    (may_end (view c.args.pass.now) (Stopped c.args.closing.now.number (c.args.closing.now.apps - 1)) refl
    (allows g.F.Fixtures.calls g.F.Fixtures.faults g.M.ModuleSet.plan g.M.ModuleSet.change c.args.gate.now c.args.turn.now c.args.pass.now c.requires.closing.turn c.stop.new.self (Stopped c.args.closing.now.number (c.args.closing.now.apps - 1)) refl c.stop.ensures.entry))

pub returns-clause-goes : goal.returns-clause-goes
returns-clause-goes g c = subst (λ (z : Closing). GoesOn (view c.args.pass.now) (view c.add.new.pass) (Stopped z.number z.apps ∷ [])) c.stop.ensures.closing c.add.ensures.goes

pub returns-clause-at : goal.returns-clause-at
returns-clause-at g c = subst (λ (z : Turn _). IsClosing z.value.desk c.stop.new.closing) (sym c.add.ensures.same) c.stop.ensures.at

pub returns-clause-clean : goal.returns-clause-clean
returns-clause-clean g c = λ may. subst (λ (z : Turn _). MayClean z.value.desk.books c.args.closing.now.number) (sym c.add.ensures.same) (c.stop.ensures.clean may)

pub add-requires-clause-turn : goal.add-requires-clause-turn
add-requires-clause-turn g c = c.requires.closing.turn.turn

pub add-requires-clause-knows : goal.add-requires-clause-knows
add-requires-clause-knows g c = c.requires.closing.turn.knows
