use Rattle.std.proofs.Common.{rules, ◌≡◌, true, [], ◌∷◌, ◌++◌, refl, sym, subst}
use Rattle.cd_legal.specs.declared.entry.Entry.TheVariants.{Abandon}
use Rattle.cd_legal.specs.Entry.{signed}
use Rattle.cd_legal.specs.Laws.{core_at}
use Rattle.cd_gate.specs.declared.pass.Turn.{Turn}
use Rattle.cd_gate.specs.Passes.{view, opening_of}
use Rattle.cd_gate.specs.Steps.{may_note}
use Rattle.cd_desk.specs.declared.closing.Closing.{Closing}
use Rattle.cd_desk.specs.Closings.{IsClosing, MayClean}
use Rattle.cd_life.specs.Standing.{Stood}
use Rattle.cd_hall.specs.GoesOn.{GoesOn}
use Rattle.cd_hall.proofs.Noted.{may_abandon}
use Rattle.cd_hall.proofs.Drafted.{left_here}
use Rattle.cd_hall.proofs.Requested.{stands_on, allows}
use Rattle.cd_hall.proofs.abandoning.note_abandon.Goals as goal

pub abandon-abandoned-requires : goal.abandon-abandoned-requires
abandon-abandoned-requires g c = (search rules, (search rules, left_here g.F.Fixtures.calls g.F.Fixtures.faults g.M.ModuleSet.plan g.M.ModuleSet.change c.args.gate.now c.args.turn.now c.args.pass.now c.requires.turn c.args.draft c.requires.draft))

pub add-requires-clause-board : goal.add-requires-clause-board
add-requires-clause-board g c =
    subst (λ (z : Closing). Stood g.F.Fixtures.calls g.F.Fixtures.faults g.M.ModuleSet.plan g.M.ModuleSet.change (opening_of c.args.gate.now) c.abandon-abandoned.new.self (core_at (view c.args.pass.now).seen ++ signed (view c.args.pass.now).number (Abandon z.number) ∷ []))
    (sym c.abandon-abandoned.ensures.closing) (stands_on g.F.Fixtures.calls g.F.Fixtures.faults g.M.ModuleSet.plan g.M.ModuleSet.change c.args.gate.now c.args.turn.now c.args.pass.now c.requires.turn c.abandon-abandoned.new.self (Abandon c.args.draft.left.number) c.abandon-abandoned.ensures.entry)

pub add-requires-clause-may : goal.add-requires-clause-may
add-requires-clause-may g c =
    subst (λ (z : Closing). may_note (view c.args.pass.now) (Abandon z.number) ≡ true) (sym c.abandon-abandoned.ensures.closing)
    (may_abandon (view c.args.pass.now) c.args.draft.left.number
    (allows g.F.Fixtures.calls g.F.Fixtures.faults g.M.ModuleSet.plan g.M.ModuleSet.change c.args.gate.now c.args.turn.now c.args.pass.now c.requires.turn c.abandon-abandoned.new.self (Abandon c.args.draft.left.number) refl c.abandon-abandoned.ensures.entry) c.requires.draft.own)

pub returns-clause-goes : goal.returns-clause-goes
returns-clause-goes g c = subst (λ (z : Closing). GoesOn (view c.args.pass.now) (view c.add.new.pass) (Abandon z.number ∷ [])) c.abandon-abandoned.ensures.closing c.add.ensures.goes

pub returns-clause-at : goal.returns-clause-at
returns-clause-at g c = subst (λ (z : Turn _). IsClosing z.value.desk c.abandon-abandoned.result.closing) (sym c.add.ensures.same) c.abandon-abandoned.ensures.at

pub returns-clause-clean : goal.returns-clause-clean
returns-clause-clean g c = subst (λ (z : Turn _). MayClean z.value.desk.books c.args.draft.left.number) (sym c.add.ensures.same) c.abandon-abandoned.ensures.clean
