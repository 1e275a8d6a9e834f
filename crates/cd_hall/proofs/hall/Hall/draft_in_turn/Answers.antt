use Rattle.std.proofs.Common.{◌≡◌, ◌∙◌, ◌++◌, ◌∷◌, [], ap, sym, subst, refl, true, length}
use Rattle.cd_legal.specs.Entry.{signed}
use Rattle.cd_legal.specs.Laws.{core_at}
use Rattle.cd_gate.specs.Passes.{view, opening_of}
use Rattle.cd_gate.specs.Steps.{may_note, noted}
use Rattle.cd_life.specs.Standing.{Stood}
use Rattle.cd_hall.specs.Drafts.{held, draft_entry}
use Rattle.cd_hall.specs.GoesOn.{GoesOn}
use Rattle.cd_hall.proofs.Requested.{stays_calm}
use Rattle.cd_hall.proofs.Drafted.{may_draft, drafted, drafted_here, drafts_here, entry_new, held_new}
use Rattle.cd_hall.proofs.hall.Hall.draft_in_turn.Goals as goal

pub add-requires-clause-board : goal.add-requires-clause-board
add-requires-clause-board g c =
    let v = view c.args.pass.now in
    subst (λ d. Stood g.F.Fixtures.calls g.F.Fixtures.faults g.M.ModuleSet.plan g.M.ModuleSet.change (opening_of c.args.self.now.gate) c.draft.new.self (core_at v.seen ++ signed v.number (draft_entry (held d)) ∷ [])) (sym c.of-said.ensures)
    (drafted_here g.F.Fixtures.calls g.F.Fixtures.faults g.M.ModuleSet.plan g.M.ModuleSet.change c.args.self.now.gate c.args.turn.now c.args.pass.now c.requires.turn c.draft.new.self c.in-Ok.draft c.args.loaded.tree c.args.loaded.plan (ap (λ z. z.tree) c.in-Ok.ensures.loaded) (ap (λ z. z.plan) c.in-Ok.ensures.loaded) c.in-Ok.ensures.entry).1

pub add-requires-clause-may : goal.add-requires-clause-may
add-requires-clause-may g c =
    let v = view c.args.pass.now in
    subst (λ d. may_note v (draft_entry (held d)) ≡ true) (sym c.of-said.ensures)
    (may_draft v (held c.in-Ok.draft) c.requires.free
    (drafted_here g.F.Fixtures.calls g.F.Fixtures.faults g.M.ModuleSet.plan g.M.ModuleSet.change c.args.self.now.gate c.args.turn.now c.args.pass.now c.requires.turn c.draft.new.self c.in-Ok.draft c.args.loaded.tree c.args.loaded.plan (ap (λ z. z.tree) c.in-Ok.ensures.loaded) (ap (λ z. z.plan) c.in-Ok.ensures.loaded) c.in-Ok.ensures.entry).0)

pub returns-clause-goes : goal.returns-clause-goes
returns-clause-goes g c =
    subst (λ e. GoesOn (view c.args.pass.now) (view c.add.new.pass) (e ∷ [])) (entry_new c.in-Ok.draft c.args.loaded.tree c.args.loaded.plan (ap (λ z. z.tree) c.in-Ok.ensures.loaded) (ap (λ z. z.plan) c.in-Ok.ensures.loaded))
    (subst (λ d. GoesOn (view c.args.pass.now) (view c.add.new.pass) (draft_entry (held d) ∷ [])) c.of-said.ensures c.add.ensures.goes)

pub returns-clause-draft : goal.returns-clause-draft
returns-clause-draft g c =
    let v = view c.args.pass.now in
    let t = c.add.ensures.noted in
    drafted v (view c.add.new.pass) t.0 c.in-Ok.draft _ _ t.1.core_is
    (drafted_here g.F.Fixtures.calls g.F.Fixtures.faults g.M.ModuleSet.plan g.M.ModuleSet.change c.args.self.now.gate c.args.turn.now c.args.pass.now c.requires.turn c.draft.new.self c.in-Ok.draft c.args.loaded.tree c.args.loaded.plan (ap (λ z. z.tree) c.in-Ok.ensures.loaded) (ap (λ z. z.plan) c.in-Ok.ensures.loaded) c.in-Ok.ensures.entry).0
    c.in-Ok.ensures.left (ap (λ z. length z.plan.modules) (sym c.in-Ok.ensures.loaded)) (ap (λ z. length z.plan.apps) (sym c.in-Ok.ensures.loaded))
    (t.2 ∙ ap (λ d. noted v t.0 (draft_entry (held d))) c.of-said.ensures)

pub returns-clause-new : goal.returns-clause-new
returns-clause-new g c = held_new c.in-Ok.draft c.args.loaded.tree c.args.loaded.plan _ _ c.in-Ok.ensures.left (ap (λ z. z.tree) c.in-Ok.ensures.loaded) (ap (λ z. z.plan) c.in-Ok.ensures.loaded)

pub returns-clause-calm : goal.returns-clause-calm
returns-clause-calm g c =
    let t = c.add.ensures.noted in
    stays_calm (view c.args.pass.now) (view c.add.new.pass) t.0 (draft_entry (held c.of-said.result.value)) t.1 t.3 refl c.requires.left t.2

pub returns-clause-checked : goal.returns-clause-checked
returns-clause-checked g c = c.add.ensures.goes.checked

pub returns-in-Err-clause-spent : goal.returns-in-Err-clause-spent
returns-in-Err-clause-spent g c is = drafts_here g.F.Fixtures.calls g.F.Fixtures.faults g.M.ModuleSet.plan g.M.ModuleSet.change c.args.self.now.gate c.args.turn.now c.args.pass.now c.requires.turn ∙ c.in-Err.ensures.spent is
