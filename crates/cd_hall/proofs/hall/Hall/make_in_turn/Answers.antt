use Rattle.std.proofs.Common.{◌≡◌, ◌∙◌, ◌<◌, ◌++◌, ◌∷◌, ℕ, [], length, ap, sym, subst, refl, true}
use Rattle.cd_legal.specs.Entry.{signed}
use Rattle.cd_legal.specs.Laws.{core_at}
use Rattle.cd_legal.specs.Signing.{IsHistory}
use Rattle.cd_gate.specs.Passes.{view, opening_of}
use Rattle.cd_gate.specs.Steps.{may_note, noted}
use Rattle.cd_desk.specs.Instances.{failed_in}
use Rattle.cd_desk.specs.Lefts.{step_at}
use Rattle.cd_life.specs.Standing.{Stood}
use Rattle.cd_hall.specs.Calls.{StaysCalm}
use Rattle.cd_hall.specs.Drafts.{held, made_entry}
use Rattle.cd_hall.specs.GoesOn.{GoesOn}
use Rattle.cd_hall.proofs.Told.{if_ok}
use Rattle.cd_hall.proofs.Requested.{stays_calm}
use Rattle.cd_hall.proofs.Drafted.{said, err_is, left_here, held_made, made_here, may_make, draft_made}
use Rattle.cd_hall.proofs.hall.Hall.make_in_turn.Goals as goal

pub make-made-requires-clause-draft : goal.make-made-requires-clause-draft
make-made-requires-clause-draft g c κs within = left_here g.F.Fixtures.calls g.F.Fixtures.faults g.M.ModuleSet.plan g.M.ModuleSet.change c.args.self.now.gate c.args.turn.now c.args.pass.now c.requires.draft.turn c.args.draft.now c.requires.draft.draft

pub make-made-requires-clause-more : goal.make-made-requires-clause-more
make-made-requires-clause-more g c κs within = subst (λ (n : ℕ). c.args.draft.now.left.made < n) (sym c.requires.draft.draft.modules) c.requires.more

pub make-made-requires-clause-unfailed : goal.make-made-requires-clause-unfailed
make-made-requires-clause-unfailed g c κs within = c.requires.draft.unfailed

pub add-requires-clause-board : goal.add-requires-clause-board
add-requires-clause-board g c =
    let v = view c.args.pass.now in
    said
    (λ d r. Stood g.F.Fixtures.calls g.F.Fixtures.faults g.M.ModuleSet.plan g.M.ModuleSet.change (opening_of c.args.self.now.gate) c.make-made.new.self (core_at v.seen ++ signed v.number (made_entry (held d) (failed_in r)) ∷ []))
    c.args.draft.now c.of-was.result.value c.make-made.result c.of-said.result.value c.of-was.ensures c.of-said.ensures
    (made_here g.F.Fixtures.calls g.F.Fixtures.faults g.M.ModuleSet.plan g.M.ModuleSet.change c.args.self.now.gate c.args.turn.now c.args.pass.now c.requires.draft.turn c.make-made.new.self c.args.draft.now (failed_in c.make-made.result) c.requires.draft.draft c.make-made.ensures.entry).1

pub add-requires-clause-may : goal.add-requires-clause-may
add-requires-clause-may g c =
    let v = view c.args.pass.now in
    said (λ d r. may_note v (made_entry (held d) (failed_in r)) ≡ true) c.args.draft.now c.of-was.result.value c.make-made.result c.of-said.result.value c.of-was.ensures c.of-said.ensures
    (may_make v (held c.args.draft.now) (failed_in c.make-made.result) c.requires.draft.draft.own
    (made_here g.F.Fixtures.calls g.F.Fixtures.faults g.M.ModuleSet.plan g.M.ModuleSet.change c.args.self.now.gate c.args.turn.now c.args.pass.now c.requires.draft.turn c.make-made.new.self c.args.draft.now (failed_in c.make-made.result) c.requires.draft.draft c.make-made.ensures.entry).0)

pub returns-clause-goes : goal.returns-clause-goes
returns-clause-goes g c =
    said (λ d r. GoesOn (view c.args.pass.now) (view c.add.new.pass) (made_entry (held d) (failed_in r) ∷ [])) c.of-was.result.value c.args.draft.now c.of-said.result.value c.make-made.result (sym c.of-was.ensures) (sym c.of-said.ensures) c.add.ensures.goes

pub returns-clause-held : goal.returns-clause-held
returns-clause-held g c = held_made c.args.draft.now c.make-made.new.draft _ c.make-made.ensures.left c.make-made.ensures.loaded

pub returns-clause-draft : goal.returns-clause-draft
returns-clause-draft g c =
    draft_made (view c.args.pass.now) (view c.add.new.pass) c.add.ensures.noted.0 c.args.draft.now c.make-made.new.draft (failed_in c.make-made.result) _ c.add.ensures.noted.1.core_is c.requires.draft.draft
    (said (λ d r. view c.add.new.pass ≡ noted (view c.args.pass.now) c.add.ensures.noted.0 (made_entry (held d) (failed_in r))) c.of-was.result.value c.args.draft.now c.of-said.result.value c.make-made.result (sym c.of-was.ensures) (sym c.of-said.ensures) c.add.ensures.noted.2)
    c.make-made.ensures.left c.make-made.ensures.loaded (err_is c.make-made.result)

pub returns-clause-calm : goal.returns-clause-calm
returns-clause-calm g c =
    let v = view c.args.pass.now in
    let t = c.add.ensures.noted in
    said (λ d r. IsHistory (t.0 ++ signed v.number (made_entry (held d) (failed_in r)) ∷ []) → StaysCalm v (view c.add.new.pass)) c.of-was.result.value c.args.draft.now c.of-said.result.value c.make-made.result (sym c.of-was.ensures) (sym c.of-said.ensures)
    (λ now. stays_calm v (view c.add.new.pass) t.0 (made_entry (held c.of-was.result.value) (failed_in c.of-said.result.value)) t.1 now refl c.requires.draft.left t.2)
    (said (λ d r. IsHistory (t.0 ++ signed v.number (made_entry (held d) (failed_in r)) ∷ [])) c.of-was.result.value c.args.draft.now c.of-said.result.value c.make-made.result (sym c.of-was.ensures) (sym c.of-said.ensures) t.3)

pub returns-clause-step : goal.returns-clause-step
returns-clause-step g c =
    let new = c.make-made.new.draft in
    let has = draft_made (view c.args.pass.now) (view c.add.new.pass) c.add.ensures.noted.0 c.args.draft.now c.make-made.new.draft (failed_in c.make-made.result) _ c.add.ensures.noted.1.core_is c.requires.draft.draft
    (said (λ d r. view c.add.new.pass ≡ noted (view c.args.pass.now) c.add.ensures.noted.0 (made_entry (held d) (failed_in r))) c.of-was.result.value c.args.draft.now c.of-said.result.value c.make-made.result (sym c.of-was.ensures) (sym c.of-said.ensures) c.add.ensures.noted.2)
    c.make-made.ensures.left c.make-made.ensures.loaded (err_is c.make-made.result) in
    if_ok (λ step. step ≡ step_at new.left.made new.left.modules) (λ step. step ≡ step_at new.left.made (length (held new).plan.modules)) c.make-made.result (λ step is. is ∙ ap (step_at new.left.made) has.modules) c.make-made.ensures.step

pub add-requires-clause-turn : goal.add-requires-clause-turn
add-requires-clause-turn g c = c.requires.draft.turn.turn

pub add-requires-clause-knows : goal.add-requires-clause-knows
add-requires-clause-knows g c = c.requires.draft.turn.knows
