use Rattle.std.proofs.Common.{[], ◌∷◌, Some, None, refl}
use Rattle.cd_gate.specs.Passes.{view}
use Rattle.cd_hall.specs.Drafts.{held, started_entry}
use Rattle.cd_serve.proofs.Works.{made-turned}
use Rattle.cd_serve.proofs.opening.start_next.Goals as goal

pub returns-in-Ok-clause-started : goal.returns-in-Ok-clause-started
returns-in-Ok-clause-started g c =
    let t = c.in-Ok.ensures.started in
    made-turned (view c.args.pass.now) (view c.start.new.pass) t.0 (started_entry (held c.args.draft.now) None ∷ []) t.1 refl c.in-Ok.ensures.duties

pub returns-in-Err-clause-started : goal.returns-in-Err-clause-started
returns-in-Err-clause-started g c =
    let t = c.in-Err.ensures.started in
    made-turned (view c.args.pass.now) (view c.start.new.pass) t.0 (started_entry (held c.args.draft.now) (Some c.in-Err.field-0.key) ∷ []) t.1 refl c.in-Err.ensures.duties
