use Rattle.std.proofs.Common.{[], ◌∷◌, Some, None, refl}
use Rattle.cd_gate.specs.Passes.{view}
use Rattle.cd_hall.specs.Drafts.{held, made_entry}
use Rattle.cd_serve.proofs.Works.{made-turned}
use Rattle.cd_serve.proofs.opening.make_next.Goals as goal

pub returns-in-Ok-clause-made : goal.returns-in-Ok-clause-made
returns-in-Ok-clause-made g c =
    let t = c.in-Ok.ensures.made in
    made-turned (view c.args.pass.now) (view c.provision.new.pass) t.0 (made_entry (held c.args.draft.now) None ∷ []) t.1 refl c.in-Ok.ensures.duties

pub returns-in-Err-clause-made : goal.returns-in-Err-clause-made
returns-in-Err-clause-made g c =
    let t = c.in-Err.ensures.made in
    made-turned (view c.args.pass.now) (view c.provision.new.pass) t.0 (made_entry (held c.args.draft.now) (Some c.in-Err.field-0.key) ∷ []) t.1 refl c.in-Err.ensures.duties
