use Rattle.cd_standard.proofs.Checked.{first_app_has_none}
use Rattle.cd_standard.proofs.compiled.compile_apps.Goals as goal

pub compile_app-requires : goal.compile_app-requires
compile_app-requires c = first_app_has_none _ _ c.in-Some.app c.in-Some.ensures.steps.0 c.loop-app.invariant.acyclic
