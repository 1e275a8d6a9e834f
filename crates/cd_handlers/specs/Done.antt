-- What a handler has done with a scene that was lent to it, as an effect and as what is left for the answer.
use Rattle.std.specs.Prelude.{Option, Some, None}
use Rattle.cd_fill.specs.declared.scene.Scene.{Scene}
use Rattle.cd_handlers.specs.declared.changes.FilledChanges.{FilledChanges}
use Rattle.cd_handlers.specs.declared.outcome.Done.{Done}
use Rattle.cd_handlers.specs.declared.outcome.Done.TheVariants as done
use Rattle.cd_handlers.specs.declared.outcome.Effect.{Effect}
use Rattle.cd_handlers.specs.declared.outcome.Effect.TheVariants.{Next, Answered, Failed}

-- the effect of what left this scene
abbrev pub effect_of : Done → Scene → Effect
effect_of done.Goes x = Next x
effect_of (done.Leaves changes) x = Next x
effect_of (done.Answered a) x = Answered a
effect_of (done.Failed status message) x = Failed x status message

-- the changes that are left for the answer
abbrev pub left_by : Done → Option FilledChanges
left_by done.Goes = None
left_by (done.Leaves changes) = Some changes
left_by (done.Answered a) = None
left_by (done.Failed status message) = None
