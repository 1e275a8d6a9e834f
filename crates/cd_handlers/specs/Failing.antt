-- Part of the main theorem.
-- What becomes of a handler that is unable to do what it should.
use Rattle.std.specs.Prelude.{[], Result, Ok, Err}
use Rattle.cd_fill.specs.declared.scene.Scene.{Scene}
use Rattle.cd_handlers.specs.declared.fault.HandlerFault.{HandlerFault}
use Rattle.cd_handlers.specs.declared.outcome.Effect.{Effect}
use Rattle.cd_handlers.specs.declared.outcome.Effect.TheVariants.{Failed}

-- what is done with what was filled; a handler that is unable fails with 500 and an empty message, and the scene stays
abbrev pub or_failed : {A : Type 0} → Scene → Result A HandlerFault → (A → Effect) → Effect
or_failed x (Ok value) done = done value
or_failed x (Err fault) done = Failed x 500 []
