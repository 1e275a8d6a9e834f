-- Part of the main theorem.
-- What handlers do.
use Rattle.std.specs.Prelude.{Bool, true, false, Option, None}
use Rattle.cd_fill.specs.declared.scene.Scene.{Scene}
use Rattle.cd_handlers.specs.declared.changes.FilledChanges.{FilledChanges}
use Rattle.cd_handlers.specs.declared.handler.Handler.{Handler}
use Rattle.cd_handlers.specs.declared.handler.Handler.TheVariants as kind
use Rattle.cd_handlers.specs.declared.outcome.Effect.{Effect}
use Rattle.cd_handlers.specs.declared.outcome.Effect.TheVariants.{Next, Answered, Failed}
use Rattle.cd_handlers.specs.Error.{error_effect}
use Rattle.cd_handlers.specs.Headers.{headers_effect, headers_deferred}
use Rattle.cd_handlers.specs.Rewrite.{rewrite_effect}
use Rattle.cd_handlers.specs.StaticResponse.{static_effect}
use Rattle.cd_handlers.specs.Vars.{variables_set}

-- what a handler does by itself in a scene; an `invoke` does nothing by itself
unfoldable pub effect : Handler → Scene → Effect
effect (kind.StaticResponse s) x = static_effect s x
effect (kind.Headers s) x = headers_effect s x
effect (kind.Rewrite s) x = rewrite_effect s x
effect (kind.Vars s) x = variables_set s.settings x
effect (kind.Error s) x = error_effect s x
effect (kind.Invoke s) x = Next x

-- the changes that it leaves for the answer of what follows it; `headers` alone leaves any
unfoldable pub deferred : Handler → Scene → Option FilledChanges
deferred (kind.StaticResponse s) x = None
deferred (kind.Headers s) x = headers_deferred s x
deferred (kind.Rewrite s) x = None
deferred (kind.Vars s) x = None
deferred (kind.Error s) x = None
deferred (kind.Invoke s) x = None

-- whether the request goes on
abbrev pub has_gone_on : Effect → Bool
has_gone_on (Next x) = true
has_gone_on (Answered a) = false
has_gone_on (Failed x status message) = false
