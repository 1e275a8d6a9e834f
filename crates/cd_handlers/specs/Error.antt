-- Part of the main theorem.
-- `error` (Caddy, JSON Config Structure, http.handlers.error).
use Rattle.std.specs.Prelude.{[], codes, unwrap_or, Result, Ok}
use Rattle.cd_text.specs.Steps.{◌▷◌}
use Rattle.cd_module.specs.Settings.{Reader, text, members, optional}
use Rattle.cd_fill.specs.declared.failure.Failure.{Failure}
use Rattle.cd_fill.specs.declared.scene.Scene.{Scene}
use Rattle.cd_handlers.specs.declared.error.StaticError.{StaticError}
use Rattle.cd_handlers.specs.declared.fault.HandlerFault.{HandlerFault}
use Rattle.cd_handlers.specs.declared.outcome.Effect.{Effect}
use Rattle.cd_handlers.specs.declared.outcome.Effect.TheVariants.{Failed}
use Rattle.cd_handlers.specs.Failing.{or_failed}
use Rattle.cd_handlers.specs.Filling.{text_filled}
use Rattle.cd_handlers.specs.Status.{status, status_given}

unfoldable pub static_error : Reader StaticError
static_error t at =
    members (codes "handler error status_code") t at ▷ λ ms.
    optional text (codes "error") ms at ▷ λ message.
    optional status (codes "status_code") ms at ▷ λ status.
    Ok (record { message = unwrap_or message []; status = status })

-- the status, 500 where none is given, and the message
unfoldable pub failure_filled : StaticError → Scene → Result Failure HandlerFault
failure_filled s x =
    status_given s.status 500 x ▷ λ status.
    text_filled x s.message ▷ λ message.
    Ok (record { status = status; message = message })

unfoldable pub error_effect : StaticError → Scene → Effect
error_effect s x = or_failed x (failure_filled s x) (λ failure. Failed x failure.status failure.message)
