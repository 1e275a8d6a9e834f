-- Part of the main theorem.
-- `invoke` (Caddy, JSON Config Structure, http.handlers.invoke).
use Rattle.std.specs.Prelude.{ℕ, List, codes, Option, Some, None, Ok}
use Rattle.cd_text.specs.Steps.{◌▷◌}
use Rattle.cd_module.specs.Settings.{Reader, text, members, needed}
use Rattle.cd_handlers.specs.declared.handler.Handler.{Handler}
use Rattle.cd_handlers.specs.declared.handler.Handler.TheVariants as handler
use Rattle.cd_handlers.specs.declared.invoke.Invoke.{Invoke}

unfoldable pub invoke : Reader Invoke
invoke t at =
    members (codes "handler name") t at ▷ λ ms.
    needed text (codes "name") ms at ▷ λ name.
    Ok (record { name = name })

-- the name of the route that a handler invokes, where it is an `invoke`
abbrev pub invoked : Handler → Option (List ℕ)
invoked (handler.StaticResponse s) = None
invoked (handler.Headers s) = None
invoked (handler.Rewrite s) = None
invoked (handler.Vars s) = None
invoked (handler.Error s) = None
invoked (handler.Invoke s) = Some s.name
