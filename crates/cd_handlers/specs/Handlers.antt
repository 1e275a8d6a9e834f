-- Part of the main theorem.
-- Handlers by their names.
use Rattle.std.specs.Prelude.{ℕ, List, ◌++◌, codes, Option, Some, None, Ok, Err}
use Rattle.cd_text.specs.Steps.{◌▷◌}
use Rattle.cd_module.specs.Faults.{unknown_module}
use Rattle.cd_module.specs.Settings.{Reader, name_of}
use Rattle.cd_handlers.specs.declared.handler.Handler.{Handler}
use Rattle.cd_handlers.specs.declared.handler.Handler.TheVariants.{StaticResponse, Headers, Rewrite, Vars, Error, Invoke}
use Rattle.cd_handlers.specs.declared.kind.HandlerKind.{HandlerKind}
use Rattle.cd_handlers.specs.declared.kind.HandlerKind.TheVariants as kind
use Rattle.cd_handlers.specs.Error.{static_error}
use Rattle.cd_handlers.specs.Headers.{headers}
use Rattle.cd_handlers.specs.Invoke.{invoke}
use Rattle.cd_handlers.specs.Names.{kind_named}
use Rattle.cd_handlers.specs.Rewrite.{rewrite}
use Rattle.cd_handlers.specs.StaticResponse.{static_response}
use Rattle.cd_handlers.specs.Vars.{vars}

-- a handler of a kind
unfoldable pub handler_of : HandlerKind → Reader Handler
handler_of kind.StaticResponse t at = static_response t at ▷ λ s. Ok (StaticResponse s)
handler_of kind.Headers t at = headers t at ▷ λ s. Ok (Headers s)
handler_of kind.Rewrite t at = rewrite t at ▷ λ s. Ok (Rewrite s)
handler_of kind.Vars t at = vars t at ▷ λ s. Ok (Vars s)
handler_of kind.Error t at = static_error t at ▷ λ s. Ok (Error s)
handler_of kind.Invoke t at = invoke t at ▷ λ s. Ok (Invoke s)

-- the handler of a name, where there is one
abbrev pub known_handler : List ℕ → Option HandlerKind → Reader Handler
known_handler name None t at = Err (unknown_module (codes "http.handlers." ++ name) at)
known_handler name (Some which) t at = handler_of which t at

-- a handler: its name is read before anything else
unfoldable pub handler : Reader Handler
handler t at = name_of (codes "handler") t at ▷ λ name. known_handler name (kind_named name) t at
