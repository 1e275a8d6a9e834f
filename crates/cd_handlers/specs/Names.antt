-- Part of the main theorem.
-- The names of handlers (Caddy, JSON Config Structure, http.handlers).
use Rattle.std.specs.Prelude.{ℕ, List, [], ◌∷◌, codes, Option}
use Rattle.std.specs.List.{find}
use Rattle.std.specs.Str.{bytes_eq}
use Rattle.cd_handlers.specs.declared.handler.Handler.{Handler}
use Rattle.cd_handlers.specs.declared.handler.Handler.TheVariants as handler
use Rattle.cd_handlers.specs.declared.kind.HandlerKind.{HandlerKind}
use Rattle.cd_handlers.specs.declared.kind.HandlerKind.TheVariants.{StaticResponse, Headers, Rewrite, Vars, Error, Invoke}

-- the name of each
unfoldable pub kind_name : HandlerKind → List ℕ
kind_name StaticResponse = codes "static_response"
kind_name Headers = codes "headers"
kind_name Rewrite = codes "rewrite"
kind_name Vars = codes "vars"
kind_name Error = codes "error"
kind_name Invoke = codes "invoke"

abbrev pub kinds : List HandlerKind
kinds = StaticResponse ∷ Headers ∷ Rewrite ∷ Vars ∷ Error ∷ Invoke ∷ []

-- the one with that name
unfoldable pub kind_named : List ℕ → Option HandlerKind
kind_named name = find (λ kind. bytes_eq (kind_name kind) name) kinds

-- which one a handler is
abbrev pub kind_of : Handler → HandlerKind
kind_of (handler.StaticResponse s) = StaticResponse
kind_of (handler.Headers s) = Headers
kind_of (handler.Rewrite s) = Rewrite
kind_of (handler.Vars s) = Vars
kind_of (handler.Error s) = Error
kind_of (handler.Invoke s) = Invoke

-- its name
abbrev pub handler_name : Handler → List ℕ
handler_name h = kind_name (kind_of h)
