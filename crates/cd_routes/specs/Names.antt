-- Part of the main theorem.
-- The names of what stands in a route's `handle` (Caddy, JSON Config Structure, http.handlers).
use Rattle.std.specs.Prelude.{ℕ, List, codes}
use Rattle.cd_handlers.specs.Names.{handler_name}
use Rattle.cd_routes.specs.declared.route.Step.{Step, out-Step}
use Rattle.cd_routes.specs.declared.route.Step.TheOpen.{Step-F}

-- the name of a subroute
abbrev pub subroute_name : List ℕ
subroute_name = codes "subroute"

abbrev pub name_layer : {A B C : Type 0} → Step-F A B C → List ℕ
name_layer (Step-F.Handler h) = handler_name h
name_layer (Step-F.Subroute s) = subroute_name

-- the name of a handler or a subroute
abbrev pub step_name : Step → List ℕ
step_name s = name_layer (out-Step s)
