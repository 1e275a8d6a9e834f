-- Part of the main theorem.
-- What routes make of a request (Caddy, JSON Config Structure, http.servers.routes, http.handlers.subroute and
-- http.handlers.invoke). Each step and each route is told by what it does to what follows it.
use Rattle.std.specs.Prelude.{ℕ, Bool, false, not, ◌&&◌, if◌then◌else◌, List, [], ◌∷◌, ◌++◌, map, Option, Some, None}
use Rattle.std.specs.List.{list_any}
use Rattle.std.specs.Str.{bytes_eq}
use Rattle.cd_wire.specs.declared.answer.Answer.{Answer}
use Rattle.cd_fill.specs.declared.scene.Scene.{Scene}
use Rattle.cd_match.specs.Holds.{holds}
use Rattle.cd_handlers.specs.Effect as handlers
use Rattle.cd_handlers.specs.Changes.{changed}
use Rattle.cd_handlers.specs.Effect.{deferred}
use Rattle.cd_handlers.specs.Invoke.{invoked}
use Rattle.cd_handlers.specs.Status.{usual_status}
use Rattle.cd_handlers.specs.declared.handler.Handler.{Handler}
use Rattle.cd_handlers.specs.declared.changes.FilledChanges.{FilledChanges}
use Rattle.cd_handlers.specs.declared.outcome.Effect.{Effect}
use Rattle.cd_handlers.specs.declared.outcome.Effect.TheVariants as effect
use Rattle.cd_routes.specs.declared.outcome.Outcome.{Outcome}
use Rattle.cd_routes.specs.declared.outcome.Outcome.TheVariants.{Answered, Failed}
use Rattle.cd_routes.specs.declared.route.Route.{Route, Route-F, fold-Route}
use Rattle.cd_routes.specs.declared.route.Step.{Step, fold-Step}
use Rattle.cd_routes.specs.declared.route.Step.TheOpen.{Step-F, Subroute-F}

-- what follows: what becomes of each scene that reaches it
abbrev pub Rest : Type 0
Rest = Scene → Outcome

-- what a step or a route does to what follows it
abbrev pub Middleware : Type 0
Middleware = Rest → Rest

-- an answer without a body: a status, and the fields that the answer is to have
abbrev pub bare_answer : ℕ → Scene → Answer
bare_answer status x = record { status = status; fields = x.response; body = []; close = false }

-- where nothing follows the answer has no body, and the status of the error in error routes, else 200
unfoldable pub nothing_left : Rest
nothing_left x = Answered (bare_answer (usual_status x.error) x)

-- one after another, and then what follows
unfoldable pub in_order : List Middleware → Rest → Rest
in_order [] rest = rest
in_order (first ∷ others) rest = first (in_order others rest)

-- ---- handlers

-- changes that a handler left for the answer; what failed stays as it is
unfoldable pub with_changes : Option FilledChanges → Outcome → Outcome
with_changes None outcome = outcome
with_changes (Some changes) (Answered a) = Answered (record a { fields = changed changes a.fields })
with_changes (Some changes) (Failed x status message) = Failed x status message

-- a handler that goes on leaves the scene to what follows, whose answer meets its changes; else it has answered, or failed
abbrev pub after : Option FilledChanges → Rest → Effect → Outcome
after changes rest (effect.Next x) = with_changes changes (rest x)
after changes rest (effect.Answered a) = Answered a
after changes rest (effect.Failed x status message) = Failed x status message

-- a handler: its effect and its changes are both of the scene that it finds
abbrev pub handled : Handler → Middleware
handled handler rest x = after (deferred handler x) rest (handlers.effect handler x)

-- ---- subroutes

-- the scene in which a failure is handled
abbrev pub with_error : ℕ → List ℕ → Scene → Scene
with_error status message x = record x { error = Some (record { status = status; message = message }) }

-- a failure goes to the errors, where they are given, and then to what follows
unfoldable pub caught : Option (List Middleware) → Rest → Outcome → Outcome
caught None rest outcome = outcome
caught (Some errors) rest (Answered a) = Answered a
caught (Some errors) rest (Failed x status message) = in_order errors rest (with_error status message x)

-- a subroute: its routes and then what follows, and its errors catch both
abbrev pub nested : Subroute-F Middleware Middleware Middleware → Middleware
nested s rest x = caught s.errors rest (in_order s.routes rest x)

-- ---- routes

-- a route of the group was taken
abbrev pub is_taken : Option (List ℕ) → Scene → Bool
is_taken None x = false
is_taken (Some group) x = list_any (bytes_eq group) x.groups

-- the group is taken
abbrev pub with_group : Option (List ℕ) → Scene → Scene
with_group None x = x
with_group (Some group) x = record x { groups = x.groups ++ group ∷ [] }

-- a route that matches, and whose group is not taken, takes it and does its steps, and then what follows or, where it is
-- terminal, nothing; another route is passed over
abbrev pub routed : Route-F Middleware Middleware Middleware → Middleware
routed r rest x =
    if holds r.matching x && not (is_taken r.group x)
    then in_order r.handle (if r.terminal then nothing_left else rest) (with_group r.group x)
    else rest x

-- ---- named routes

-- what the named route of each name does to what follows
abbrev pub Named : Type 0
Named = List ℕ → Middleware

-- an `invoke` does what its named route does
abbrev pub in_place : Named → Option (List ℕ) → Handler → Middleware
in_place named None handler = handled handler
in_place named (Some name) handler = named name

-- ---- the whole, where the named routes do this

-- a step is a handler or a subroute
abbrev pub step_level : Named → Step-F Middleware Middleware Middleware → Middleware
step_level named (Step-F.Handler handler) = in_place named (invoked handler) handler
step_level named (Step-F.Subroute subroute) = subroute

unfoldable pub run_route : Named → Route → Middleware
run_route named = fold-Route Middleware Middleware Middleware (step_level named) routed nested

unfoldable pub run_step : Named → Step → Middleware
run_step named = fold-Step Middleware Middleware Middleware (step_level named) routed nested

abbrev pub run_routes : Named → List Route → Middleware
run_routes named routes = in_order (map (run_route named) routes)

abbrev pub run_steps : Named → List Step → Middleware
run_steps named steps = in_order (map (run_step named) steps)
