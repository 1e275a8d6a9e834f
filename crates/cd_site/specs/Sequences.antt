-- Handlers in sequence, each with its matchers: what they do one after another, and the routes that do the same.
use Rattle.std.specs.Prelude.{◌≡◌, ℕ, ◌+◌, ◌<◌, ◌&&◌, not, Bool, true, false, if◌then◌else◌, List, [], ◌∷◌, Option, Some, None, ⊤}
use Rattle.cd_wire.specs.declared.answer.Answer.{Answer}
use Rattle.cd_fill.specs.declared.scene.Scene.{Scene}
use Rattle.cd_match.specs.Holds.{holds}
use Rattle.cd_match.specs.declared.sets.Sets.{Sets}
use Rattle.cd_handlers.specs.Changes.{changed}
use Rattle.cd_handlers.specs.Effect as handlers
use Rattle.cd_handlers.specs.Effect.{deferred}
use Rattle.cd_handlers.specs.Invoke.{invoked}
use Rattle.cd_handlers.specs.Status.{usual_status}
use Rattle.cd_handlers.specs.declared.changes.FilledChanges.{FilledChanges}
use Rattle.cd_handlers.specs.declared.handler.Handler.{Handler}
use Rattle.cd_handlers.specs.declared.outcome.Effect.{Effect}
use Rattle.cd_handlers.specs.declared.outcome.Effect.TheVariants as effect
use Rattle.cd_routes.specs.Running.{bare_answer}
use Rattle.cd_routes.specs.declared.route.Route.{Route, roll-Route}
use Rattle.cd_routes.specs.declared.route.Step.{Step}
use Rattle.cd_routes.specs.declared.route.Step.TheVariants as step
use Rattle.cd_routes.specs.declared.route.Subroute.{roll-Subroute}

-- each first step with what follows it: a handler, one of the handlers of which one alone is done, or a sequence, of which one
-- alone is done too
pub data Sequence : Type 0 where
  done : Sequence
  act : Sets → Handler → Sequence → Sequence
  once : Sets → Handler → Sequence → Sequence
  inside : Sets → Sequence → Sequence → Sequence

-- no handler stands for a route that has its place elsewhere
abbrev pub HasNoInvoke : Sequence → Type 0
HasNoInvoke done = ⊤
HasNoInvoke (act m hd p) = (invoked hd ≡ None) × HasNoInvoke p
HasNoInvoke (once m hd p) = (invoked hd ≡ None) × HasNoInvoke p
HasNoInvoke (inside m i p) = HasNoInvoke i × HasNoInvoke p

-- ---- what a sequence does: it knows no routes and no groups

-- what becomes of a request: it goes on with the changes that were left for its answer, it is answered, or it fails
pub data Course : Type 0 where
  on : Scene → List FilledChanges → Course
  ends : Answer → Course
  breaks : Scene → ℕ → List ℕ → Course

-- the changes that were left, the last first
unfoldable pub all_changed : List FilledChanges → Answer → Answer
all_changed [] a = a
all_changed (c ∷ cs) a = all_changed cs (record a { fields = changed c a.fields })

-- the changes with those that one more handler leaves
abbrev pub push : Option FilledChanges → List FilledChanges → List FilledChanges
push None cs = cs
push (Some c) cs = c ∷ cs

-- a handler's effect, and what follows it
abbrev pub went : Effect → Option FilledChanges → List FilledChanges → (Scene → List FilledChanges → Course) → Course
went (effect.Next x) left cs next = next x (push left cs)
went (effect.Answered a) left cs next = ends (all_changed cs a)
went (effect.Failed x status message) left cs next = breaks x status message

-- what follows a sequence
abbrev pub then_on : Course → (Scene → List FilledChanges → Course) → Course
then_on (on x cs) next = next x cs
then_on (ends a) next = ends a
then_on (breaks x status message) next = breaks x status message

-- the steps in order; the flags say whether one of the handlers and one of the sequences of which one alone is done were done
unfoldable pub does : Sequence → Bool → Bool → Scene → List FilledChanges → Course
does done r h x cs = on x cs
does (act m hd p) r h x cs = if holds m x then went (handlers.effect hd x) (deferred hd x) cs (does p r h) else does p r h x cs
does (once m hd p) r h x cs =
    if holds m x && not r then went (handlers.effect hd x) (deferred hd x) cs (does p true h) else does p r h x cs
does (inside m i p) r h x cs = if holds m x && not h then then_on (does i false false x cs) (does p r true) else does p r h x cs

-- a sequence that ends without an answer gives one without a body
abbrev pub settled : Course → Answer
settled (on x cs) = all_changed cs (bare_answer (usual_status x.error) x)
settled (ends a) = a
settled (breaks x status message) = bare_answer status x

-- ---- the routes that do the same

abbrev pub has_once : Sequence → Bool
has_once done = false
has_once (act m hd p) = has_once p
has_once (once m hd p) = true
has_once (inside m i p) = has_once p

abbrev pub has_inside : Sequence → Bool
has_inside done = false
has_inside (act m hd p) = has_inside p
has_inside (once m hd p) = has_inside p
has_inside (inside m i p) = true

abbrev pub one_if : Bool → ℕ
one_if test = if test then 1 else 0

-- how many groups the sequences inside need
unfoldable pub groups_inside : Sequence → ℕ
groups_inside done = 0
groups_inside (act m hd p) = groups_inside p
groups_inside (once m hd p) = groups_inside p
groups_inside (inside m i p) = (one_if (has_once i) + one_if (has_inside i) + groups_inside i) + groups_inside p

abbrev pub groups_of : Sequence → ℕ
groups_of p = one_if (has_once p) + one_if (has_inside p) + groups_inside p

-- a route with one step
abbrev pub route : Option (List ℕ) → Sets → Step → Route
route group m does = roll-Route (record { group = group; matching = m; handle = does ∷ []; terminal = false })

abbrev pub subroute : List Route → Step
subroute routes = step.Subroute (roll-Subroute (record { routes = routes; errors = None }))

-- `name` gives the groups their names by their numbers: the group of the handlers, that of the sequences, and the first that is free
unfoldable pub routes_from : (ℕ → List ℕ) → Sequence → ℕ → ℕ → ℕ → List Route
routes_from name done rw hd n = []
routes_from name (act m h p) rw hd n = route None m (step.Handler h) ∷ routes_from name p rw hd n
routes_from name (once m h p) rw hd n = route (Some (name rw)) m (step.Handler h) ∷ routes_from name p rw hd n
routes_from name (inside m i p) rw hd n =
    route (Some (name hd)) m (subroute (routes_from name i n (n + one_if (has_once i)) (n + one_if (has_once i) + one_if (has_inside i))))
    ∷ routes_from name p rw hd (n + groups_of i)

-- the routes of a sequence whose first group has this number
abbrev pub routes_of : (ℕ → List ℕ) → Sequence → ℕ → List Route
routes_of name p n = routes_from name p n (n + one_if (has_once p)) (n + one_if (has_once p) + one_if (has_inside p))

-- distinct numbers below the limit have distinct names
pub record AreDistinct (name : ℕ → List ℕ) (limit : ℕ) : Type 0 where
  pub distinct : (k g : ℕ) → k < limit → g < limit → name k ≡ name g → k ≡ g
