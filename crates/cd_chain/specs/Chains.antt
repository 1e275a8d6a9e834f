-- What a chain answers, and of which routes it is made.
use Rattle.std.specs.Prelude.{◌≡◌, ℕ, List, Option, Some, None}
use Rattle.cd_wire.specs.declared.answer.Answer.{Answer}
use Rattle.cd_fill.specs.declared.scene.Scene.{Scene}
use Rattle.cd_routes.specs.declared.named.NamedRoute.{NamedRoute}
use Rattle.cd_routes.specs.declared.outcome.Outcome.{Outcome}
use Rattle.cd_routes.specs.declared.outcome.Outcome.TheVariants.{Answered, Failed}
use Rattle.cd_routes.specs.declared.route.Route.{Route}
use Rattle.cd_routes.specs.declared.server.Server.{Server}
use Rattle.cd_routes.specs.Named.{named_routes}
use Rattle.cd_routes.specs.Running.{Named, Rest, bare_answer, nothing_left, run_routes, with_error}
use Rattle.cd_routes.specs.Serving.{restored, error_answer}
use Rattle.cd_chain.specs.declared.chain.Chain.{Chain}
use Rattle.cd_chain.specs.declared.place.Place.{Place}
use Rattle.cd_chain.specs.Places.{at}

-- what becomes of a scene at a place, where no named route is being done
abbrev pub from_place : List Place → ℕ → Rest
from_place places n = at places n nothing_left

-- a failure goes to the error routes, where there are any
abbrev pub chain_settled : List Place → Option ℕ → Outcome → Answer
chain_settled places errors (Answered a) = a
chain_settled places None (Failed x status message) = bare_answer status x
chain_settled places (Some n) (Failed x status message) = error_answer x status (from_place places n (with_error status message (restored x)))

unfoldable pub chain_answer : Chain → Scene → Answer
chain_answer chain x = chain_settled chain.places chain.errors (from_place chain.places chain.routes x)

-- the error routes begin there
abbrev pub ErrorsStand : List Place → Option ℕ → Named → Option (List Route) → Type 0
ErrorsStand places None named errors = errors ≡ None
ErrorsStand places (Some n) named errors = (routes : List Route) × (errors ≡ Some routes) × (from_place places n ≡ run_routes named routes nothing_left)

-- the chain stands for these routes and error routes, with these named routes
pub record Stands (chain : Chain) (listed : List Route) (failing : Option (List Route)) (invoked : List NamedRoute) : Type 0 where
  pub main : from_place chain.places chain.routes ≡ run_routes (named_routes invoked) listed nothing_left
  pub errors : ErrorsStand chain.places chain.errors (named_routes invoked) failing

-- the chain was made of a server's routes
abbrev pub IsMadeOf : Chain → Server → Type 0
IsMadeOf chain server = Stands chain server.routes server.errors server.named
