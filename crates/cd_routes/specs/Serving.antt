-- Part of the main theorem.
-- What a server answers (Caddy, JSON Config Structure, http.servers.errors).
use Rattle.std.specs.Prelude.{ℕ, List, Option, Some, None}
use Rattle.cd_wire.specs.declared.answer.Answer.{Answer}
use Rattle.cd_wire.specs.declared.request.Request.{Request}
use Rattle.cd_fill.specs.Scene.{scene_of, original_line}
use Rattle.cd_fill.specs.declared.scene.Scene.{Scene}
use Rattle.cd_routes.specs.Named.{named_routes}
use Rattle.cd_routes.specs.Running.{Named, bare_answer, nothing_left, run_routes, with_error}
use Rattle.cd_routes.specs.declared.outcome.Outcome.{Outcome}
use Rattle.cd_routes.specs.declared.outcome.Outcome.TheVariants.{Answered, Failed}
use Rattle.cd_routes.specs.declared.route.Route.{Route}
use Rattle.cd_routes.specs.declared.server.Server.{Server}

-- what is asked for is what was asked for at first again
abbrev pub restored : Scene → Scene
restored x = record x { current = original_line x; original = None }

-- the answer of error routes; where they fail too, one with the first error's status and the fields of its scene
abbrev pub error_answer : Scene → ℕ → Outcome → Answer
error_answer x status (Answered a) = a
error_answer x status (Failed y other message) = bare_answer status x

-- a failure of the routes goes to the server's errors, where they are given, with what was asked for at first
abbrev pub settled : Named → Option (List Route) → Outcome → Answer
settled named errors (Answered a) = a
settled named None (Failed x status message) = bare_answer status x
settled named (Some errors) (Failed x status message) =
    error_answer x status (run_routes named errors nothing_left (with_error status message (restored x)))

-- what a server answers to a request that has come to this scene, where its named routes do this
unfoldable pub answer_with : Named → Server → Scene → Answer
answer_with named server x = settled named server.errors (run_routes named server.routes nothing_left x)

-- what a server answers to a request that has come to this scene
abbrev pub answer_from : Server → Scene → Answer
answer_from server x = answer_with (named_routes server.named) server x

-- what a server answers to a request
abbrev pub server_answer : Server → Request → Answer
server_answer server request = answer_from server (scene_of request)
