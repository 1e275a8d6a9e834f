-- What a client is answered, by what came of the exchange.
use Rattle.std.specs.Prelude.{◌≡◌, ℕ, Bool, true, false, ◌||◌, List, [], ◌∷◌, codes}
use Rattle.cd_wire.specs.declared.answer.Answer.{Answer}
use Rattle.cd_wire.specs.declared.request.Request.{Request}
use Rattle.cd_wire.specs.Render.{is_head, render}
use Rattle.cd_session.specs.Ways.{IsProperPrefix}
use Rattle.cd_proxy.specs.declared.answering.How.{How}
use Rattle.cd_proxy.specs.declared.answering.How.TheVariants as how
use Rattle.cd_proxy.specs.declared.exchanges.Outcome.{Outcome}
use Rattle.cd_proxy.specs.declared.exchanges.Outcome.TheVariants as outcome

-- the answer where no response can be passed on (RFC 9110, section 15.6.3)
abbrev pub bad_gateway : Answer
bad_gateway = record {
  status = 502;
  fields = record { name = codes "server"; value = codes "Caddy" } ∷ [];
  body = [];
  close = false;
}

-- the answer to a request, by what came of it; where memory was lacking, none is sent
abbrev pub answer_of : Outcome → Answer
answer_of (outcome.Passed answer) = answer
answer_of outcome.Bad = bad_gateway
answer_of outcome.Failed = bad_gateway
answer_of outcome.NoMemory = bad_gateway

-- an upstream is good whose response is passed on
abbrev pub is_good : Outcome → Bool
is_good (outcome.Passed answer) = true
is_good outcome.Bad = false
is_good outcome.Failed = false
is_good outcome.NoMemory = false

-- ---- what is sent

-- the bytes of an answer to the request
abbrev pub sent : Request → Answer → List ℕ
sent q r = render r (is_head q) q.close

-- what was sent of an answer: all, and whether the connection closes then; a part of it; or nothing
abbrev pub Sends : How → Request → Answer → List ℕ → Type 0
Sends (how.Answered close) q r put = (put ≡ sent q r) × (close ≡ (r.close || q.close))
Sends how.Failed q r put = IsProperPrefix put (sent q r)
Sends how.NoMemory q r put = put ≡ []
