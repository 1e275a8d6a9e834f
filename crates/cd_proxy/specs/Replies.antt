-- What is done for one request: an exchange with an upstream, and the answer by what came of it.
use Rattle.std.specs.Prelude.{◌≡◌, ◌≤◌, ℕ, List, Option, option_map, Contains}
use Rattle.cd_outside.specs.declared.address.Address.{Address}
use Rattle.cd_outside.specs.declared.past.Past.{Past}
use Rattle.cd_outside.specs.Counts.{Rose}
use Rattle.cd_outside.specs.Past.{after_put}
use Rattle.cd_wire.specs.declared.answer.Answer.{Answer}
use Rattle.cd_wire.specs.declared.request.Request.{Request}
use Rattle.cd_peers.specs.declared.dialled.Dialled.{Dialled}
use Rattle.cd_proxy.specs.declared.answering.How.{How}
use Rattle.cd_proxy.specs.declared.answering.How.TheVariants as how
use Rattle.cd_proxy.specs.declared.exchanges.Outcome.{Outcome}
use Rattle.cd_proxy.specs.declared.exchanges.Outcome.TheVariants as outcome
use Rattle.cd_proxy.specs.Answers.{Sends, answer_of}
use Rattle.cd_proxy.specs.Exchanges.{IsOutcome, with_one}

-- a request, the upstream that was picked for it, its exchange, what came of it, what became of its answer, and what was sent
pub record Reply : Type 0 where
  pub request : Request
  pub to : Address
  pub exchange : Option Dialled
  pub came : Outcome
  pub done : How
  pub put : List ℕ

-- the upstream is one of these, the exchange is one for the request there, and the answer is by what came of it; where memory was
-- lacking for that, nothing was sent
pub record IsReply (upstreams : List Address) (r : Reply) : Type 0 where
  pub among : Contains upstreams r.to
  pub exchanged : IsOutcome r.request r.to r.came r.exchange
  pub sends : Sends r.done r.request (answer_of r.came) r.put
  pub lacking : r.came ≡ outcome.NoMemory → r.done ≡ how.NoMemory

-- one request was relayed so, by what the lane and the peers told before and tell now. A call on the peers that failed was counted
pub record RequestRelayed (upstreams : List Address) (q : Request) (h : How) (lane_before lane_now : Option Past) (told_before told_now : Option (List Dialled)) (faults_before faults_now : ℕ) : Type 0 where
  pub reply : Reply
  pub request : reply.request ≡ q
  pub ends : reply.done ≡ h
  pub is : IsReply upstreams reply
  pub told : told_now ≡ option_map (with_one reply.exchange) told_before
  pub past : lane_now ≡ option_map (after_put reply.put) lane_before
  pub later : faults_before ≤ faults_now
  pub failed : reply.came ≡ outcome.Failed → Rose faults_before faults_now

-- ---- for the clauses of private functions

-- so much of the answer was sent
pub record IsSent (h : How) (q : Request) (r : Answer) (before now : Option Past) : Type 0 where
  pub put : List ℕ
  pub sends : Sends h q r put
  pub past : now ≡ option_map (after_put put) before
