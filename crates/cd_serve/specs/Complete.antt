-- Part of the main theorem.
-- What a connection has that was not interrupted: all its answers, up to its own end.
use Rattle.std.specs.Prelude.{◌≡◌, ◌⊎◌, ℕ, true, List, [], ◌∷◌, ◌++◌}
use Rattle.cd_outside.specs.declared.address.Address.{Address}
use Rattle.cd_outside.specs.declared.past.Connection.{Connection}
use Rattle.cd_outside.specs.declared.past.KeepRecord.{KeepRecord}
use Rattle.cd_outside.specs.declared.past.Logged.{Logged}
use Rattle.cd_wire.specs.declared.answer.Answer.{Answer}
use Rattle.cd_wire.specs.declared.request.Request.{Request}
use Rattle.cd_wire.specs.Faults.{status_of}
use Rattle.cd_wire.specs.Render.{refusal_bytes}
use Rattle.cd_wire.specs.Requests.{Splits, HasRequests, Tail}
use Rattle.cd_legal.specs.declared.entry.Signed.{Signed}
use Rattle.cd_legal.specs.Placed.{Placed}
use Rattle.cd_serve.specs.Meanings.{Meaning, sent, answer_sent, IsForNobody}
use Rattle.cd_serve.specs.Episodes.{Episode, Kind, Outcome, Answers, conf_met}
use Rattle.cd_serve.specs.Replies.{Reply, requests, all_sent}
use Rattle.cd_serve.specs.Connections.{LastIs, HasFurther, IsWorn}

-- the request was answered by this answer, which was sent whole, all its lines were logged, and what it keeps was kept before
pub record IsAnsweredBy (m : Meaning) (k : ℕ) (at : Address) (r : Reply) (answer : Answer) : Type 0 where
  pub episode : Episode k r.last
  pub kind : Kind
  pub lines : List Logged
  pub keeps : List KeepRecord
  pub answers : Answers m k at r.request kind episode.begin episode.work episode.finish answer lines keeps
  pub sent : r.sent ≡ answer_sent r.request answer lines keeps

-- so each of them, by its own
abbrev pub AreAnsweredBy : Meaning → ℕ → Address → List Reply → List Answer → Type 0
AreAnsweredBy m k at [] [] = Unit {0}
AreAnsweredBy m k at (r ∷ rs) (a ∷ answers) = IsAnsweredBy m k at r a × AreAnsweredBy m k at rs answers
AreAnsweredBy m k at [] (a ∷ answers) = ⊥
AreAnsweredBy m k at (r ∷ rs) [] = ⊥

-- the bytes of these answers to the requests, one after another
abbrev pub answer_bytes : List Request → List Answer → List ℕ
answer_bytes [] answers = []
answer_bytes (q ∷ qs) [] = []
answer_bytes (q ∷ qs) (a ∷ answers) = sent q a ++ answer_bytes qs answers

-- what follows the answers where no further request comes: a fixed answer to what is refused
abbrev pub Follows : Tail → List ℕ → Type 0
Follows Tail.clean fixed = fixed ≡ []
Follows Tail.cut fixed = fixed ≡ []
Follows (Tail.refused fault) fixed = fixed ≡ refusal_bytes (status_of fault)
Follows Tail.more_may_come fixed = ⊥

module _ (m : Meaning) (k : ℕ) (history : List Signed) (own : List Placed) (c : Connection) (answered : List Reply) (fixed : List ℕ) where
  -- these are all its requests, and this is why there is no further one
  abbrev pub HasAll : Type 0
  HasAll = (tail : Tail) × HasRequests c.taken c.ended (requests answered) tail × Follows tail fixed

  -- the last of these answers, or its request, closes the connection
  abbrev pub LastCloses : Type 0
  LastCloses = (rest : List ℕ) × Splits c.taken (requests answered) rest × LastIs (Outcome.answered true) answered × (fixed ≡ [])

  -- nobody answers the next request, under the configuration that its Begin met
  abbrev pub NobodyAnswers : Type 0
  NobodyAnswers = (q : Request) × (rest : List ℕ) × Splits c.taken (requests answered ++ q ∷ []) rest
      × ((begin : Placed) × IsForNobody m (conf_met begin) c.address q) × (fixed ≡ [])

  -- a further request is there, and as many as may began under the serial
  abbrev pub FindsWorn : Type 0
  FindsWorn = (rest : List ℕ) × (again : List (List Placed)) × Splits c.taken (requests answered) rest
      × HasFurther m k c.address rest again × IsWorn k history own × (fixed ≡ refusal_bytes 503)

-- Of a connection that pass k served, these requests were answered, each by its own answer; what was sent is these answers, and then
-- a fixed one where one is due; what was kept is what they keep, each with the bytes that were put before it; and each request that its bytes have was answered, unless it ended before that for one of three reasons.
pub record IsComplete (m : Meaning) (k : ℕ) (history : List Signed) (own : List Placed) (c : Connection) : Type 0 where
  pub answered : List Reply
  pub answers : List Answer
  pub are : AreAnsweredBy m k c.address answered answers
  pub fixed : List ℕ
  pub put : c.put ≡ answer_bytes (requests answered) answers ++ fixed
  pub keeps : c.keeps ≡ (all_sent answered).keeps
  pub why : HasAll m k history own c answered fixed ⊎ (LastCloses m k history own c answered fixed ⊎ (NobodyAnswers m k history own c answered fixed ⊎ FindsWorn m k history own c answered fixed))
