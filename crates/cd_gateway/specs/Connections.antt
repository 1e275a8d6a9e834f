-- How a worker relays the requests of a connection, one after another, until it ends.
use Rattle.std.specs.Prelude.{⊤, ◌≡◌, ℕ, Bool, true, false, List, [], ◌∷◌, ◌++◌, map, flat_map, count_by}
use Rattle.cd_outside.specs.declared.address.Address.{Address}
use Rattle.cd_outside.specs.declared.past.Connection.{Connection}
use Rattle.cd_wire.specs.declared.request.Request.{Request}
use Rattle.cd_wire.specs.Faults.{status_of}
use Rattle.cd_wire.specs.Render.{refusal_bytes}
use Rattle.cd_wire.specs.Requests.{Splits, Tail}
use Rattle.cd_session.specs.Ways.{Interruption, Way, IsTail, IsProperPrefix}
use Rattle.cd_peers.specs.declared.dialled.Dialled.{Dialled}
use Rattle.cd_proxy.specs.declared.answering.How.{How}
use Rattle.cd_proxy.specs.declared.answering.How.TheVariants as how
use Rattle.cd_proxy.specs.declared.exchanges.Outcome.{Outcome}
use Rattle.cd_proxy.specs.declared.exchanges.Outcome.TheVariants as outcome
use Rattle.cd_proxy.specs.Exchanges.{with_one}
use Rattle.cd_proxy.specs.Replies.{Reply, IsReply}

-- ---- the requests of a connection

-- each was relayed to one of these upstreams, and answered by what came
abbrev pub AreReplies : List Address → List Reply → Type 0
AreReplies upstreams [] = ⊤
AreReplies upstreams (r ∷ rs) = IsReply upstreams r × AreReplies upstreams rs

abbrev pub requests : List Reply → List Request
requests rs = map (λ r. r.request) rs

-- what was sent for all of them
abbrev pub all_put : List Reply → List ℕ
all_put rs = flat_map (λ r. r.put) rs

-- their exchanges, in their order: one at most for each
abbrev pub exchanges_of : List Reply → List Dialled
exchanges_of rs = flat_map (λ r. with_one r.exchange []) rs

-- the whole answer was sent
abbrev pub is_whole : How → Bool
is_whole (how.Answered close) = true
is_whole how.Failed = false
is_whole how.NoMemory = false

-- how many were answered
abbrev pub answered_of : List Reply → ℕ
answered_of rs = count_by (λ r. is_whole r.done) rs

-- a call on the peers failed in the request
abbrev pub has_failed : Outcome → Bool
has_failed (outcome.Passed answer) = false
has_failed outcome.Bad = false
has_failed outcome.Failed = true
has_failed outcome.NoMemory = false

-- in how many of them one failed
abbrev pub failed_of : List Reply → ℕ
failed_of rs = count_by (λ r. has_failed r.came) rs

-- ---- the ways to end

-- each was answered, and none says that the connection closes
abbrev pub AllGoOn : List Reply → Type 0
AllGoOn [] = ⊤
AllGoOn (r ∷ rs) = (r.done ≡ how.Answered false) × AllGoOn rs

-- so each but the last one, of whose answer this became
pub record LastIs (done : How) (replies : List Reply) : Type 0 where
  pub before : List Reply
  pub last : Reply
  pub are : replies ≡ before ++ last ∷ []
  pub go_on : AllGoOn before
  pub is : last.done ≡ done

-- Of a connection, of which the end was seen or not, these requests were relayed. Given are the bytes after them, and what was sent
-- after the answers.
module _ (ended : Bool) (replies : List Reply) (rest fixed : List ℕ) where
  -- it ended in this way; there are no configurations, no history and no lines of logs, so that no other way is left
  abbrev pub EndsBy : Way → Type 0
  EndsBy Way.clean = AllGoOn replies × IsTail rest ended Tail.clean × (fixed ≡ [])
  EndsBy Way.truncated = AllGoOn replies × IsTail rest ended Tail.cut × (fixed ≡ [])
  EndsBy (Way.refused fault) = AllGoOn replies × IsTail rest ended (Tail.refused fault) × (fixed ≡ refusal_bytes (status_of fault))
  EndsBy Way.closed = LastIs (how.Answered true) replies × (fixed ≡ [])
  EndsBy Way.dropped = ⊥
  EndsBy Way.halted = ⊥
  EndsBy Way.worn = ⊥
  EndsBy (Way.interrupted Interruption.answering) = LastIs how.Failed replies × (fixed ≡ [])
  EndsBy (Way.interrupted Interruption.lacking) = LastIs how.NoMemory replies × (fixed ≡ [])
  EndsBy (Way.interrupted Interruption.logging) = ⊥
  EndsBy (Way.interrupted Interruption.reading) = AllGoOn replies × (fixed ≡ [])
  EndsBy (Way.interrupted Interruption.beginning) = ⊥
  EndsBy (Way.interrupted Interruption.wearing) = ⊥
  EndsBy (Way.interrupted (Interruption.refusing fault)) =
      AllGoOn replies × IsTail rest ended (Tail.refused fault) × IsProperPrefix fixed (refusal_bytes (status_of fault))

-- ---- a connection

-- the requests of a connection that were relayed, and how it ended
pub record Ending : Type 0 where
  pub replies : List Reply
  pub way : Way

-- A connection was relayed so, whatever address it came to: its bytes are these requests, and then a rest; what was sent is what was
-- sent for them, in their order, and then the fixed answer, if one is due.
pub record Relays (upstreams : List Address) (c : Connection) (e : Ending) : Type 0 where
  pub rest : List ℕ
  pub fixed : List ℕ
  pub splits : Splits c.taken (requests e.replies) rest
  pub each : AreReplies upstreams e.replies
  pub put : c.put ≡ all_put e.replies ++ fixed
  pub lines : c.lines ≡ []
  pub keeps : c.keeps ≡ []
  pub ends : EndsBy c.ended e.replies rest fixed e.way

-- each of these connections, one after another
abbrev pub RelaysEach : List Address → List Connection → List Ending → Type 0
RelaysEach upstreams [] [] = ⊤
RelaysEach upstreams (c ∷ cs) (e ∷ es) = Relays upstreams c e × RelaysEach upstreams cs es
RelaysEach upstreams [] (e ∷ es) = ⊥
RelaysEach upstreams (c ∷ cs) [] = ⊥
