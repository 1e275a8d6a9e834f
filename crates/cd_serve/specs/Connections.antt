-- Part of the main theorem.
-- How a pass serves a connection: its requests, one after another, until it ends.
use Rattle.std.specs.Prelude.{◌≡◌, ◌≤◌, ℕ, Bool, true, false, List, [], ◌∷◌, ◌++◌}
use mathlib.Core.List.{IsPrefix}
use Rattle.cd_text.specs.Steps.{joined}
use Rattle.cd_outside.specs.declared.address.Address.{Address}
use Rattle.cd_outside.specs.declared.past.Connection.{Connection}
use Rattle.cd_wire.specs.declared.request.Request.{Request}
use Rattle.cd_wire.specs.Faults.{status_of}
use Rattle.cd_wire.specs.Render.{refusal_bytes}
use Rattle.cd_wire.specs.Requests.{Splits, BeginsRequest, Tail}
use Rattle.cd_legal.specs.declared.limits.TheConstants.{MAX_BEGINS}
use Rattle.cd_legal.specs.declared.entry.Signed.{Signed}
use Rattle.cd_legal.specs.Begins.{begins_at}
use Rattle.cd_legal.specs.Entry.{entries}
use Rattle.cd_legal.specs.Legal.{state_at}
use Rattle.cd_legal.specs.Placed.{Placed, through}
pub use Rattle.cd_session.specs.Ways.{Interruption, Way, IsTail}
use Rattle.cd_serve.specs.Meanings.{Meaning, IsProperPrefix, only_bytes, both_sent, sent_on}
use Rattle.cd_serve.specs.Episodes.{Outcome}
use Rattle.cd_serve.specs.Keeping.{AreKeptFirst}
use Rattle.cd_serve.specs.Replies.{Reply, AllAgain, AreReplies, requests, owns, all_sent, answered_of}

-- ---- how requests go on

-- each was answered, and none says that the connection closes
abbrev pub AllGoOn : List Reply → Type 0
AllGoOn [] = Unit {0}
AllGoOn (r ∷ rs) = (r.outcome ≡ Outcome.answered false) × AllGoOn rs

-- so each but the last one, which had this outcome
pub record LastIs (outcome : Outcome) (replies : List Reply) : Type 0 where
  pub before : List Reply
  pub last : Reply
  pub are : replies ≡ before ++ last ∷ []
  pub go_on : AllGoOn before
  pub is : last.outcome ≡ outcome

-- the bytes begin with a further request, which these episodes have decided again
pub record HasFurther (m : Meaning) (k : ℕ) (at : Address) (rest : List ℕ) (again : List (List Placed)) : Type 0 where
  pub request : Request
  pub after : List ℕ
  pub begins : BeginsRequest rest request after
  pub agains : AllAgain m k at request again

-- the history has a place, not before the last of these entries of the pass, with as many requests under its serial as may begin
pub record IsWorn (k : ℕ) (history : List Signed) (own : List Placed) : Type 0 where
  pub place : List Signed
  pub after : IsPrefix (through k own) place
  pub within : IsPrefix place history
  pub full : MAX_BEGINS ≤ begins_at (state_at place).serial (entries place)

-- Of a connection that came to an address, and of which the end was seen or not, pass k replied to some requests. Given are the
-- entries of the pass up to its end, the bytes after these requests, the episodes after theirs, and what was sent after the answers.
module _ (m : Meaning) (k : ℕ) (history : List Signed) (own : List Placed) (at : Address) (ended : Bool)
    (replies : List Reply) (rest : List ℕ) (again : List (List Placed)) (fixed : List ℕ) where
  -- it ended in this way
  abbrev pub EndsBy : Way → Type 0
  EndsBy Way.clean = AllGoOn replies × IsTail rest ended Tail.clean × (again ≡ []) × (fixed ≡ [])
  EndsBy Way.truncated = AllGoOn replies × IsTail rest ended Tail.cut × (again ≡ []) × (fixed ≡ [])
  EndsBy (Way.refused fault) = AllGoOn replies × IsTail rest ended (Tail.refused fault) × (again ≡ []) × (fixed ≡ refusal_bytes (status_of fault))
  EndsBy Way.closed = LastIs (Outcome.answered true) replies × (again ≡ []) × (fixed ≡ [])
  EndsBy Way.dropped = LastIs Outcome.dropped replies × (again ≡ []) × (fixed ≡ [])
  EndsBy Way.halted = LastIs Outcome.halted replies × (again ≡ []) × (fixed ≡ [])
  EndsBy Way.worn = AllGoOn replies × HasFurther m k at rest again × IsWorn k history own × (fixed ≡ refusal_bytes 503)
  EndsBy (Way.interrupted Interruption.answering) = LastIs Outcome.broken replies × (again ≡ []) × (fixed ≡ [])
  EndsBy (Way.interrupted Interruption.lacking) = LastIs Outcome.lacking replies × (again ≡ []) × (fixed ≡ [])
  EndsBy (Way.interrupted Interruption.logging) = LastIs Outcome.unlogged replies × (again ≡ []) × (fixed ≡ [])
  EndsBy (Way.interrupted Interruption.reading) = AllGoOn replies × (again ≡ []) × (fixed ≡ [])
  EndsBy (Way.interrupted Interruption.beginning) = ⊥
  EndsBy (Way.interrupted Interruption.wearing) = AllGoOn replies × HasFurther m k at rest again × IsWorn k history own × IsProperPrefix fixed (refusal_bytes 503)
  EndsBy (Way.interrupted (Interruption.refusing fault)) =
      AllGoOn replies × IsTail rest ended (Tail.refused fault) × (again ≡ []) × IsProperPrefix fixed (refusal_bytes (status_of fault))

-- ---- a connection

-- what the serving of a connection leaves: its entries, how it ended, and how many of its requests were answered
pub record Ending : Type 0 where
  pub own : List Placed
  pub way : Way
  pub answered : ℕ

-- Pass k served the connection, after these entries, so: its bytes are the requests that it replied to, and then a rest; its
-- entries are those of their episodes; what was sent is what was sent for them, and then the fixed answer, if one is due; and what is
-- acknowledged had been kept first.
pub record Serves (m : Meaning) (k : ℕ) (history : List Signed) (before : List Placed) (c : Connection) (e : Ending) : Type 0 where
  pub replies : List Reply
  pub rest : List ℕ
  pub again : List (List Placed)
  pub fixed : List ℕ
  pub splits : Splits c.taken (requests replies) rest
  pub each : AreReplies m k c.address replies
  pub own : e.own ≡ owns replies ++ joined again
  pub sent : sent_on c ≡ both_sent (all_sent replies) (only_bytes fixed)
  pub kept : AreKeptFirst m k c.address c.keeps replies
  pub ends : EndsBy m k history (before ++ e.own) c.address c.ended replies rest again fixed e.way
  pub answered : e.answered ≡ answered_of replies

-- each of these connections, one after another
abbrev pub ServesEach : Meaning → ℕ → List Signed → List Placed → List Connection → List Ending → Type 0
ServesEach m k history before [] [] = Unit {0}
ServesEach m k history before (c ∷ cs) (e ∷ es) = Serves m k history before c e × ServesEach m k history (before ++ e.own) cs es
ServesEach m k history before [] (e ∷ es) = ⊥
ServesEach m k history before (c ∷ cs) [] = ⊥
