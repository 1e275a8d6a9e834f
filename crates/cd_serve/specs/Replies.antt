-- Part of the main theorem.
-- What is done for one request: the episodes after which it is decided again, and the one that ends it.
use Rattle.std.specs.Prelude.{ℕ, Bool, true, false, List, [], ◌∷◌, ◌++◌, map, flat_map, count_by}
use Rattle.cd_text.specs.Steps.{joined}
use Rattle.cd_outside.specs.declared.address.Address.{Address}
use Rattle.cd_wire.specs.declared.request.Request.{Request}
use Rattle.cd_legal.specs.Placed.{Placed}
use Rattle.cd_serve.specs.Meanings.{Meaning, Sent, nothing_sent, both_sent}
use Rattle.cd_serve.specs.Episodes.{Episode, Outcome, IsAgain, Ends}

-- by each of these episodes the request is decided again
abbrev pub AllAgain : Meaning → ℕ → Address → Request → List (List Placed) → Type 0
AllAgain m k at q [] = Unit {0}
AllAgain m k at q (own ∷ more) =
    ((e : Episode k own) × IsAgain m k at q e.begin e.work e.finish) × AllAgain m k at q more

-- a request, its episodes, how the last one ended it, and what was sent
pub record Reply : Type 0 where
  pub request : Request
  pub again : List (List Placed)
  pub last : List Placed
  pub outcome : Outcome
  pub sent : Sent

-- pass k did so for a request that came to this address
pub record IsReply (m : Meaning) (k : ℕ) (at : Address) (r : Reply) : Type 0 where
  pub agains : AllAgain m k at r.request r.again
  pub episode : Episode k r.last
  pub ends : Ends m k at r.request r.outcome episode.begin episode.work episode.finish r.sent

-- so for each of them
abbrev pub AreReplies : Meaning → ℕ → Address → List Reply → Type 0
AreReplies m k at [] = Unit {0}
AreReplies m k at (r ∷ rs) = IsReply m k at r × AreReplies m k at rs

-- ---- what replies have together

abbrev pub requests : List Reply → List Request
requests rs = map (λ r. r.request) rs

-- the entries of all their episodes
abbrev pub own_of : Reply → List Placed
own_of r = joined r.again ++ r.last

abbrev pub owns : List Reply → List Placed
owns rs = flat_map own_of rs

-- what was sent for all of them
abbrev pub all_sent : List Reply → Sent
all_sent [] = nothing_sent
all_sent (r ∷ rs) = both_sent r.sent (all_sent rs)

-- the whole answer was sent
abbrev pub is_whole : Outcome → Bool
is_whole (Outcome.answered close) = true
is_whole Outcome.unlogged = true
is_whole Outcome.broken = false
is_whole Outcome.lacking = false
is_whole Outcome.dropped = false
is_whole Outcome.halted = false

-- how many requests were answered
abbrev pub answered_of : List Reply → ℕ
answered_of rs = count_by (λ r. is_whole r.outcome) rs
