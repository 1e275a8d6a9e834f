-- What is done by the calls that serve: for one request, for one connection, and for the connections of a lane so far. Each is
-- said of the entries that the pass has made in the call, where they stand in what it has then seen.
use Rattle.std.specs.Prelude.{◌≡◌, ◌++◌, ◌||◌, ℕ, Bool, min, List, Option, option_map}
use mathlib.Core.List.{IsPrefix}
use Rattle.cd_text.specs.Steps.{joined}
use Rattle.cd_outside.specs.declared.address.Address.{Address}
use Rattle.cd_outside.specs.declared.past.Connection.{Connection}
use Rattle.cd_outside.specs.declared.past.Past.{Past}
use Rattle.cd_outside.specs.Counts.{count_end}
use Rattle.cd_outside.specs.Past.{with_connection, fresh}
use Rattle.cd_wire.specs.declared.request.Request.{Request}
use Rattle.cd_wire.specs.Requests.{Splits}
use Rattle.cd_legal.specs.declared.entry.Signed.{Signed}
use Rattle.cd_legal.specs.Placed.{Placed, through}
use Rattle.cd_session.specs.declared.connection_end.ConnectionEnd.{ConnectionEnd}
pub use Rattle.cd_session.specs.Ends.{CausedBy, HasRisen, cut_by}
use Rattle.cd_serve.specs.Meanings.{Meaning, Sent, after_sending}
use Rattle.cd_serve.specs.Episodes.{Outcome}
use Rattle.cd_serve.specs.Replies.{Reply, AllAgain, IsReply, AreReplies, requests, own_of, owns, all_sent, answered_of}
use Rattle.cd_serve.specs.Connections.{Ending, Serves}
use Rattle.cd_serve.specs.Lanes.{finds_halt}

-- ---- one request

-- pass k replied to the request by these entries, with this outcome
pub record Replied (m : Meaning) (k : ℕ) (at : Address) (q : Request) (outcome : Outcome) (own : List Placed) (old new : Option Past) : Type 0 where
  pub reply : Reply
  pub request : reply.request ≡ q
  pub ends : reply.outcome ≡ outcome
  pub is : IsReply m k at reply
  pub own_is : own ≡ own_of reply
  pub past : new ≡ option_map (with_connection (after_sending reply.sent)) old

-- the request was decided again by these entries, and was then not begun once more
pub record NotBegun (m : Meaning) (k : ℕ) (at : Address) (q : Request) (own : List Placed) (old new : Option Past) : Type 0 where
  pub again : List (List Placed)
  pub agains : AllAgain m k at q again
  pub own_is : own ≡ joined again
  pub past : new ≡ old

-- ---- one connection

-- the connection after these bytes were taken, its end was seen or not, and this was sent
abbrev pub after_all : List ℕ → Bool → Sent → Connection → Connection
after_all taken ended s c = record (after_sending s c) { taken = c.taken ++ taken; ended = c.ended || ended }

-- So far pass k replied so to requests of the connection that had just come to the address, by these entries; these bytes are left
-- of what was taken, and its end was seen or not.
pub record ConnectionSoFar (m : Meaning) (k : ℕ) (at : Address) (replies : List Reply) (own : List Placed) (left : List ℕ) (ended : Bool) (answered : ℕ) (old new : Option Past) : Type 0 where
  pub taken : List ℕ
  pub splits : Splits taken (requests replies) left
  pub each : AreReplies m k at replies
  pub own_is : own ≡ owns replies
  pub answers : answered ≡ min (answered_of replies) count_end
  pub past : new ≡ option_map (with_connection (after_all taken ended (all_sent replies))) old

-- Pass k served the connection that had just come to the address to its end, by these entries. That holds after whatever entries
-- of the pass: all that it needs is that they stood in what the pass had seen.
pub record ConnectionServed (m : Meaning) (k : ℕ) (at : Address) (seen_before seen_now : List Signed) (own : List Placed) (end : ConnectionEnd) (old new : Option Past) : Type 0 where
  pub taken : List ℕ
  pub ended : Bool
  pub sent : Sent
  pub ending : Ending
  pub own_is : ending.own ≡ own
  pub past : new ≡ option_map (with_connection (after_all taken ended sent)) old
  pub serves : (before : List Placed) → IsPrefix (through k before) seen_before
      → Serves m k seen_now before (after_all taken ended sent (fresh at)) ending
  pub caused : CausedBy end.cause ending.way
  pub halted_is : finds_halt ending.way ≡ end.halted
  pub answers : end.answered ≡ min ending.answered count_end
