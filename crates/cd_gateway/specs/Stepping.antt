-- A connection and a lane while they are relayed, from call to call.
use Rattle.std.specs.Prelude.{◌≡◌, ◌≤◌, ◌<◌, ◌++◌, ◌||◌, ℕ, Bool, false, min, List, Option, Some, None, option_map}
use Rattle.cd_outside.specs.declared.address.Address.{Address}
use Rattle.cd_outside.specs.declared.past.Connection.{Connection}
use Rattle.cd_outside.specs.declared.past.Past.{Past}
use Rattle.cd_outside.specs.Counts.{count_end, Covers}
use Rattle.cd_outside.specs.Past.{with_connection, fresh}
use Rattle.cd_outside.specs.Telling.{TellsOn}
use Rattle.cd_wire.specs.Requests.{Splits}
use Rattle.cd_wire.specs.declared.request.Request.{Request}
use Rattle.cd_session.specs.declared.connection_end.ConnectionEnd.{ConnectionEnd}
use Rattle.cd_session.specs.Ends.{CausedBy}
use Rattle.cd_peers.specs.declared.dialled.Dialled.{Dialled}
use Rattle.cd_peers.specs.declared.limits.TheConstants.{MAX_PLACES}
use Rattle.cd_proxy.specs.declared.answering.How.{How}
use Rattle.cd_proxy.specs.Replies.{Reply, RequestRelayed}
use Rattle.cd_gateway.specs.Connections.{AreReplies, AllGoOn, Ending, Relays, all_put, answered_of, exchanges_of, failed_of, requests}
use Rattle.cd_gateway.specs.Lanes.{Counted, Relayed}

-- a worker may have an exchange: its place is one of the balancer, there is an upstream, and the peers have no exchange
pub record MayDial (at upstreams : ℕ) (dialled : Bool) : Type 0 where
  pub place : at < MAX_PLACES
  pub some : 0 < upstreams
  pub idle : dialled ≡ false

-- what a lane and its peers tell at a moment, and how often the peers have failed
pub record Moment : Type 0 where
  pub lane : Option Past
  pub peers : Option (List Dialled)
  pub failed : ℕ

abbrev pub moment : Option Past → Option (List Dialled) → ℕ → Moment
moment lane peers failed = record { lane = lane; peers = peers; failed = failed }

-- the request was relayed between two moments
abbrev pub RelayedBetween : List Address → Request → How → Moment → Moment → Type 0
RelayedBetween upstreams q h before now = RequestRelayed upstreams q h before.lane now.lane before.peers now.peers before.failed now.failed

-- the connection after these bytes were taken, its end was seen or not, and these were sent
abbrev pub after_all : List ℕ → Bool → List ℕ → Connection → Connection
after_all taken ended put c = record c { taken = c.taken ++ taken; ended = c.ended || ended; put = c.put ++ put }

-- what the peers tell after these requests, and what was counted of their faults
pub record HasExchanged (replies : List Reply) (first now : Moment) : Type 0 where
  pub told : now.peers ≡ option_map (λ past. past ++ exchanges_of replies) first.peers
  pub later : first.failed ≤ now.failed
  pub failures : Covers (failed_of replies) first.failed now.failed 0

-- these requests of the connection that had just come were relayed; these bytes are left of what was taken, and its end was seen or not
pub record ConnectionSoFar (upstreams : List Address) (replies : List Reply) (left : List ℕ) (ended : Bool) (answered : ℕ) (first now : Moment) : Type 0 where
  pub taken : List ℕ
  pub splits : Splits taken (requests replies) left
  pub each : AreReplies upstreams replies
  pub answers : answered ≡ min (answered_of replies) count_end
  pub past : now.lane ≡ option_map (with_connection (after_all taken ended (all_put replies))) first.lane
  pub exchanged : HasExchanged replies first now

-- it goes on
pub record GoesOn (upstreams : List Address) (left : List ℕ) (ended : Bool) (answered : ℕ) (first now : Moment) : Type 0 where
  pub replies : List Reply
  pub so_far : ConnectionSoFar upstreams replies left ended answered first now
  pub none_closes : AllGoOn replies

-- it has ended
pub record IsEnded (upstreams : List Address) (end : ConnectionEnd) (first now : Moment) : Type 0 where
  pub taken : List ℕ
  pub ended : Bool
  pub put : List ℕ
  pub ending : Ending
  pub past : now.lane ≡ option_map (with_connection (after_all taken ended put)) first.lane
  pub relays : (at : Address) → Relays upstreams (after_all taken ended put (fresh at)) ending
  pub exchanged : HasExchanged ending.replies first now
  pub caused : CausedBy end.cause ending.way
  pub answers : end.answered ≡ min (answered_of ending.replies) count_end

-- after one step of it
abbrev pub Steps : List Address → Option ConnectionEnd → List ℕ → Bool → ℕ → Moment → Moment → Type 0
Steps upstreams (Some end) left ended answered first now = IsEnded upstreams end first now
Steps upstreams None left ended answered first now = GoesOn upstreams left ended answered first now

-- a lane was relayed so far, and none of its accepts failed
abbrev pub IsLaneSoFar : List Address → Counted → Counted → ℕ → ℕ → Option (List Dialled) → Option (List Dialled) → Past → Past → Type 0
IsLaneSoFar upstreams before now answered cut told_before told_now p q =
    Relayed upstreams before now answered cut told_before told_now p q × (q.accept_faults ≡ p.accept_faults)

-- the same where the lane tells it
abbrev pub LaneGoesOn : List Address → Counted → Counted → ℕ → ℕ → Option (List Dialled) → Option (List Dialled) → Option Past → Option Past → Type 0
LaneGoesOn upstreams before now answered cut told_before told_now old new =
    TellsOn (IsLaneSoFar upstreams before now answered cut told_before told_now) old new
