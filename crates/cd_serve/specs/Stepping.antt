-- A connection and a lane while they are served, from call to call.
use Rattle.std.specs.Prelude.{◌≡◌, ◌++◌, ℕ, Bool, true, List, Option, Some, None}
use mathlib.Core.List.{IsPrefix}
use Rattle.cd_outside.specs.declared.accepted.Accepted.TheVariants as accepted
use Rattle.cd_outside.specs.declared.address.Address.{Address}
use Rattle.cd_outside.specs.declared.past.Past.{Past}
use Rattle.cd_outside.specs.Telling.{TellsOn}
use Rattle.cd_legal.specs.declared.entry.Signed.{Signed}
use Rattle.cd_legal.specs.Legal.{state_at}
use Rattle.cd_legal.specs.Placed.{Placed, placed, placed_entries, through}
use Rattle.cd_legal.specs.Signing.{IsHistory}
use Rattle.cd_gate.specs.declared.view.View.{View}
use Rattle.cd_gate.specs.Growing.{all_signed}
use Rattle.cd_session.specs.declared.connection_end.ConnectionEnd.{ConnectionEnd}
use Rattle.cd_session.specs.declared.lane_end.LaneEnd.{LaneEnd}
pub use Rattle.cd_session.specs.Ends.{RisesBy, HaltedBy}
use Rattle.cd_serve.specs.Meanings.{Meaning}
use Rattle.cd_serve.specs.Replies.{Reply}
use Rattle.cd_serve.specs.Connections.{AllGoOn}
use Rattle.cd_serve.specs.Lanes.{LaneSoFar, IsServed}
use Rattle.cd_serve.specs.Serving.{ConnectionSoFar, ConnectionServed, HasRisen}

-- a lane was served so far, and none of its accepts failed
abbrev pub IsLaneSoFar : Meaning → ℕ → List Signed → List Placed → ℕ → ℕ → ℕ → ℕ → ℕ → Option (List ℕ) → Option (List ℕ) → Past → Past → Type 0
IsLaneSoFar m k history own failed_before failed_now answered cut halts since_before since_now p q =
    LaneSoFar m k history own failed_before failed_now answered cut halts since_before since_now p q × (q.accept_faults ≡ p.accept_faults)

module _ {T : Type 0} where
  -- between two moments a pass made these entries, each where it stands in what the pass has then seen; perhaps none so far
  pub record HasPlaced (v w : View T) (own : List Placed) : Type 0 where
    pub number : w.number ≡ v.number
    pub seen : IsPrefix v.seen w.seen
    pub history : IsHistory v.seen → IsHistory w.seen
    pub placed_is : placed v.number w.seen ≡ placed v.number v.seen ++ own
    pub last : IsPrefix (through v.number own) w.seen
    -- what the pass knows of its own entries has grown by these, and all else but what it owes is as it was
    pub adds : w.mine ≡ v.mine ++ all_signed v.number (placed_entries own)
    pub same : w ≡ record v { seen = w.seen; mine = w.mine; ticket = w.ticket; draft = w.draft; duties = w.duties }

  -- the connection that had just come to the address goes on: these bytes are left of it, and its end was seen or not
  pub record GoesOn (m : Meaning) (at : Address) (left : List ℕ) (ended : Bool) (answered : ℕ) (v w : View T) (first now : Option Past) : Type 0 where
    pub replies : List Reply
    pub own : List Placed
    pub made : HasPlaced v w own
    pub so_far : ConnectionSoFar m v.number at replies own left ended answered first now
    pub none_closes : AllGoOn replies

  -- it has ended
  pub record IsEnded (m : Meaning) (at : Address) (end : ConnectionEnd) (v w : View T) (first now : Option Past) : Type 0 where
    pub own : List Placed
    pub made : HasPlaced v w own
    pub served : ConnectionServed m v.number at v.seen w.seen own end first now

  -- so, and the faults of the lane have risen where it ended for that; it found the host halted only where that is so
  pub record EndsConnection (m : Meaning) (at : Address) (end : ConnectionEnd) (v w : View T) (first now : Option Past) (failed_before failed_now : ℕ) : Type 0 where
    pub served : IsEnded m at end v w first now
    pub cause : HasRisen end.cause failed_before failed_now
    pub halted : end.halted ≡ true → (state_at w.seen).halted ≡ true

  -- after one step of it
  abbrev pub Steps : Meaning → Address → Option ConnectionEnd → List ℕ → Bool → ℕ → View T → View T → Option Past → Option Past → Type 0
  Steps m at (Some end) left ended answered v w first now = IsEnded m at end v w first now
  Steps m at None left ended answered v w first now = GoesOn m at left ended answered v w first now

  -- a lane is served so far
  pub record LaneGoesOn (m : Meaning) (failed_before failed_now answered cut halts : ℕ) (v w : View T) (since_before since_now : Option (List ℕ)) (old new : Option Past) : Type 0 where
    pub own : List Placed
    pub made : HasPlaced v w own
    pub told : TellsOn (IsLaneSoFar m v.number w.seen own failed_before failed_now answered cut halts since_before since_now) old new

  -- it was served to its end
  pub record LaneServed (m : Meaning) (failed_before failed_now : ℕ) (end : LaneEnd) (v w : View T) (since_before since_now : Option (List ℕ)) (old new : Option Past) : Type 0 where
    pub own : List Placed
    pub made : HasPlaced v w own
    pub told : TellsOn (IsServed m v.number w.seen own failed_before failed_now end since_before since_now) old new

-- where a lane tells its past, its last accept gave a connection to the address
abbrev pub LastCame : Address → Option Past → Type 0
LastCame at None = Unit {0}
LastCame at (Some p) = p.last ≡ Some (accepted.Connection at)
