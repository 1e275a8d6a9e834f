-- What a pass has done on a connection so far, by the serial under which a request had last begun on it when it came.
use Rattle.std.specs.Prelude.{◌≡◌, ◌⊎◌, ◌≤◌, ◌∷◌, ℕ, Bool, true, false, List, [], Option, Some, None, option_map}
use Rattle.cd_outside.specs.declared.past.Past.{Past}
use Rattle.cd_outside.specs.Past.{with_connection}
use Rattle.cd_outside.specs.Since.{CameWith}
use Rattle.cd_legal.specs.declared.entry.Entry.TheVariants.{Begin}
use Rattle.cd_legal.specs.Placed.{Placed}
use Rattle.cd_gate.specs.declared.view.View.{View}
use Rattle.cd_session.specs.declared.cause.Cause.TheVariants as cause
use Rattle.cd_session.specs.declared.connection_end.ConnectionEnd.{ConnectionEnd}
use Rattle.cd_serve.specs.declared.how.How.{How}
use Rattle.cd_serve.specs.declared.how.How.TheVariants as how
use Rattle.cd_serve.specs.Meanings.{nothing_sent}
use Rattle.cd_serve.specs.Episodes.{Episode}
use Rattle.cd_serve.specs.Since.{FreshSince}
use Rattle.cd_serve.specs.Serving.{after_all}
use Rattle.cd_serve.specs.Stepping.{HasPlaced}

-- ---- a request

-- no serial that is told to have been seen on the connection that is there is later than this one
abbrev pub IsNoneLater : Option (List ℕ) → ℕ → Type 0
IsNoneLater told serial = (since : ℕ) → CameWith told since → since ≤ serial

-- it was ended without an answer, and nothing was sent for it
abbrev pub gives_none : How → Bool
gives_none (how.Answered close) = false
gives_none how.Unlogged = false
gives_none how.Failed = true
gives_none how.NoMemory = true
gives_none how.Dropped = false
gives_none how.Halted = false
gives_none how.Worn = false

abbrev pub gives_none_in : Option How → Bool
gives_none_in (Some h) = gives_none h
gives_none_in None = false

-- the first of these entries, where there is one, is a Begin of pass k under this serial or a later one
abbrev pub StartsSince : ℕ → ℕ → List Placed → Type 0
StartsSince since k [] = Unit {0}
StartsSince since k (p ∷ own) = (serial : ℕ) × (p.entry ≡ Begin k serial) × (since ≤ serial)

module _ {T : Type 0} where
  -- between two moments a pass made entries that start so, or none
  pub record HasKeptUp (since : ℕ) (v w : View T) : Type 0 where
    pub own : List Placed
    pub made : HasPlaced v w own
    pub starts : StartsSince since v.number own

  -- it began one request, and ended it with nothing done and nothing told
  pub record HasGivenNone (v w : View T) (old new : Option Past) : Type 0 where
    pub own : List Placed
    pub made : HasPlaced v w own
    pub only : Episode v.number own
    pub nothing_done : only.work ≡ []
    pub past : new ≡ old

  -- by serving a request, or by an attempt to do so
  abbrev pub RequestKeepsUp : ℕ → Option How → View T → View T → Option Past → Option Past → Type 0
  RequestKeepsUp since result v w old new = HasKeptUp since v w ⊎ ((gives_none_in result ≡ true) × HasGivenNone v w old new)

-- a request was not acted on, since the lane has failed
pub record IsDeclined {P : Type 0} (result : Option How) (p p' : P) (old new : Option Past) : Type 0 where
  pub is : result ≡ Some how.Failed
  pub same : p' ≡ p
  pub past : new ≡ old

-- ---- a connection

-- it was interrupted
abbrev pub IsCut : Option ConnectionEnd → Type 0
IsCut (Some end) = ¬ (end.cause ≡ cause.Whole)
IsCut None = ⊥

-- Pass k made these entries for the connection that had just come: its first request was its last, nothing was done for that, and
-- nothing was sent.
pub record EndsUnanswered (k : ℕ) (own : List Placed) (end : ConnectionEnd) (first now : Option Past) : Type 0 where
  pub only : Episode k own
  pub nothing_done : only.work ≡ []
  pub cut : ¬ (end.cause ≡ cause.Whole)
  pub taken : List ℕ
  pub ended : Bool
  pub past : now ≡ option_map (with_connection (after_all taken ended nothing_sent)) first

-- the connection has kept up with the serial that it came with
abbrev pub ConnectionKeepsUp : ℕ → ℕ → List Placed → ConnectionEnd → Option Past → Option Past → Type 0
ConnectionKeepsUp since k own end first now = FreshSince since own ⊎ EndsUnanswered k own end first now

module _ {T : Type 0} where
  pub record HasEndedUnanswered (end : ConnectionEnd) (v w : View T) (first now : Option Past) : Type 0 where
    pub own : List Placed
    pub made : HasPlaced v w own
    pub is : EndsUnanswered v.number own end first now

  abbrev pub EndKeepsUp : ℕ → ConnectionEnd → View T → View T → Option Past → Option Past → Type 0
  EndKeepsUp since end v w first now = HasKeptUp since v w ⊎ HasEndedUnanswered end v w first now

  -- after one step of it
  abbrev pub StepKeepsUp : ℕ → Option ConnectionEnd → View T → View T → Option Past → Option Past → Type 0
  StepKeepsUp since (Some end) v w first now = EndKeepsUp since end v w first now
  StepKeepsUp since None v w first now = HasKeptUp since v w
