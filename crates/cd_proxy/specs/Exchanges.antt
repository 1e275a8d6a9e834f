-- One exchange with an upstream: what was put, what was read, and what came of it.
use Rattle.std.specs.Prelude.{⊤, ◌≡◌, ℕ, ◌⊎◌, Bool, false, List, [], ◌∷◌, ◌++◌, Option, Some, None, option_map}
use Rattle.cd_outside.specs.declared.address.Address.{Address}
use Rattle.cd_wire.specs.declared.request.Request.{Request}
use Rattle.cd_session.specs.Ways.{IsProperPrefix}
use Rattle.cd_peers.specs.declared.dialled.Dialled.{Dialled}
use Rattle.cd_proxy.specs.declared.exchanges.Outcome.{Outcome}
use Rattle.cd_proxy.specs.declared.exchanges.Outcome.TheVariants as outcome
use Rattle.cd_proxy.specs.declared.reading.Reading.TheVariants as reading
use Rattle.cd_proxy.specs.Responses.{IsReading}
use Rattle.cd_wire.specs.Render.{is_head}
use Rattle.cd_proxy.specs.Forward.{forward}

-- what the bytes that were read, and their end, come to
abbrev pub IsAnswered : Bool → Outcome → Dialled → Type 0
IsAnswered head (outcome.Passed answer) d = IsReading d.taken d.ended head (reading.Whole answer)
IsAnswered head outcome.Bad d = IsReading d.taken d.ended head reading.Bad
IsAnswered head outcome.Failed d = IsReading d.taken d.ended head reading.More
IsAnswered head outcome.NoMemory d = ⊤

-- where a call failed, only a part of the bytes may have been put, and then nothing was read
pub record IsCutShort (bytes : List ℕ) (came : Outcome) (d : Dialled) : Type 0 where
  pub failed : came ≡ outcome.Failed
  pub part : IsProperPrefix d.put bytes
  pub taken : d.taken ≡ []
  pub ended : d.ended ≡ false

-- an exchange with the upstream of an address, on which these bytes were to be put: all were, and this is what came; or not all
pub record IsExchange (head : Bool) (bytes : List ℕ) (to : Address) (came : Outcome) (d : Dialled) : Type 0 where
  pub address : d.address ≡ to
  pub is : ((d.put ≡ bytes) × IsAnswered head came d) ⊎ IsCutShort bytes came d

-- no exchange: the dial failed, or memory was lacking before it
abbrev pub IsUndialled : Outcome → Type 0
IsUndialled (outcome.Passed answer) = ⊥
IsUndialled outcome.Bad = ⊥
IsUndialled outcome.Failed = ⊤
IsUndialled outcome.NoMemory = ⊤

-- what came of a request that was sent to this upstream
abbrev pub IsOutcome : Request → Address → Outcome → Option Dialled → Type 0
IsOutcome q to came None = IsUndialled came
IsOutcome q to came (Some d) = IsExchange (is_head q) (forward q to) to came d

-- an exchange more, or none
abbrev pub with_one : Option Dialled → List Dialled → List Dialled
with_one None past = past
with_one (Some d) past = past ++ d ∷ []

-- so it came, and so it is told
pub record Exchanged (q : Request) (to : Address) (came : Outcome) (before now : Option (List Dialled)) : Type 0 where
  pub one : Option Dialled
  pub is : IsOutcome q to came one
  pub told : now ≡ option_map (with_one one) before

-- ---- for the clauses of private functions

-- this exchange is told, after those that were told before
abbrev pub Tells : Dialled → Option (List Dialled) → Option (List Dialled) → Type 0
Tells d before now = now ≡ option_map (λ past. past ++ d ∷ []) before

-- so many bytes of it were read, and its end was seen or not
abbrev pub with_read : List ℕ → Bool → Dialled → Dialled
with_read taken ended d = record d { taken = taken; ended = ended }

-- what bytes come to, where that is settled
abbrev pub Settles : List ℕ → Bool → Bool → Option Outcome → Type 0
Settles taken ended head None = (ended ≡ false) × IsReading taken ended head reading.More
Settles taken ended head (Some (outcome.Passed answer)) = IsReading taken ended head (reading.Whole answer)
Settles taken ended head (Some outcome.Bad) = IsReading taken ended head reading.Bad
Settles taken ended head (Some outcome.Failed) = ⊥
Settles taken ended head (Some outcome.NoMemory) = ⊤

-- an exchange was read to where it is settled what came
pub record Received (head : Bool) (d : Dialled) (first now : Option (List Dialled)) (came : Outcome) : Type 0 where
  pub taken : List ℕ
  pub ended : Bool
  pub told : Tells (with_read taken ended d) first now
  pub answered : IsAnswered head came (with_read taken ended d)

-- it was, or more is to be read after these bytes
abbrev pub Goes : Bool → List ℕ → Dialled → Option (List Dialled) → Option (List Dialled) → Option Outcome → Type 0
Goes head taken d first now None = Tells (with_read taken false d) first now × IsReading taken false head reading.More
Goes head taken d first now (Some came) = Received head d first now came

-- these bytes were put on an exchange with this upstream, and it was read
pub record Conversed (head : Bool) (bytes : List ℕ) (to : Address) (first now : Option (List Dialled)) (came : Outcome) : Type 0 where
  pub one : Dialled
  pub is : IsExchange head bytes to came one
  pub told : Tells one first now
