-- Part of the main theorem.
-- The requests of an input, and why there is no further one. This speaks of all the bytes at once, however they come.
use Rattle.std.specs.Prelude.{◌≡◌, ℕ, ◌<◌, ◌⊎◌, Bool, List, [], ◌∷◌, length, Ok, Err, IsTrue, IsFalse}
use Rattle.cd_wire.specs.declared.head.Head.{Head}
use Rattle.cd_wire.specs.declared.request.Request.{Request}
use Rattle.cd_wire.specs.declared.fault.WireFault.{WireFault}
use Rattle.cd_wire.specs.declared.fault.WireFault.TheVariants.{BadHead}
use Rattle.cd_wire.specs.declared.framing.Framing.{Framing}
use Rattle.cd_wire.specs.Heads.{BeginsHead, HasNoHead, NeverHasHead}
use Rattle.cd_wire.specs.Framing.{judge, request_of}
use Rattle.cd_wire.specs.Bodies.{BeginsBody, RefusesBody}

-- the input begins with the request: a head that is not refused, and its body. Then comes this rest
pub record BeginsRequest (input : List ℕ) (request : Request) (rest : List ℕ) : Type 0 where
  pub head : Head
  pub after : List ℕ
  pub begins : BeginsHead input head after
  pub framing : Framing
  pub judged : judge head ≡ Ok framing
  pub body : List ℕ
  pub delimited : BeginsBody framing after body rest
  pub is : request ≡ request_of head body

-- the input is these requests, one behind the other, and then comes this rest
abbrev pub Splits : List ℕ → List Request → List ℕ → Type 0
Splits input [] rest = input ≡ rest
Splits input (request ∷ requests) rest =
    (after : List ℕ) × BeginsRequest input request after × Splits after requests rest

-- the input begins with no request
abbrev pub HasNoRequest : List ℕ → Type 0
HasNoRequest input = (request : Request) (rest : List ℕ) → ¬ (BeginsRequest input request rest)

-- why an input has no further request: it ended behind the last, it ended inside a body, what follows is refused, or it has
-- not ended and more may come
pub data Tail : Type 0 where
  clean cut more_may_come : Tail
  refused : WireFault → Tail

-- the input begins with a head, and then comes this fault
abbrev pub RefusesAfterHead : List ℕ → WireFault → Type 0
RefusesAfterHead input fault =
    (head : Head) × (after : List ℕ) × BeginsHead input head after
    × ((judge head ≡ Err fault)
    ⊎ ((framing : Framing) × (judge head ≡ Ok framing) × RefusesBody framing after fault))

-- the input begins with a head, neither it nor what came of its body has a fault, and the request is not whole
pub record EndsInBody (input : List ℕ) : Type 0 where
  pub head : Head
  pub after : List ℕ
  pub begins : BeginsHead input head after
  pub faultless : (fault : WireFault) → ¬ (RefusesAfterHead input fault)
  pub not_whole : HasNoRequest input

-- some bytes that have no head, where the input has ended, or where no more bytes can make one of them
abbrev pub RefusesHead : List ℕ → Bool → Type 0
RefusesHead input ended = (0 < length input) × HasNoHead input × (IsTrue ended ⊎ NeverHasHead input)

-- why a rest that begins with no request begins with none
abbrev pub HasTail : List ℕ → Bool → Tail → Type 0
HasTail rest ended clean = IsTrue ended × (rest ≡ [])
HasTail rest ended cut = IsTrue ended × EndsInBody rest
HasTail rest ended (refused fault) =
    RefusesAfterHead rest fault ⊎ ((fault ≡ BadHead) × RefusesHead rest ended)
HasTail rest ended more_may_come = IsFalse ended × ((HasNoHead rest × ¬ (NeverHasHead rest)) ⊎ EndsInBody rest)

-- the input, of which more may come unless it has ended, is these requests, and then a rest that begins with none, for the
-- reason that the tail gives
pub record HasRequests (input : List ℕ) (ended : Bool) (requests : List Request) (tail : Tail) : Type 0 where
  pub rest : List ℕ
  pub splits : Splits input requests rest
  pub no_more : HasNoRequest rest
  pub tail_is : HasTail rest ended tail
