-- What an intake finds in the bytes that no request has taken.
use Rattle.std.specs.Prelude.{◌≡◌, ℕ, ◌<◌, ◌⊎◌, Bool, true, false, List, [], ◌++◌, length, IsTrue, IsFalse}
use Rattle.cd_wire.specs.declared.limits.TheConstants.{MAX_HEAD_BYTES}
use Rattle.cd_wire.specs.declared.intake.Next.{Next}
use Rattle.cd_wire.specs.declared.intake.Next.TheVariants as next
use Rattle.cd_wire.specs.declared.intake.Look.{Look}
use Rattle.cd_wire.specs.declared.intake.Look.TheVariants as look
use Rattle.cd_wire.specs.declared.request.Request.{Request}
use Rattle.cd_wire.specs.Heads.{HasNoHead, MayBecomeHead}
use Rattle.cd_wire.specs.Requests.{BeginsRequest, HasNoRequest, EndsInBody, HasTail, refused}

-- there is no head, in fewer bytes than a head may have, and half of them may still become one
pub record WantsHead (input : List ℕ) : Type 0 where
  pub short : length input < MAX_HEAD_BYTES
  pub none : HasNoHead input
  pub may : MayBecomeHead input

-- there is no request, and more bytes may make one: there is no head yet, or its body has not come whole
abbrev pub WantsMore : List ℕ → Type 0
WantsMore input = HasNoRequest input × (WantsHead input ⊎ EndsInBody input)

-- what `next` finds in the bytes that are left, and what it leaves of them: all, but for a request, which it takes off
abbrev pub IsNext : List ℕ → Bool → List ℕ → Next → Type 0
IsNext old ended new (next.Request request) = BeginsRequest old request new
IsNext old ended new next.More = (new ≡ old) × IsFalse ended × WantsMore old
IsNext old ended new next.End = (new ≡ old) × IsTrue ended × (old ≡ [])
IsNext old ended new next.Cut = (new ≡ old) × IsTrue ended × HasNoRequest old × EndsInBody old
IsNext old ended new (next.Refused fault) = (new ≡ old) × HasNoRequest old × HasTail old ended (refused fault)

-- what `look` finds there, and takes nothing off: a whole request, or what `next` finds else
abbrev pub IsLook : List ℕ → Bool → Look → Type 0
IsLook bytes ended look.Whole = (request : Request) × (rest : List ℕ) × BeginsRequest bytes request rest
IsLook bytes ended look.More = IsNext bytes ended bytes next.More
IsLook bytes ended look.End = IsNext bytes ended bytes next.End
IsLook bytes ended look.Cut = IsNext bytes ended bytes next.Cut
IsLook bytes ended (look.Refused fault) = IsNext bytes ended bytes (next.Refused fault)

-- bytes that go from one intake to another that had none: those of the request that was found whole, or all
pub record IsHandedOver (whole : Bool) (old new into : List ℕ) : Type 0 where
  pub all : old ≡ into ++ new
  pub one : whole ≡ true → (request : Request) × BeginsRequest into request []
  pub other : whole ≡ false → new ≡ []
  pub some : 0 < length old → 0 < length into
