-- What a call on a connection comes to.
use Rattle.std.specs.Prelude.{◌≡◌, ◌<◌, ◌++◌, ◌⊎◌, ℕ, Bool, List, [], length}
use Rattle.cd_outside.specs.declared.given.Given.{Given}
use Rattle.cd_outside.specs.declared.past.Past.{Past}
use Rattle.cd_outside.specs.declared.received.Received.{Received}
use Rattle.cd_outside.specs.Given.{IsGivenOf}
use Rattle.cd_outside.specs.Past.{after_put}
use Rattle.cd_outside.specs.Received.{IsReceived, after_receipt}
use Rattle.cd_wire.specs.declared.intake.Look.{Look}
use Rattle.cd_wire.specs.declared.intake.Look.TheVariants as look
use Rattle.cd_wire.specs.declared.request.Request.{Request}
use Rattle.cd_wire.specs.Intake.{IsLook}
use Rattle.cd_wire.specs.Requests.{BeginsRequest}
use Rattle.cd_link.specs.declared.link.Filled.{Filled}
use Rattle.cd_link.specs.declared.link.Filled.TheVariants as filled

-- the same bytes are added to what is reported of a stream by its connection and by itself
abbrev pub AddsAlike : List ℕ → List ℕ → List ℕ → List ℕ → Type 0
AddsAlike link_old link_new stream_old stream_new = (bytes : List ℕ) × (link_new ≡ link_old ++ bytes) × (stream_new ≡ stream_old ++ bytes)

-- a part of the piece was written: all of it, or less, from its front
abbrev pub IsWritten : Given → List ℕ → Past → Past → Type 0
IsWritten given piece old new = (part : List ℕ) × IsGivenOf given part piece × (new ≡ after_put part old)

-- a piece was received
abbrev pub Receives : Received → List ℕ → List ℕ → Past → Past → Type 0
Receives received into_old into_new old new = (piece : List ℕ) × IsReceived received piece into_old into_new × (new ≡ after_receipt received piece old)

-- these bytes came and are kept, and those came and are lost, which happens only as memory runs out
abbrev pub IsFilled : Filled → List ℕ → List ℕ → Type 0
IsFilled filled.Some came lost = (0 < length came) × (lost ≡ [])
IsFilled filled.Later came lost = (came ≡ []) × (lost ≡ [])
IsFilled filled.End came lost = (came ≡ []) × (lost ≡ [])
IsFilled filled.Failed came lost = (came ≡ []) × (lost ≡ [])
IsFilled filled.Lacking came lost = came ≡ []

-- no more bytes can make something else of what was found
abbrev pub IsSettled : Look → Type 0
IsSettled look.Whole = Unit {0}
IsSettled look.More = ⊥
IsSettled look.End = Unit {0}
IsSettled look.Cut = Unit {0}
IsSettled (look.Refused fault) = Unit {0}

-- what a lane is handed of the bytes that have come: one whole request, or all of them where no more can come of them
abbrev pub IsForLane : List ℕ → Bool → List ℕ → Type 0
IsForLane bytes ended into = ((request : Request) × BeginsRequest into request []) ⊎ ((into ≡ bytes) × (found : Look) × IsLook bytes ended found × IsSettled found)
