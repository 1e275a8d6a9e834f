-- Part of the main theorem.
-- What the reader of bodies finds and keeps. It speaks of all bytes of a body: those that were read before, which its caller need
-- not keep, and then the text that the call is given.
use Rattle.std.specs.Prelude.{◌≡◌, ℕ, ◌≤◌, List, [], ◌++◌, length, take, drop}
use Rattle.cd_wire.specs.declared.limits.TheConstants.{MAX_BODY_BYTES}
use Rattle.cd_wire.specs.declared.fault.WireFault.{WireFault}
use Rattle.cd_wire.specs.declared.framing.Framing.{Framing}
use Rattle.cd_wire.specs.declared.framing.Framing.TheVariants.{Length, Chunked}
use Rattle.cd_wire.specs.declared.bodies.Body.{Body}
use Rattle.cd_wire.specs.declared.bodies.Body.TheVariants as body
use Rattle.cd_wire.specs.declared.bodies.BodyRead.{BodyRead}
use Rattle.cd_wire.specs.declared.bodies.BodyRead.TheVariants as read
use Rattle.cd_wire.specs.Bodies.{ChunksThen, joined, BeginsBody, RefusesBody}

-- ---- what is kept of a body

-- the text begins with chunks that have this data, none of which is the last, and then comes this rest
pub record HasChunks (text found rest : List ℕ) : Type 0 where
  pub pieces : List (List ℕ)
  pub chunks : ChunksThen text pieces rest
  pub is : found ≡ joined pieces
  pub fits : length found ≤ MAX_BODY_BYTES

-- how the body is delimited of which this is known
abbrev pub framing_of : Body → Framing
framing_of (body.Sized size) = Length size
framing_of (body.Chunks found) = Chunked

-- these bytes of a body were read, and this is known of them: none of one with a length, and whole chunks with this data
abbrev pub IsBodyKept : List ℕ → Body → Type 0
IsBodyKept before (body.Sized size) = before ≡ []
IsBodyKept before (body.Chunks found) = HasChunks before found []

-- ---- what is found

-- the text begins with no whole body
abbrev pub HasNoBody : Framing → List ℕ → Type 0
HasNoBody framing text = (found rest : List ℕ) → ¬ (BeginsBody framing text found rest)

-- a body that has not come whole, and has no fault so far, of which these bytes were read before. So many bytes of the text were
-- read now, and what is known of the body afterwards is known of all that were read
pub record IsGoing (framing : Framing) (before text : List ℕ) (len : ℕ) (after : Body) : Type 0 where
  pub none : HasNoBody framing (before ++ text)
  pub faultless : (fault : WireFault) → ¬ (RefusesBody framing (before ++ text) fault)
  pub framed : framing ≡ framing_of after
  pub within : len ≤ length text
  pub kept : IsBodyKept (before ++ take len text) after

-- the same for each outcome: the whole body, and what follows it; no end of it yet; or a fault, which changes nothing
abbrev pub IsReadAfter : List ℕ → Body → List ℕ → Body → BodyRead → Type 0
IsReadAfter before known text after (read.Whole found len) =
    (len ≤ length text) × BeginsBody (framing_of known) (before ++ text) found (drop len text)
IsReadAfter before known text after (read.Going len) = IsGoing (framing_of known) before text len after
IsReadAfter before known text after (read.Refused fault) =
    (after ≡ known) × HasNoBody (framing_of known) (before ++ text) × RefusesBody (framing_of known) (before ++ text) fault

-- what is read is right after whichever bytes this is known of
abbrev pub IsBodyRead : Body → List ℕ → Body → BodyRead → Type 0
IsBodyRead known text after found = (before : List ℕ) → IsBodyKept before known → IsReadAfter before known text after found
