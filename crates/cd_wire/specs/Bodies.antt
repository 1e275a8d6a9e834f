-- Part of the main theorem.
-- Bodies of messages (RFC 9112, sections 6 and 7.1): when a text begins with one, and when it is refused.
use Rattle.std.specs.Prelude.{◌≡◌, ℕ, ◌≤◌, ◌+◌, ◌<◌, ◌⊎◌, List, [], ◌∷◌, ◌++◌, length, take, drop}
use Rattle.httparse.specs.Grammar.{ChunkLine, print_chunk_line, ReadsChunkLine, HasNoChunkLine, NeverHasChunkLine, chunk_size}
use Rattle.httparse.specs.Ascii.{crlf_bytes}
use Rattle.cd_wire.specs.declared.limits.TheConstants.{MAX_BODY_BYTES, MAX_CHUNK_LINE_BYTES}
use Rattle.cd_wire.specs.declared.fault.WireFault.{WireFault}
use Rattle.cd_wire.specs.declared.fault.WireFault.TheVariants.{BadLength, BodyTooLong}
use Rattle.cd_wire.specs.declared.framing.Framing.{Framing}
use Rattle.cd_wire.specs.declared.framing.Framing.TheVariants.{Length, Chunked}

-- ---- whole bodies

-- the text begins with the line of a chunk of so many bytes, which is short enough, and then comes this rest
pub record BeginsLine (text : List ℕ) (size : ℕ) (rest : List ℕ) : Type 0 where
  pub line : ChunkLine
  pub reads : ReadsChunkLine text line rest
  pub short : length (print_chunk_line line) ≤ MAX_CHUNK_LINE_BYTES
  pub is : size ≡ chunk_size line

-- the text begins with one chunk that is not the last, and then comes this rest
pub record BeginsChunk (text piece rest : List ℕ) : Type 0 where
  pub after : List ℕ
  pub line : BeginsLine text (length piece) after
  pub some : 0 < length piece
  pub is : after ≡ piece ++ (crlf_bytes ++ rest)

-- the text begins with these chunks and the last one, which has no bytes, and then comes this rest
abbrev pub BeginsChunks : List ℕ → List (List ℕ) → List ℕ → Type 0
BeginsChunks text [] rest = BeginsLine text 0 (crlf_bytes ++ rest)
BeginsChunks text (piece ∷ pieces) rest =
    (after : List ℕ) × BeginsChunk text piece after × BeginsChunks after pieces rest

-- the pieces, one after another
abbrev pub joined : List (List ℕ) → List ℕ
joined [] = []
joined (piece ∷ pieces) = piece ++ joined pieces

-- the text begins with the body, and then comes this rest
abbrev pub BeginsBody : Framing → List ℕ → List ℕ → List ℕ → Type 0
BeginsBody (Length size) text body rest = (text ≡ body ++ rest) × (length body ≡ size)
BeginsBody Chunked text body rest =
    (pieces : List (List ℕ)) × BeginsChunks text pieces rest × (body ≡ joined pieces) × (length body ≤ MAX_BODY_BYTES)

-- ---- refused bodies: the first fault counts

-- the text begins with these chunks, none of which is the last, and then comes this rest
abbrev pub ChunksThen : List ℕ → List (List ℕ) → List ℕ → Type 0
ChunksThen text [] rest = text ≡ rest
ChunksThen text (piece ∷ pieces) rest =
    (after : List ℕ) × BeginsChunk text piece after × ChunksThen after pieces rest

-- no bytes can follow that make the text begin with CR LF
abbrev pub NeverHasCrlf : List ℕ → Type 0
NeverHasCrlf text = (more rest : List ℕ) → ¬ (text ++ more ≡ crlf_bytes ++ rest)

-- what is at the place of a chunk's line never becomes one, or is too long for one
abbrev pub RefusesLine : List ℕ → Type 0
RefusesLine text =
    NeverHasChunkLine (take MAX_CHUNK_LINE_BYTES text)
    ⊎ ((MAX_CHUNK_LINE_BYTES ≤ length text) × HasNoChunkLine (take MAX_CHUNK_LINE_BYTES text))

-- the line of a chunk, whose bytes do not make the body too long where so many came before
pub record HasSize (text : List ℕ) (size : ℕ) (after : List ℕ) (before : ℕ) : Type 0 where
  pub line : BeginsLine text size after
  pub fits : before + size ≤ MAX_BODY_BYTES

-- the fault at a chunk, where so many bytes of the body came before: the body grows too long, or there is no line, or the
-- data does not end in CR LF
abbrev pub RefusesChunk : ℕ → List ℕ → WireFault → Type 0
RefusesChunk before text BodyTooLong =
    (size : ℕ) × (after : List ℕ) × BeginsLine text size after × (MAX_BODY_BYTES < before + size)
RefusesChunk before text BadLength =
    RefusesLine text
    ⊎ ((size : ℕ) × (after : List ℕ) × HasSize text size after before × NeverHasCrlf (drop size after))
RefusesChunk before text other = ⊥

-- the fault of a body: one of a known length has none
abbrev pub RefusesBody : Framing → List ℕ → WireFault → Type 0
RefusesBody (Length size) text fault = ⊥
RefusesBody Chunked text fault =
    (pieces : List (List ℕ)) × (rest : List ℕ)
    × ChunksThen text pieces rest × (length (joined pieces) ≤ MAX_BODY_BYTES)
    × RefusesChunk (length (joined pieces)) rest fault
