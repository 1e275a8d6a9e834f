-- For the clauses of private functions: what is read of a chunk.
use Rattle.std.specs.Prelude.{◌≡◌, ℕ, ◌≤◌, ◌<◌, ◌+◌, List, ◌++◌, length, take, drop}
use Rattle.httparse.specs.Ascii.{crlf_bytes}
use Rattle.cd_wire.specs.declared.limits.TheConstants.{MAX_BODY_BYTES}
use Rattle.cd_wire.specs.declared.fault.WireFault.{WireFault}
use Rattle.cd_wire.specs.declared.chunks.ChunkRead.{ChunkRead}
use Rattle.cd_wire.specs.declared.chunks.ChunkRead.TheVariants as chunk
use Rattle.cd_wire.specs.declared.chunks.CrlfRead.{CrlfRead}
use Rattle.cd_wire.specs.declared.chunks.CrlfRead.TheVariants as crlf
use Rattle.cd_wire.specs.declared.chunks.LineRead.{LineRead}
use Rattle.cd_wire.specs.declared.chunks.LineRead.TheVariants as line
use Rattle.cd_wire.specs.Bodies.{BeginsLine, BeginsChunk, NeverHasCrlf, RefusesLine, RefusesChunk}

-- no chunk that fits comes first, and not the last one
pub record HasNoChunk (before : ℕ) (text : List ℕ) : Type 0 where
  pub none : (piece rest : List ℕ) → BeginsChunk text piece rest → MAX_BODY_BYTES < before + length piece
  pub not_last : (rest : List ℕ) → ¬ (BeginsLine text 0 (crlf_bytes ++ rest))

-- the place and the size of a chunk's data, and the place of the next chunk
pub record HasData (before : ℕ) (text : List ℕ) (start size next : ℕ) : Type 0 where
  pub some : 0 < size
  pub past : start + size < next
  pub within : next ≤ length text
  pub fits : before + size ≤ MAX_BODY_BYTES
  pub chunk : BeginsChunk text (take size (drop start text)) (drop next text)

abbrev pub IsCrlfRead : List ℕ → CrlfRead → Type 0
IsCrlfRead text crlf.Whole = (2 ≤ length text) × (text ≡ crlf_bytes ++ drop 2 text)
IsCrlfRead text crlf.Partial = ((rest : List ℕ) → ¬ (text ≡ crlf_bytes ++ rest)) × ¬ (NeverHasCrlf text)
IsCrlfRead text crlf.Other = NeverHasCrlf text

abbrev pub IsLineRead : ℕ → List ℕ → LineRead → Type 0
IsLineRead most text (line.Whole len size) = (len ≤ length text) × (size ≤ most) × BeginsLine text size (drop len text)
IsLineRead most text line.TooGreat = (size : ℕ) × (after : List ℕ) × BeginsLine text size after × (most < size)
IsLineRead most text line.Partial = ((size : ℕ) (rest : List ℕ) → ¬ (BeginsLine text size rest)) × ¬ (RefusesLine text)
IsLineRead most text line.Refused = RefusesLine text

abbrev pub IsChunkRead : ℕ → List ℕ → ChunkRead → Type 0
IsChunkRead before text (chunk.Data start size next) = HasData before text start size next
IsChunkRead before text (chunk.Last next) = (next ≤ length text) × BeginsLine text 0 (crlf_bytes ++ drop next text)
IsChunkRead before text chunk.Partial = HasNoChunk before text × ((fault : WireFault) → ¬ (RefusesChunk before text fault))
IsChunkRead before text (chunk.Refused fault) = HasNoChunk before text × RefusesChunk before text fault
