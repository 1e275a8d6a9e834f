-- What the front of a text says of the line of a chunk.
use Rattle.std.proofs.Common.{◌≡◌, ℕ, ◌-◌, ◌<◌, ◌≤◌, List, [], ◌++◌, length, take, drop, ap, ◌∙◌, subst, arith, length-append, inl, inr}
use Rattle.std.proofs.lemmas.List.{take-append-drop}
use Rattle.httparse.specs.Grammar.{ChunkLine, ReadsChunkLine, print_chunk_line, HasNoChunkLine, MayBecomeChunkLine}
use Rattle.httparse.specs.Spans.{IsChunkLineAt}
use Rattle.httparse.proofs.ChunkLemmas.{ReadsChunkLine-append}
use Rattle.cd_wire.specs.declared.limits.TheConstants.{MAX_CHUNK_LINE_BYTES}
use Rattle.cd_wire.specs.Bodies.{BeginsLine, RefusesLine}
use Rattle.cd_wire.proofs.RequestLaws.{BeginsLine-append}
use Rattle.cd_wire.proofs.FrontLemmas.{rest_of_front, take_past}

-- the line that the front begins with is that of the text
pub line_of_front : (text : List ℕ) (n len size : ℕ) → len ≤ length (take n text)
    → BeginsLine (take n text) size (drop len (take n text)) → BeginsLine text size (drop len text)
line_of_front text n len size within b =
    subst (λ t. BeginsLine t size (drop len text)) (take-append-drop n text)
    (subst (λ r. BeginsLine (take n text ++ drop n text) size r) (rest_of_front text n len within)
    (BeginsLine-append (take n text) size (drop len (take n text)) (drop n text) b))

-- a line of the text is one of its front
pub front_has_line : (text : List ℕ) (size : ℕ) (rest : List ℕ) → BeginsLine text size rest
    → (l : ChunkLine) × (r : List ℕ) × ReadsChunkLine (take MAX_CHUNK_LINE_BYTES text) l r
front_has_line text size rest b = (
  b.line,
  take (MAX_CHUNK_LINE_BYTES - length (print_chunk_line b.line)) rest,
  (b.reads.0, ap (take MAX_CHUNK_LINE_BYTES) b.reads.1 ∙ take_past (print_chunk_line b.line) rest MAX_CHUNK_LINE_BYTES b.short),
)

-- no line is where one is refused
pub refused_is_no_line : (text : List ℕ) (size : ℕ) (rest : List ℕ) → RefusesLine text → BeginsLine text size rest → ⊥
refused_is_no_line text size rest refuses b =
    let f = front_has_line text size rest b in
    elim refuses [
      | inl never ↦ never [] f.0 (f.1 ++ []) (ReadsChunkLine-append (take MAX_CHUNK_LINE_BYTES text) f.0 f.1 [] f.2)
      | inr none ↦ none.1 f.0 f.1 f.2
    ]

-- the line that was read of the front
pub line_found : (text buf : List ℕ) (len size : ℕ) (l : ChunkLine) → buf ≡ take MAX_CHUNK_LINE_BYTES text
    → length buf ≤ MAX_CHUNK_LINE_BYTES → length buf ≤ length text → IsChunkLineAt buf len size l
    → (len ≤ length text) × BeginsLine text size (drop len text)
line_found text buf len size l is short within found =
    let whole = ap length found.reads.1 in
    let cut : len ≤ length buf = omega (arith, whole, found.len_is, length-append (print_chunk_line l) (drop len buf)) in
    let line : BeginsLine buf size (drop len buf) = record {
      line = l;
      reads = found.reads;
      short = omega (arith, found.len_is);
      is = found.size_is;
    } in (
      omega arith,
      line_of_front text MAX_CHUNK_LINE_BYTES len size (subst (λ (b : List ℕ). len ≤ length b) is cut)
          (subst (λ (b : List ℕ). BeginsLine b size (drop len b)) is line),
    )

-- no line in the front, no line in the text
pub no_line_in_front : (text : List ℕ) → HasNoChunkLine (take MAX_CHUNK_LINE_BYTES text) → (size : ℕ) (rest : List ℕ)
    → ¬ (BeginsLine text size rest)
no_line_in_front text none size rest b = let f = front_has_line text size rest b in none f.0 f.1 f.2

-- the front of a short text may become a line
pub short_may : (text : List ℕ) → length text < MAX_CHUNK_LINE_BYTES → MayBecomeChunkLine (take MAX_CHUNK_LINE_BYTES text) → ¬ (RefusesLine text)
short_may text short may refuses =
    elim refuses [
      | inl never ↦ never may.0 may.1 [] may.2
      | inr full ↦ absurd (omega (arith, full.0))
    ]
