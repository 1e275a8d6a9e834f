-- What a loop over the chunks of a text says of a body, of which some bytes were read before.
use Rattle.std.proofs.Common.{◌≡◌, ℕ, ◌+◌, ◌≤◌, List, [], ◌∷◌, ◌++◌, length, take, drop, refl, sym, ap, ◌∙◌, subst, append_assoc, arith}
use Rattle.std.proofs.Math.Seq.{take-add}
use Rattle.std.proofs.lemmas.List.{take-append-drop, length-take, length-drop, drop-drop, length-append, append_cancel_right, take-append-le}
use Rattle.httparse.specs.Ascii.{crlf_bytes}
use Rattle.httparse.specs.Grammar.{print_chunk_line}
use Rattle.cd_wire.specs.declared.limits.TheConstants.{MAX_BODY_BYTES}
use Rattle.cd_wire.specs.declared.fault.WireFault.{WireFault}
use Rattle.cd_wire.specs.declared.framing.Framing.TheVariants.{Chunked}
use Rattle.cd_wire.specs.Bodies.{BeginsLine, BeginsChunk, joined, RefusesChunk, BeginsBody, RefusesBody}
use Rattle.cd_wire.specs.Chunks.{HasNoChunk, HasData}
use Rattle.cd_wire.specs.declared.bodies.Body.TheVariants as body
use Rattle.cd_wire.specs.declared.bodies.BodyRead.TheVariants as read
use Rattle.cd_wire.specs.Reading.{HasChunks, HasNoBody, IsBodyRead}
use Rattle.cd_wire.proofs.RequestLaws.{ChunksThen-append}
use Rattle.cd_wire.proofs.BodyLemmas.{Chunks-snoc, Chunks-last, joined-snoc, no_body, no_fault, zero_more}

-- ---- chunks that were read, and what follows them

-- what follows changes nothing of them
pub chunks_first : (text found rest : List ℕ) → HasChunks text found [] → HasChunks (text ++ rest) found rest
chunks_first text found rest r = record {
  pieces = r.pieces;
  chunks = ChunksThen-append text r.pieces [] rest r.chunks;
  is = r.is;
  fits = r.fits;
}

grouped : (a b c d : List ℕ) → a ++ (b ++ (c ++ d)) ≡ (a ++ (b ++ c)) ++ d
grouped a b c d = simp append_assoc

-- a chunk without what follows it
chunk_alone : (text piece : List ℕ) (next : ℕ) → BeginsChunk text piece (drop next text) → BeginsChunk (take next text) piece []
chunk_alone text piece next c =
    let line = print_chunk_line c.line.line in
    let rest = drop next text in
    let whole : take next text ++ rest ≡ (line ++ (piece ++ crlf_bytes)) ++ rest =
    take-append-drop next text ∙ c.line.reads.1 ∙ ap (λ t. line ++ t) c.is ∙ grouped line piece crlf_bytes rest in
    record {
      after = piece ++ crlf_bytes;
      line = record {
        line = c.line.line;
        reads = (c.line.reads.0, append_cancel_right (take next text) (line ++ (piece ++ crlf_bytes)) rest whole);
        short = c.line.short;
        is = c.line.is;
      };
      some = c.some;
      is = refl;
    }

-- one more
pub one_read : (text found rest : List ℕ) (start size next : ℕ) → HasChunks text found []
    → HasData (length found) rest start size next
    → HasChunks (text ++ take next rest) (found ++ take size (drop start rest)) []
one_read text found rest start size next r d =
    let piece = take size (drop start rest) in
    let short : length piece ≤ size = omega (arith, length-take size (drop start rest)) in
    record {
      pieces = r.pieces ++ piece ∷ [];
      chunks = Chunks-snoc (text ++ take next rest) r.pieces piece (take next rest) []
          (ChunksThen-append text r.pieces [] (take next rest) r.chunks) (chunk_alone rest piece next d.chunk);
      is = ap (λ t. t ++ piece) r.is ∙ sym (joined-snoc r.pieces piece);
      fits = omega (arith, length-append found piece, d.fits);
    }

-- the last one
pub last_read : (text found rest : List ℕ) (next : ℕ) → HasChunks text found rest
    → BeginsLine rest 0 (crlf_bytes ++ drop next rest) → BeginsBody Chunked text found (drop next rest)
last_read text found rest next r b = (r.pieces, Chunks-last text r.pieces rest (drop next rest) r.chunks b, r.is, r.fits)

-- no whole one
pub none_whole : (text found rest : List ℕ) → HasChunks text found rest → HasNoChunk (length found) rest → HasNoBody Chunked text
none_whole text found rest r none body left b =
    let here = subst (λ (n : ℕ). HasNoChunk n rest) (ap length r.is ∙ zero_more (length (joined r.pieces))) none in
    no_body 0 text r.pieces b.0 rest left r.chunks here b.1 (omega (arith, ap length b.2, b.3))

pub none_refused : (text found rest : List ℕ) → HasChunks text found rest → HasNoChunk (length found) rest
    → ((fault : WireFault) → ¬ (RefusesChunk (length found) rest fault)) → (fault : WireFault) → ¬ (RefusesBody Chunked text fault)
none_refused text found rest r none sound fault b =
    let before = ap length r.is ∙ zero_more (length (joined r.pieces)) in
    let here = subst (λ (n : ℕ). HasNoChunk n rest) before none in
    no_fault 0 text r.pieces b.0 rest b.1 fault r.chunks (omega (arith, ap length r.is, r.fits)) here
    (λ refuses. sound fault (subst (λ (n : ℕ). RefusesChunk n rest fault) (sym before) refuses))
    b.2 (omega (arith, b.3)) (subst (λ (n : ℕ). RefusesChunk n b.1 fault) (zero_more _) b.4)

-- a fault
pub one_refused : (text found rest : List ℕ) (fault : WireFault) → HasChunks text found rest
    → RefusesChunk (length found) rest fault → RefusesBody Chunked text fault
one_refused text found rest fault r refuses = (
  r.pieces,
  rest,
  r.chunks,
  omega (arith, ap length r.is, r.fits),
  subst (λ (n : ℕ). RefusesChunk n rest fault) (ap length r.is) refuses,
)

-- ---- a loop over the chunks

-- up to a place the text is more chunks, which follow those with the old data
pub record IsReadTo (old text : List ℕ) (at : ℕ) (found : List ℕ) : Type 0 where
  pub within : at ≤ length text
  pub fits : length found ≤ MAX_BODY_BYTES
  pub long : length old ≤ length found
  pub began : take (length old) found ≡ old
  pub kept : (before : List ℕ) → HasChunks before old [] → HasChunks (before ++ take at text) found []

-- the rest of all the bytes is the rest of the text
pub rest_first : (old text : List ℕ) (at : ℕ) (found before : List ℕ) → IsReadTo old text at found → HasChunks before old []
    → HasChunks (before ++ text) found (drop at text)
rest_first old text at found before r h =
    subst (λ (t : List ℕ). HasChunks t found (drop at text))
    (append_assoc before (take at text) (drop at text) ∙ ap (λ t. before ++ t) (take-append-drop at text))
    (chunks_first (before ++ take at text) found (drop at text) (r.kept before h))

pub read_step : (old text found rest made : List ℕ) (at start size next : ℕ) → IsReadTo old text at found → rest ≡ drop at text
    → HasData (length found) rest start size next → made ≡ found ++ take size (drop start rest)
    → IsReadTo old text (at + next) made
read_step old text found rest made at start size next r is d made_is =
    let piece = take size (drop start rest) in
    let left : length rest + at ≡ length text = omega (arith, ap length is, length-drop at text, r.within) in
    let short : length piece ≤ size = omega (arith, length-take size (drop start rest)) in
    let longer : length made ≡ length found + length piece = ap length made_is ∙ length-append found piece in
    let there : (before : List ℕ) → (before ++ take at text) ++ take next rest ≡ before ++ take (at + next) text = λ before.
    append_assoc before (take at text) (take next rest)
    ∙ ap (λ t. before ++ t) (ap (λ t. take at text ++ take next t) is ∙ sym (take-add at next text)) in
    record {
      within = omega (arith, d.within);
      fits = omega (arith, d.fits);
      long = omega (arith, r.long);
      began = ap (take (length old)) made_is ∙ take-append-le (length old) found piece r.long ∙ r.began;
      kept = λ before h.
          subst (λ (t : List ℕ). HasChunks t made []) (there before)
          (subst (λ (t : List ℕ). HasChunks ((before ++ take at text) ++ take next rest) t []) (sym made_is)
          (one_read (before ++ take at text) found rest start size next (r.kept before h) d));
    }

-- ---- how the loop ends

-- the last chunk
pub last_after : (old text found rest : List ℕ) (at next : ℕ) → IsReadTo old text at found → rest ≡ drop at text
    → next ≤ length rest → BeginsLine rest 0 (crlf_bytes ++ drop next rest) → (all : List ℕ) → all ≡ found
    → IsBodyRead (body.Chunks old) text (body.Chunks []) (read.Whole all (at + next))
last_after old text found rest at next r is within b all all_is before h =
    let line = subst (λ (t : List ℕ). BeginsLine t 0 (crlf_bytes ++ drop next t)) is b in
    let whole = last_read (before ++ text) found (drop at text) next (rest_first old text at found before r h) line in (
      omega (arith, ap length is, length-drop at text, r.within),
      subst (λ (t : List ℕ). BeginsBody Chunked (before ++ text) t (drop (at + next) text)) (sym all_is)
          (subst (λ (t : List ℕ). BeginsBody Chunked (before ++ text) found t) (drop-drop next at text) whole),
    )

-- no whole chunk yet
pub going_after : (old text found rest : List ℕ) (at n : ℕ) → IsReadTo old text at found → rest ≡ drop at text
    → n ≡ length found → HasNoChunk n rest → ((fault : WireFault) → ¬ (RefusesChunk n rest fault))
    → IsBodyRead (body.Chunks old) text (body.Chunks found) (read.Going at)
going_after old text found rest at n r is n_is none sound before h =
    let first = rest_first old text at found before r h in
    let here = subst (λ (k : ℕ). HasNoChunk k (drop at text)) n_is (subst (λ (t : List ℕ). HasNoChunk n t) is none) in
    record {
      none = none_whole (before ++ text) found (drop at text) first here;
      faultless = none_refused (before ++ text) found (drop at text) first here (λ (fault : WireFault) refuses.
          sound fault (subst (λ (t : List ℕ). RefusesChunk n t fault) (sym is)
          (subst (λ (k : ℕ). RefusesChunk k (drop at text) fault) (sym n_is) refuses)));
      framed = refl;
      within = r.within;
      kept = r.kept before h;
    }

-- a fault
pub refused_after : (old text found rest back : List ℕ) (at n had : ℕ) (fault : WireFault) → IsReadTo old text at found
    → rest ≡ drop at text → n ≡ length found → HasNoChunk n rest → RefusesChunk n rest fault → had ≡ length old
    → back ≡ take had found → IsBodyRead (body.Chunks old) text (body.Chunks back) (read.Refused fault)
refused_after old text found rest back at n had fault r is n_is none refuses had_is back_is before h =
    let first = rest_first old text at found before r h in
    let here = subst (λ (k : ℕ). HasNoChunk k (drop at text)) n_is (subst (λ (t : List ℕ). HasNoChunk n t) is none) in
    let fails = subst (λ (k : ℕ). RefusesChunk k (drop at text) fault) n_is (subst (λ (t : List ℕ). RefusesChunk n t fault) is refuses) in (
      ap (λ (t : List ℕ). body.Chunks t) (back_is ∙ ap (λ k. take k found) had_is ∙ r.began),
      none_whole (before ++ text) found (drop at text) first here,
      one_refused (before ++ text) found (drop at text) fault first fails,
    )
