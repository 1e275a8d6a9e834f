-- What follows a request need not be there.
use Rattle.std.proofs.Common.{◌≡◌, Bool, ℕ, List, [], ◌∷◌, ◌++◌, length, refl, sym, ap, ◌∙◌, append_assoc, subst, ◌<◌, arith, length-append, ◌≤◌}
use Rattle.std.proofs.lemmas.List.{append_cancel_right, append-nil}
use Rattle.httparse.specs.Grammar.{print_request, print_chunk_line}
use Rattle.httparse.specs.Ascii.{crlf_bytes}
use Rattle.cd_wire.specs.declared.head.Head.{Head}
use Rattle.cd_wire.specs.declared.request.Request.{Request}
use Rattle.cd_wire.specs.declared.framing.Framing.{Framing}
use Rattle.cd_wire.specs.declared.framing.Framing.TheVariants.{Length, Chunked}
use Rattle.cd_wire.specs.Heads.{BeginsHead}
use Rattle.cd_wire.specs.declared.taking.Front.{Front}
use Rattle.cd_wire.specs.Bodies.{BeginsLine, BeginsChunk, BeginsChunks, ChunksThen, joined, BeginsBody}
use Rattle.cd_wire.specs.Reading.{HasChunks}
use Rattle.cd_wire.specs.Taking.{HasFront}
use Rattle.cd_wire.specs.declared.intake.Look.{Look}
use Rattle.cd_wire.specs.declared.intake.Look.TheVariants as look
use Rattle.cd_wire.specs.declared.intake.Next.{Next}
use Rattle.cd_wire.specs.declared.intake.Next.TheVariants as next
use Rattle.cd_wire.specs.Intake.{IsNext, IsLook}
use Rattle.cd_wire.specs.Requests.{BeginsRequest}
use Rattle.cd_wire.proofs.TakingLemmas.{nothing_no_request}

-- the front of what is these bytes and then a rest
cut : (front one other rest : List ℕ) → front ++ rest ≡ one ++ (other ++ rest) → front ≡ one ++ other
cut front one other rest is = append_cancel_right front (one ++ other) rest (is ∙ sym (append_assoc one other rest))

head_cut : (front part rest : List ℕ) (head : Head) → BeginsHead (front ++ rest) head (part ++ rest) → BeginsHead front head part
head_cut front part rest head b = record {
  lines = b.lines;
  reads = (b.reads.0, cut front (print_request b.lines) part rest b.reads.1);
  short = b.short;
  few = b.few;
  is = b.is;
}

line_cut : (front part rest : List ℕ) (size : ℕ) → BeginsLine (front ++ rest) size (part ++ rest) → BeginsLine front size part
line_cut front part rest size b = record {
  line = b.line;
  reads = (b.reads.0, cut front (print_chunk_line b.line) part rest b.reads.1);
  short = b.short;
  is = b.is;
}

chunk_cut : (front part rest piece : List ℕ) → BeginsChunk (front ++ rest) piece (part ++ rest) → BeginsChunk front piece part
chunk_cut front part rest piece b = record {
  after = piece ++ (crlf_bytes ++ part);
  line = line_cut front (piece ++ (crlf_bytes ++ part)) rest (length piece)
      (subst (λ (t : List ℕ). BeginsLine (front ++ rest) (length piece) t) (b.is ∙ after) b.line);
  some = b.some;
  is = refl;
}
  where
    after : piece ++ (crlf_bytes ++ (part ++ rest)) ≡ (piece ++ (crlf_bytes ++ part)) ++ rest
    after = sym (append_assoc piece (crlf_bytes ++ part) rest ∙ ap (λ (t : List ℕ). piece ++ t) (append_assoc crlf_bytes part rest))

-- chunks, the last one too, end in what follows them
chunks_before : (text : List ℕ) (pieces : List (List ℕ)) (rest : List ℕ) → BeginsChunks text pieces rest
    → (front : List ℕ) × (text ≡ front ++ rest)
chunks_before text [] rest b =
    (print_chunk_line b.line ++ crlf_bytes, b.reads.1 ∙ sym (append_assoc (print_chunk_line b.line) crlf_bytes rest))
chunks_before text (piece ∷ pieces) rest b =
    let later = chunks_before b.0 pieces rest b.2 in
    let line = print_chunk_line b.1.line.line in
    let after : b.1.after ≡ (piece ++ (crlf_bytes ++ later.0)) ++ rest =
    b.1.is ∙ ap (λ (t : List ℕ). piece ++ (crlf_bytes ++ t)) later.1
    ∙ sym (append_assoc piece (crlf_bytes ++ later.0) rest ∙ ap (λ (t : List ℕ). piece ++ t) (append_assoc crlf_bytes later.0 rest)) in (
      line ++ (piece ++ (crlf_bytes ++ later.0)),
      b.1.line.reads.1 ∙ ap (λ (t : List ℕ). line ++ t) after ∙ sym (append_assoc line (piece ++ (crlf_bytes ++ later.0)) rest),
    )

chunks_cut : (front rest : List ℕ) (pieces : List (List ℕ)) → BeginsChunks (front ++ rest) pieces rest → BeginsChunks front pieces []
chunks_cut front rest [] b =
    subst (λ (t : List ℕ). BeginsLine front 0 t) (sym (append-nil crlf_bytes)) (line_cut front crlf_bytes rest 0 b)
chunks_cut front rest (piece ∷ pieces) b =
    let later = chunks_before b.0 pieces rest b.2 in (
      later.0,
      chunk_cut front later.0 rest piece (subst (λ (t : List ℕ). BeginsChunk (front ++ rest) piece t) later.1 b.1),
      chunks_cut later.0 rest pieces (subst (λ (t : List ℕ). BeginsChunks t pieces rest) later.1 b.2),
    )

body_before : (framing : Framing) (text body rest : List ℕ) → BeginsBody framing text body rest
    → (front : List ℕ) × (text ≡ front ++ rest)
body_before (Length size) text body rest b = (body, b.0)
body_before Chunked text body rest b = chunks_before text b.0 rest b.1

body_cut : (framing : Framing) (front body rest : List ℕ) → BeginsBody framing (front ++ rest) body rest → BeginsBody framing front body []
body_cut (Length size) front body rest b = (append_cancel_right front body rest b.0 ∙ sym (append-nil body), b.1)
body_cut Chunked front body rest b = (b.0, chunks_cut front rest b.0 b.1, b.2, b.3)

pub request_cut : (front rest : List ℕ) (request : Request) → BeginsRequest (front ++ rest) request rest → BeginsRequest front request []
request_cut front rest request b =
    let part = body_before b.framing b.after b.body rest b.delimited in
    record {
      head = b.head;
      after = part.0;
      begins = head_cut front part.0 rest b.head (subst (λ (t : List ℕ). BeginsHead (front ++ rest) b.head t) part.1 b.begins);
      framing = b.framing;
      judged = b.judged;
      body = b.body;
      delimited = body_cut b.framing part.0 b.body rest (subst (λ (t : List ℕ). BeginsBody b.framing t b.body rest) part.1 b.delimited);
      is = b.is;
    }

-- a request has some bytes
pub some_request : (bytes : List ℕ) (request : Request) (rest : List ℕ) → BeginsRequest bytes request rest → 0 < length bytes
some_request [] request rest b = absurd (nothing_no_request request rest b)
some_request (byte ∷ bytes) request rest b = omega arith

-- no bytes at all are none in each part
pub none_after : (one other : List ℕ) → one ++ other ≡ [] → (one ≡ []) × (other ≡ [])
none_after [] other is = (refl, is)
none_after (byte ∷ one) other is = absurd (omega (arith, ap length is))

-- ---- data is no longer than what it was read from

chunks_short : (text : List ℕ) (pieces : List (List ℕ)) (rest : List ℕ) → ChunksThen text pieces rest
    → length (joined pieces) ≤ length text
chunks_short text [] rest so = omega arith
chunks_short text (piece ∷ pieces) rest so =
    let later = chunks_short so.0 pieces rest so.2 in
    let line = print_chunk_line so.1.line.line in
    let whole = ap length so.1.line.reads.1 ∙ length-append line so.1.after in
    let after = ap length so.1.is ∙ length-append piece (crlf_bytes ++ so.0) in
    let end = length-append crlf_bytes so.0 in
    let both = length-append piece (joined pieces) in
    omega (arith, later, whole, after, end, both)

pub data_short : (part found : List ℕ) → HasChunks part found [] → length found ≤ length part
data_short part found h =
    let short = chunks_short part h.pieces [] h.chunks in
    let same = ap length h.is in
    omega (arith, short, same)

pub part_short : (read : List ℕ) (front : Front) (f : HasFront read front) → length f.part ≤ length read
part_short read front f =
    let whole = ap length f.begins.reads.1 ∙ length-append (print_request f.begins.lines) f.part in
    omega (arith, whole)

-- ---- what is found and what is taken

pub whole_is_taken : (bytes new : List ℕ) (ended : Bool) (found : Next) → IsLook bytes ended look.Whole → IsNext bytes ended new found
    → (request : Request) × (found ≡ next.Request request)
whole_is_taken bytes new ended (next.Request request) l n = (request, refl)
whole_is_taken bytes new ended next.More l n = absurd (n.2.0 l.0 l.1 l.2)
whole_is_taken bytes new ended next.End l n =
    absurd (nothing_no_request l.0 l.1 (subst (λ (b : List ℕ). BeginsRequest b l.0 l.1) n.2 l.2))
whole_is_taken bytes new ended next.Cut l n = absurd (n.2 l.0 l.1 l.2)
whole_is_taken bytes new ended (next.Refused fault) l n = absurd (n.1 l.0 l.1 l.2)

pub taken_is_whole : (bytes new : List ℕ) (ended : Bool) (request : Request) (found : Look) → IsNext bytes ended new (next.Request request)
    → IsLook bytes ended found → found ≡ look.Whole
taken_is_whole bytes new ended request look.Whole n l = refl
taken_is_whole bytes new ended request look.More n l = absurd (l.2.0 request new n)
taken_is_whole bytes new ended request look.End n l =
    absurd (nothing_no_request request new (subst (λ (b : List ℕ). BeginsRequest b request new) l.2 n))
taken_is_whole bytes new ended request look.Cut n l = absurd (l.2 request new n)
taken_is_whole bytes new ended request (look.Refused fault) n l = absurd (l.1 request new n)
