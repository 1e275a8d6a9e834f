-- What more bytes leave of a list of requests, and that an input has one.
use Rattle.std.proofs.Common.{◌≡◌, ℕ, List, [], ◌∷◌, ◌++◌, length, refl, sym, ap, ◌∙◌, append_assoc, arith, Result, Ok, ◌<◌, subst, Bool, false}
use Rattle.std.proofs.lemmas.List.{append_cancel_left}
use Rattle.httparse.specs.Grammar.{chunk_size}
use Rattle.httparse.specs.Ascii.{crlf_bytes}
use Rattle.httparse.proofs.GrammarLemmas.{ReadsRequest-append, request_unique}
use Rattle.httparse.proofs.ChunkLemmas.{ReadsChunkLine-append, chunk_line_unique}
use Rattle.cd_wire.specs.declared.head.Head.{Head}
use Rattle.cd_wire.specs.declared.request.Request.{Request}
use Rattle.cd_wire.specs.declared.fault.WireFault.{WireFault}
use Rattle.cd_wire.specs.declared.framing.Framing.{Framing}
use Rattle.cd_wire.specs.declared.framing.Framing.TheVariants.{Length, Chunked}
use Rattle.cd_wire.specs.Heads.{BeginsHead, head_of}
use Rattle.cd_wire.specs.Framing.{judge, request_of}
use Rattle.cd_wire.specs.Bodies.{BeginsLine, BeginsChunk, BeginsChunks, ChunksThen, joined, BeginsBody}
use Rattle.cd_wire.specs.Requests.{BeginsRequest, Splits, HasNoRequest, HasRequests, Tail}

-- ---- more bytes change nothing of what has begun

pub BeginsHead-append : (input : List ℕ) (head : Head) (rest more : List ℕ)
    → BeginsHead input head rest → BeginsHead (input ++ more) head (rest ++ more)
BeginsHead-append input head rest more b = record {
  lines = b.lines;
  reads = ReadsRequest-append input b.lines rest more b.reads;
  short = b.short;
  few = b.few;
  is = b.is;
}

pub BeginsLine-append : (text : List ℕ) (size : ℕ) (rest more : List ℕ)
    → BeginsLine text size rest → BeginsLine (text ++ more) size (rest ++ more)
BeginsLine-append text size rest more b = record {
  line = b.line;
  reads = ReadsChunkLine-append text b.line rest more b.reads;
  short = b.short;
  is = b.is;
}

pub BeginsChunk-append : (text piece rest more : List ℕ)
    → BeginsChunk text piece rest → BeginsChunk (text ++ more) piece (rest ++ more)
BeginsChunk-append text piece rest more b = record {
  after = b.after ++ more;
  line = BeginsLine-append text (length piece) b.after more b.line;
  some = b.some;
  is = ap (λ t. t ++ more) b.is ∙ simp append_assoc;
}

pub BeginsChunks-append : (text : List ℕ) (pieces : List (List ℕ)) (rest more : List ℕ)
    → BeginsChunks text pieces rest → BeginsChunks (text ++ more) pieces (rest ++ more)
BeginsChunks-append text [] rest more b = BeginsLine-append text 0 (crlf_bytes ++ rest) more b
BeginsChunks-append text (piece ∷ pieces) rest more b =
    (b.0 ++ more, BeginsChunk-append text piece b.0 more b.1, BeginsChunks-append b.0 pieces rest more b.2)

pub ChunksThen-append : (text : List ℕ) (pieces : List (List ℕ)) (rest more : List ℕ)
    → ChunksThen text pieces rest → ChunksThen (text ++ more) pieces (rest ++ more)
ChunksThen-append text [] rest more so = ap (λ t. t ++ more) so
ChunksThen-append text (piece ∷ pieces) rest more so =
    (so.0 ++ more, BeginsChunk-append text piece so.0 more so.1, ChunksThen-append so.0 pieces rest more so.2)

pub BeginsBody-append : (framing : Framing) (text body rest more : List ℕ)
    → BeginsBody framing text body rest → BeginsBody framing (text ++ more) body (rest ++ more)
BeginsBody-append (Length n) text body rest more b = (ap (λ t. t ++ more) b.0 ∙ append_assoc body rest more, b.1)
BeginsBody-append Chunked text body rest more b =
    (b.0, BeginsChunks-append text b.0 rest more b.1, b.2, b.3)

pub BeginsRequest-append : (input : List ℕ) (request : Request) (rest more : List ℕ)
    → BeginsRequest input request rest → BeginsRequest (input ++ more) request (rest ++ more)
BeginsRequest-append input request rest more b = record {
  head = b.head;
  after = b.after ++ more;
  begins = BeginsHead-append input b.head b.after more b.begins;
  framing = b.framing;
  judged = b.judged;
  body = b.body;
  delimited = BeginsBody-append b.framing b.after b.body rest more b.delimited;
  is = b.is;
}

pub Splits-append : (input : List ℕ) (requests : List Request) (rest more : List ℕ)
    → Splits input requests rest → Splits (input ++ more) requests (rest ++ more)
Splits-append input [] rest more s = ap (λ t. t ++ more) s
Splits-append input (request ∷ requests) rest more s =
    (s.0 ++ more, BeginsRequest-append input request s.0 more s.1, Splits-append s.0 requests rest more s.2)

-- ---- an input begins with at most one of each

pub same_split : (a b c d : List ℕ) → a ++ b ≡ c ++ d → length a ≡ length c → (a ≡ c) × (b ≡ d)
same_split [] b [] d e n = (refl, e)
same_split [] b (y ∷ c) d e n = absurd (omega arith)
same_split (x ∷ a) b [] d e n = absurd (omega arith)
same_split (x ∷ a) b (y ∷ c) d e n =
    let tails : a ++ b ≡ c ++ d = cc in
    let heads : x ≡ y = cc in
    let rec = same_split a b c d tails (omega arith) in
    (cc, rec.1)

pub BeginsHead-unique : (input : List ℕ) (head other : Head) (rest left : List ℕ)
    → BeginsHead input head rest → BeginsHead input other left → (head ≡ other) × (rest ≡ left)
BeginsHead-unique input head other rest left b c =
    let same = request_unique input b.lines c.lines rest left b.reads c.reads in
    (b.is ∙ ap head_of same.0 ∙ sym c.is, same.1)

pub BeginsLine-unique : (text : List ℕ) (size other : ℕ) (rest left : List ℕ)
    → BeginsLine text size rest → BeginsLine text other left → (size ≡ other) × (rest ≡ left)
BeginsLine-unique text size other rest left b c =
    let same = chunk_line_unique text b.line c.line rest left b.reads c.reads in
    (b.is ∙ ap chunk_size same.0 ∙ sym c.is, same.1)

pub BeginsChunk-unique : (text piece other rest left : List ℕ)
    → BeginsChunk text piece rest → BeginsChunk text other left → (piece ≡ other) × (rest ≡ left)
BeginsChunk-unique text piece other rest left b c =
    let same = BeginsLine-unique text (length piece) (length other) b.after c.after b.line c.line in
    let texts : piece ++ (crlf_bytes ++ rest) ≡ other ++ (crlf_bytes ++ left) = sym b.is ∙ same.1 ∙ c.is in
    let parts = same_split piece (crlf_bytes ++ rest) other (crlf_bytes ++ left) texts same.0 in
    (parts.0, append_cancel_left crlf_bytes rest left parts.1)

pub BeginsChunks-unique : (text : List ℕ) (pieces others : List (List ℕ)) (rest left : List ℕ)
    → BeginsChunks text pieces rest → BeginsChunks text others left → (pieces ≡ others) × (rest ≡ left)
BeginsChunks-unique text [] [] rest left b c = (
  refl,
  append_cancel_left crlf_bytes rest left
      (BeginsLine-unique text 0 0 (crlf_bytes ++ rest) (crlf_bytes ++ left) b c).1,
)
BeginsChunks-unique text [] (other ∷ others) rest left b c =
    let same = BeginsLine-unique text 0 (length other) (crlf_bytes ++ rest) c.1.after b c.1.line in
    let some : 0 < length other = c.1.some in
    absurd (omega (arith, same.0))
BeginsChunks-unique text (piece ∷ pieces) [] rest left b c =
    let same = BeginsLine-unique text 0 (length piece) (crlf_bytes ++ left) b.1.after c b.1.line in
    let some : 0 < length piece = b.1.some in
    absurd (omega (arith, same.0))
BeginsChunks-unique text (piece ∷ pieces) (other ∷ others) rest left b c =
    let first = BeginsChunk-unique text piece other b.0 c.0 b.1 c.1 in
    let there : BeginsChunks c.0 pieces rest = subst (λ t. BeginsChunks t pieces rest) first.1 b.2 in
    let more = BeginsChunks-unique c.0 pieces others rest left there c.2 in
    (cc (first.0, more.0), more.1)

pub BeginsBody-unique : (framing : Framing) (text body other rest left : List ℕ)
    → BeginsBody framing text body rest → BeginsBody framing text other left → (body ≡ other) × (rest ≡ left)
BeginsBody-unique (Length n) text body other rest left b c =
    same_split body rest other left (sym b.0 ∙ c.0) (b.1 ∙ sym c.1)
BeginsBody-unique Chunked text body other rest left b c =
    let same = BeginsChunks-unique text b.0 c.0 rest left b.1 c.1 in
    (b.2 ∙ ap joined same.0 ∙ sym c.2, same.1)

pub BeginsRequest-unique : (input : List ℕ) (request other : Request) (rest left : List ℕ)
    → BeginsRequest input request rest → BeginsRequest input other left → (request ≡ other) × (rest ≡ left)
BeginsRequest-unique input request other rest left b c =
    let heads = BeginsHead-unique input b.head c.head b.after c.after b.begins c.begins in
    let framings : b.framing ≡ c.framing = ok_inj (sym b.judged ∙ ap judge heads.0 ∙ c.judged) in
    let moved : BeginsBody c.framing c.after b.body rest =
    subst (λ f. BeginsBody f c.after b.body rest) framings
    (subst (λ t. BeginsBody b.framing t b.body rest) heads.1 b.delimited) in
    let bodies = BeginsBody-unique c.framing c.after b.body c.body rest left moved c.delimited in
    (b.is ∙ ap (λ h. request_of h b.body) heads.0 ∙ ap (request_of c.head) bodies.0 ∙ sym c.is, bodies.1)
  where
    ok_inj : {f g : Framing} → ◌≡◌ {A = Result Framing WireFault} (Ok f) (Ok g) → f ≡ g
    ok_inj {f} {g} e = cc

-- ---- the requests of an input stay when more bytes come

pub Splits-prefix : (input : List ℕ) (requests others : List Request) (rest left : List ℕ)
    → Splits input requests rest → Splits input others left → HasNoRequest left
    → (more : List Request) × (others ≡ requests ++ more)
Splits-prefix input [] others rest left s t none = (others, refl)
Splits-prefix input (request ∷ requests) [] rest left s t none =
    absurd (none request s.0 (subst (λ i. BeginsRequest i request s.0) t s.1))
Splits-prefix input (request ∷ requests) (other ∷ others) rest left s t none =
    let first = BeginsRequest-unique input request other s.0 t.0 s.1 t.1 in
    let there : Splits t.0 requests rest = subst (λ i. Splits i requests rest) first.1 s.2 in
    let later = Splits-prefix t.0 requests others rest left there t.2 none in
    (later.0, cc (first.0, later.1))

pub taken_stay : (input more : List ℕ) (ended : Bool) (requests others : List Request) (left : List ℕ) (end : Tail)
    → Splits input requests left → HasRequests (input ++ more) ended others end
    → (later : List Request) × (others ≡ requests ++ later)
taken_stay input more ended requests others left end before after =
    Splits-prefix (input ++ more) requests others (left ++ more) after.rest
    (Splits-append input requests left more before) after.splits after.no_more

pub all_stay : (input more : List ℕ) (ended : Bool) (requests others : List Request) (tail end : Tail)
    → HasRequests input false requests tail → HasRequests (input ++ more) ended others end
    → (later : List Request) × (others ≡ requests ++ later)
all_stay input more ended requests others tail end before after =
    taken_stay input more ended requests others before.rest end before.splits after

-- one more request
pub Splits-snoc : (input : List ℕ) (requests : List Request) (request : Request) (rest left : List ℕ)
    → Splits input requests rest → BeginsRequest rest request left → Splits input (requests ++ request ∷ []) left
Splits-snoc input [] request rest left s b = (left, subst (λ i. BeginsRequest i request left) (sym s) b, refl)
Splits-snoc input (first ∷ requests) request rest left s b =
    (s.0, s.1, Splits-snoc s.0 requests request rest left s.2 b)
