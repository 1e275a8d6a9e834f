-- What one reading of a head says of every other, and what the front of a text says of the text.
use Rattle.std.proofs.Common.{◌≡◌, ℕ, ◌≤◌, ◌<◌, ◌+◌, ◌-◌, List, [], ◌++◌, length, take, drop, ap, ◌∙◌, sym, subst, arith, append_assoc, length-append}
use Rattle.std.proofs.lemmas.List.{length-map, length-take, take-append-drop, take-append-le, append-nil, append_cancel_right}
use Rattle.httparse.specs.declared.borrowed.Response.{Response}
use Rattle.httparse.specs.Grammar.{ReadsResponse, ResponseHead, print_response}
use Rattle.httparse.specs.Borrowed.{HoldsResponse, header_parts}
use Rattle.httparse.specs.Spans.{name_and_value, ResponseOverflows}
use Rattle.httparse.proofs.GrammarLemmas.{ReadsResponse-append, response_unique}
use Rattle.cd_wire.specs.declared.limits.TheConstants.{MAX_HEAD_BYTES, MAX_HEAD_FIELDS}
use Rattle.cd_wire.proofs.FrontLemmas.{rest_of_front, take_past}
use Rattle.cd_proxy.specs.declared.head.Head.{Head}
use Rattle.cd_proxy.specs.declared.head.HeadRead.{HeadRead}
use Rattle.cd_proxy.specs.declared.head.HeadRead.TheVariants.{Whole, Partial, Hopeless}
use Rattle.cd_proxy.specs.Heads.{BeginsHead, head_of}
use Rattle.cd_proxy.specs.Reading.{IsHeadRead, NeverHasHead}

-- a head of another input, with the same lines
of_lines : {input text rest left : List ℕ} {head : Head} (b : BeginsHead input head rest) → ReadsResponse text b.lines left → BeginsHead text head left
of_lines b reads = record { lines = b.lines; reads = reads; short = b.short; few = b.few; is = b.is }

pub BeginsHead-append : (input : List ℕ) (head : Head) (rest more : List ℕ)
    → BeginsHead input head rest → BeginsHead (input ++ more) head (rest ++ more)
BeginsHead-append input head rest more b = of_lines b (ReadsResponse-append input b.lines rest more b.reads)

pub BeginsHead-unique : (input : List ℕ) (head other : Head) (rest left : List ℕ)
    → BeginsHead input head rest → BeginsHead input other left → (head ≡ other) × (rest ≡ left)
BeginsHead-unique input head other rest left b c =
    let same = response_unique input b.lines c.lines rest left b.reads c.reads in
    (b.is ∙ ap head_of same.0 ∙ sym c.is, same.1)

-- a head that was read and has more fields than a head may have
pub too_many_fields : (bytes : List ℕ) (len : ℕ) (response : Response) (lines : ResponseHead)
    → HoldsResponse bytes len response lines → MAX_HEAD_FIELDS < length response.headers.now → NeverHasHead bytes
too_many_fields bytes len response lines held many more head rest b =
    let same = response_unique (bytes ++ more) b.lines lines rest (drop len bytes ++ more) b.reads
    (ReadsResponse-append bytes lines (drop len bytes) more held.reads) in
    let fields : length response.headers.now ≡ length b.lines.fields =
    sym (length-map response.headers.now header_parts) ∙ ap length held.fields
    ∙ length-map lines.fields name_and_value ∙ ap (λ (h : ResponseHead). length h.fields) (sym same.0) in
    omega (arith, fields, b.few)

-- bytes that begin heads with more fields alone
pub overflows_never : (bytes : List ℕ) (room : ℕ) → room ≡ MAX_HEAD_FIELDS → ResponseOverflows room bytes → NeverHasHead bytes
overflows_never bytes room is over more head rest b = omega (arith, over more b.lines rest b.reads, b.few)

-- a head that was read, within the limits
pub read_head_is : (bytes : List ℕ) (len : ℕ) (response : Response) (lines : ResponseHead) (head : Head)
    → length bytes ≤ MAX_HEAD_BYTES → HoldsResponse bytes len response lines
    → length response.headers.now ≤ MAX_HEAD_FIELDS → head ≡ head_of lines
    → (len ≤ length bytes) × BeginsHead bytes head (drop len bytes)
read_head_is bytes len response lines head short held few is =
    let whole : length bytes ≡ len + length (drop len bytes) =
    ap length held.reads.1 ∙ length-append (print_response lines) (drop len bytes)
    ∙ ap (λ n. n + length (drop len bytes)) (sym held.len_is) in
    let fields : length response.headers.now ≡ length lines.fields =
    sym (length-map response.headers.now header_parts) ∙ ap length held.fields
    ∙ length-map lines.fields name_and_value in (
      omega (arith, whole),
      record {
        lines = lines;
        reads = held.reads;
        short = omega (arith, whole, held.len_is);
        few = omega (arith, fields);
        is = is;
      },
    )

-- ---- a head without what follows it

pub head_alone : (text : List ℕ) (head : Head) (len : ℕ) → BeginsHead text head (drop len text) → BeginsHead (take len text) head []
head_alone text head len b = of_lines b (
  b.reads.0,
  append_cancel_right (take len text) (print_response b.lines) (drop len text) (take-append-drop len text ∙ b.reads.1)
      ∙ sym (append-nil (print_response b.lines)),
)

-- ---- the front of a text

-- a head of the text is one of its front
front_has_head : (text : List ℕ) (head : Head) (rest : List ℕ) → BeginsHead text head rest
    → (r : List ℕ) × BeginsHead (take MAX_HEAD_BYTES text) head r
front_has_head text head rest b =
    let lines = print_response b.lines in
    (take (MAX_HEAD_BYTES - length lines) rest, of_lines b (b.reads.0, ap (take MAX_HEAD_BYTES) b.reads.1 ∙ take_past lines rest MAX_HEAD_BYTES b.short))

-- what is read of the front is so of the text
of_front : (text : List ℕ) (read : HeadRead) → IsHeadRead (take MAX_HEAD_BYTES text) read → IsHeadRead text read
of_front text (Whole head len) (within, b) =
    let short : length (take MAX_HEAD_BYTES text) ≤ length text = omega (arith, length-take MAX_HEAD_BYTES text) in (
      omega (arith, within, short),
      subst (λ t. BeginsHead t head (drop len text)) (take-append-drop MAX_HEAD_BYTES text)
          (subst (λ r. BeginsHead (take MAX_HEAD_BYTES text ++ drop MAX_HEAD_BYTES text) head r) (rest_of_front text MAX_HEAD_BYTES len within)
          (BeginsHead-append (take MAX_HEAD_BYTES text) head (drop len (take MAX_HEAD_BYTES text)) (drop MAX_HEAD_BYTES text) b)),
    )
of_front text Partial none = λ head rest b. let f = front_has_head text head rest b in none head f.0 f.1
of_front text Hopeless never = λ more head rest b.
    never (drop MAX_HEAD_BYTES text ++ more) head rest
    (subst (λ t. BeginsHead t head rest)
    (ap (λ t. t ++ more) (sym (take-append-drop MAX_HEAD_BYTES text)) ∙ append_assoc (take MAX_HEAD_BYTES text) (drop MAX_HEAD_BYTES text) more) b)

pub front_read : (text front : List ℕ) (read : HeadRead) → front ≡ take MAX_HEAD_BYTES text → IsHeadRead front read → IsHeadRead text read
front_read text front read same r = of_front text read (subst (λ (t : List ℕ). IsHeadRead t read) same r)

-- a text that fills its front has no head ever, where the front has none
pub full_read : (text front : List ℕ) (found : HeadRead) → MAX_HEAD_BYTES ≤ length text → front ≡ take MAX_HEAD_BYTES text → found ≡ Partial → IsHeadRead front found → NeverHasHead text
full_read text front found full same is r = λ more head rest b.
    let none = subst (λ (t : List ℕ). IsHeadRead t Partial) same (subst (λ (h : HeadRead). IsHeadRead front h) is r) in
    let f = front_has_head (text ++ more) head rest b in
    none head f.0 (subst (λ t. BeginsHead t head f.0) (take-append-le MAX_HEAD_BYTES text more full) f.1)
