-- What one reading of a head says of every other.
use Rattle.std.proofs.Common.{◌≡◌, ℕ, ◌≤◌, ◌+◌, List, [], ◌++◌, length, take, drop, refl, ap, ◌∙◌, sym, arith, length-append}
use Rattle.std.proofs.lemmas.List.{length-map, length-take}
use Rattle.httparse.specs.declared.spans.HeaderSpan.{HeaderSpan}
use Rattle.httparse.specs.declared.spans.RequestSpans.{RequestSpans}
use Rattle.httparse.specs.Grammar.{RequestHead, print_request}
use Rattle.httparse.specs.Spans.{name_and_value, header_bytes, IsRequestAt, RequestOverflows}
use Rattle.cd_wire.specs.declared.head.Head.{Head}
use Rattle.cd_wire.specs.declared.limits.TheConstants.{MAX_HEAD_BYTES, MAX_HEAD_FIELDS}
use Rattle.cd_wire.specs.Heads.{BeginsHead, HasNoHead, NeverHasHead, head_of, head_at}
use Rattle.cd_wire.proofs.RequestLaws.{BeginsHead-append}

-- what never begins a head doesn't begin one now
pub never_now : (bytes : List ℕ) → NeverHasHead bytes → HasNoHead bytes
never_now bytes never head rest b = never [] head (rest ++ []) (BeginsHead-append bytes head rest [] b)

-- bytes that begin heads with more fields alone
pub overflows_never : (bytes : List ℕ) (room : ℕ) → room ≡ MAX_HEAD_FIELDS → RequestOverflows room bytes → NeverHasHead bytes
overflows_never bytes room is over more head rest b = omega (arith, over more b.lines rest b.reads, b.few)

-- the parts that spans cover are those of the lines
head_at_is : (bytes : List ℕ) (headers : List HeaderSpan) (spans : RequestSpans) (lines : RequestHead)
    → IsRequestAt bytes headers spans lines → head_at bytes headers spans ≡ head_of lines
head_at_is bytes headers spans lines at = rw (at.method, at.path, at.version, at.fields) refl

-- a head that was read, within the limits
pub read_head_is : (bytes : List ℕ) (headers : List HeaderSpan) (spans : RequestSpans) (lines : RequestHead) (head : Head)
    → length bytes ≤ MAX_HEAD_BYTES → length headers ≤ MAX_HEAD_FIELDS → IsRequestAt bytes headers spans lines
    → head ≡ head_at bytes headers spans
    → (spans.len ≤ length bytes) × BeginsHead bytes head (drop spans.len bytes)
read_head_is bytes headers spans lines head short few at is =
    let whole : length bytes ≡ spans.len + length (drop spans.len bytes) =
    ap length at.reads.1 ∙ length-append (print_request lines) (drop spans.len bytes)
    ∙ ap (λ n. n + length (drop spans.len bytes)) (sym at.len) in
    let fields : length (take spans.headers headers) ≡ length lines.fields =
    sym (length-map (take spans.headers headers) (header_bytes bytes)) ∙ ap length at.fields
    ∙ length-map lines.fields name_and_value in (
      omega (arith, whole),
      record {
        lines = lines;
        reads = at.reads;
        short = omega (arith, whole, at.len);
        few = omega (arith, fields, length-take spans.headers headers);
        is = is ∙ head_at_is bytes headers spans lines at;
      },
    )
