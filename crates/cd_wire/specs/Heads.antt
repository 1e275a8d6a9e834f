-- Part of the main theorem.
-- When an input begins with the head of a request, and what is kept of it (RFC 9112, sections 2 to 5). The grammar is that of
-- `httparse`, which also takes a line that ends in LF alone, and empty lines before the first: these belong to the head.
use Rattle.std.specs.Prelude.{◌≡◌, ℕ, ◌+◌, ◌≤◌, List, ◌++◌, length, map, take}
use Rattle.std.specs.Char.{to_ascii_lowercase}
use Rattle.httparse.specs.Grammar.{RequestHead, print_request, ReadsRequest, MayBecomeRequest}
use Rattle.httparse.specs.declared.spans.HeaderSpan.{HeaderSpan}
use Rattle.httparse.specs.declared.spans.RequestSpans.{RequestSpans}
use Rattle.httparse.specs.Spans.{name_and_value, span_bytes, header_bytes}
use Rattle.cd_wire.specs.declared.limits.TheConstants.{MAX_HEAD_BYTES, MAX_HEAD_FIELDS}
use Rattle.cd_wire.specs.declared.fields.Field.{Field}
use Rattle.cd_wire.specs.declared.head.Head.{Head}

-- a name and a value as a field: the name in lower case
abbrev pub field_of : List ℕ × List ℕ → Field
field_of part = record { name = map to_ascii_lowercase part.0; value = part.1 }

-- what is kept of a head: each field's value without the white space around it
abbrev pub head_of : RequestHead → Head
head_of lines = record {
  method = lines.method;
  target = lines.target;
  minor = lines.minor;
  fields = map field_of (map name_and_value lines.fields);
}

-- the head whose parts the spans cover
abbrev pub head_at : List ℕ → List HeaderSpan → RequestSpans → Head
head_at bytes headers spans = record {
  method = span_bytes bytes spans.method;
  target = span_bytes bytes spans.path;
  minor = spans.version;
  fields = map field_of (map (header_bytes bytes) (take spans.headers headers));
}

-- the input begins with the lines of this head, within the limits, and then comes this rest
pub record BeginsHead (input : List ℕ) (head : Head) (rest : List ℕ) : Type 0 where
  pub lines : RequestHead
  pub reads : ReadsRequest input lines rest
  pub short : length (print_request lines) ≤ MAX_HEAD_BYTES
  pub few : length lines.fields ≤ MAX_HEAD_FIELDS
  pub is : head ≡ head_of lines

-- the input begins with no head
abbrev pub HasNoHead : List ℕ → Type 0
HasNoHead input = (head : Head) (rest : List ℕ) → ¬ (BeginsHead input head rest)

-- no input that begins so begins with a head
abbrev pub NeverHasHead : List ℕ → Type 0
NeverHasHead input = (more : List ℕ) → HasNoHead (input ++ more)

-- half of the input, or more of it, may still become the lines of a head. What stands in a target that has not ended may, too
pub record MayBecomeHead (input : List ℕ) : Type 0 where
  pub count : ℕ
  pub half : length input ≤ count + count
  pub may : MayBecomeRequest (take count input)
