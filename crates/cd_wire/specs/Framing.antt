-- Part of the main theorem.
-- What a head says of its request: why it is refused, how its body is delimited, and what the request is.
use Rattle.std.specs.Prelude.{ℕ, Bool, false, ◌&&◌, ◌||◌, not, List, [], ◌∷◌, length, codes, ◌==◌, nat_lt, nat_le, if◌then◌else◌, Result, Ok, Err}
use Rattle.std.specs.List.{list_all, list_any, slice_split}
use Rattle.std.specs.Char.{is_ascii_graphic, is_ascii_digit}
use Rattle.std.specs.Str.{bytes_eq, str_to_ascii_lowercase}
use Rattle.std.specs.Str.Parse.{digits_value}
use Rattle.httparse.specs.Grammar.{trim_ows}
use Rattle.percent_encoding.specs.Percent.{percent_decode}
use Rattle.cd_wire.specs.declared.limits.TheConstants.{MAX_BODY_BYTES}
use Rattle.cd_wire.specs.declared.fields.Field.{Field}
use Rattle.cd_wire.specs.declared.head.Head.{Head}
use Rattle.cd_wire.specs.declared.request.Request.{Request}
use Rattle.cd_wire.specs.declared.fault.WireFault.{WireFault}
use Rattle.cd_wire.specs.declared.fault.WireFault.TheVariants.{BadTarget, BadHost, BadLength, BodyTooLong, UnknownCoding}
use Rattle.cd_wire.specs.declared.framing.Framing.{Framing}
use Rattle.cd_wire.specs.declared.framing.Framing.TheVariants.{Length, Chunked}
use Rattle.cd_wire.specs.Fields.{is_named, values}
use Rattle.cd_wire.specs.Targets.{has_scheme, authority_of, raw_path, query_of, is_target}

-- ---- the tests, in their order

-- exactly one Host in HTTP/1.1, at most one in HTTP/1.0, of visible bytes (RFC 9112, section 3.2; RFC 9110, section 7.2)
abbrev pub is_host : ℕ → List (List ℕ) → Bool
is_host minor [] = minor == 0
is_host minor (value ∷ []) = list_all is_ascii_graphic value
is_host minor (value ∷ other ∷ more) = false

-- one or more digits (RFC 9110, section 8.6)
abbrev pub is_length : List ℕ → Bool
is_length value = nat_lt 0 (length value) && list_all is_ascii_digit value

-- a body of so many bytes, where they are not too many
abbrev pub sized : ℕ → Result Framing WireFault
sized size = if nat_le size MAX_BODY_BYTES then Ok (Length size) else Err BodyTooLong

-- by the values of Content-Length alone: none is a body of none (RFC 9112, section 6.3)
abbrev pub framing_by_length : List (List ℕ) → Result Framing WireFault
framing_by_length [] = Ok (Length 0)
framing_by_length (value ∷ []) = if is_length value then sized (digits_value 10 value) else Err BadLength
framing_by_length (value ∷ other ∷ more) = Err BadLength

-- the coding is `chunked`, in any case (RFC 9112, section 7)
abbrev pub is_chunked : List ℕ → Bool
is_chunked coding = bytes_eq (str_to_ascii_lowercase coding) (codes "chunked")

-- by the values of Transfer-Encoding alone: one field that has the one coding `chunked`, since no other is known (RFC 9112,
-- section 6.1)
abbrev pub framing_by_codings : List ℕ → List (List ℕ) → Result Framing WireFault
framing_by_codings coding [] = if is_chunked coding then Ok Chunked else Err UnknownCoding
framing_by_codings coding (other ∷ more) = Err UnknownCoding

-- by the values of Transfer-Encoding and Content-Length: never by both, and no coding in HTTP/1.0 (RFC 9112, sections 6.1 and
-- 6.3)
abbrev pub framing_by : ℕ → List (List ℕ) → List (List ℕ) → Result Framing WireFault
framing_by minor [] lengths = framing_by_length lengths
framing_by minor (coding ∷ codings) (length ∷ lengths) = Err BadLength
framing_by minor (coding ∷ codings) [] = if minor == 0 then Err BadLength else framing_by_codings coding codings

-- the first fault of the head, or how its body is delimited
unfoldable pub judge : Head → Result Framing WireFault
judge head =
    if not (is_target head.method head.target) then Err BadTarget else (
    if not (is_host head.minor (values (codes "host") head.fields)) then Err BadHost else
    framing_by head.minor (values (codes "transfer-encoding") head.fields) (values (codes "content-length") head.fields))

-- ---- the request

-- `,`
abbrev pub is_comma : ℕ → Bool
is_comma byte = byte == 44

-- the member of a list, without the white space around it, is `close` in any case (RFC 9110, section 5.6.1)
abbrev pub is_close : List ℕ → Bool
is_close member = bytes_eq (str_to_ascii_lowercase (trim_ows member)) (codes "close")

-- the field is Connection, and one of its members is `close` (RFC 9112, section 9.6)
abbrev pub is_closing : Field → Bool
is_closing field = is_named (codes "connection") field && list_any is_close (slice_split is_comma field.value)

-- the first value, and nothing where there is none
abbrev pub first_or_empty : List (List ℕ) → List ℕ
first_or_empty [] = []
first_or_empty (value ∷ more) = value

-- the host that is asked for: the authority of an absolute target, else the value of Host (RFC 9112, section 3.3)
abbrev pub host_of : Head → List ℕ
host_of head =
    if has_scheme head.target then authority_of head.target
    else first_or_empty (values (codes "host") head.fields)

-- the request that a head and a body are
unfoldable pub request_of : Head → List ℕ → Request
request_of head body = record {
  method = head.method;
  target = head.target;
  path = percent_decode (raw_path head.target);
  query = query_of head.target;
  host = host_of head;
  minor = head.minor;
  fields = head.fields;
  body = body;
  close = head.minor == 0 || list_any is_closing head.fields;
}
