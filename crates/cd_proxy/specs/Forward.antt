-- The bytes that an upstream is sent for a request (RFC 9110, section 7.6; RFC 9112, section 3).
use Rattle.std.specs.Prelude.{ℕ, Bool, ◌&&◌, ◌||◌, not, List, [], ◌∷◌, ◌++◌, length, codes, filter, decimal, ◌==◌, if◌then◌else◌, Option, Some, None, true}
use Rattle.std.specs.List.{flat_map}
use Rattle.std.specs.Str.{bytes_eq}
use Rattle.httparse.specs.Ascii.{crlf_bytes}
use Rattle.cd_outside.specs.declared.address.Address.{Address}
use Rattle.cd_wire.specs.declared.fields.Field.{Field}
use Rattle.cd_wire.specs.declared.request.Request.{Request}
use Rattle.cd_wire.specs.Fields.{is_named, values}
use Rattle.cd_wire.specs.Render.{field_line, by_name, close_line}
use Rattle.cd_addr.specs.Addresses.{written}
use Rattle.cd_proxy.specs.Removed.{passed_on}

-- a field that the proxy writes itself, in place of what came
abbrev pub is_own : Field → Bool
is_own field = is_named (codes "x-forwarded-host") field || is_named (codes "x-forwarded-proto") field

-- what is left of the fields of a request
abbrev pub kept : List Field → List Field
kept fields = filter (λ field. not (is_own field)) (passed_on fields)

-- the first, if there is one
abbrev pub first_of : List (List ℕ) → Option (List ℕ)
first_of [] = None
first_of (value ∷ more) = Some value

-- says which host was asked for; where no Host is left, the upstream's address is sent as Host (RFC 9110, section 7.2)
abbrev pub host_field : Option (List ℕ) → Address → Field
host_field None to = record { name = codes "host"; value = written to }
host_field (Some host) to = record { name = codes "x-forwarded-host"; value = host }

abbrev pub proto_field : Field
proto_field = record { name = codes "x-forwarded-proto"; value = codes "http" }

-- the request is sent without a length: it has no body, and its method expects none (RFC 9110, section 8.6)
abbrev pub is_bare : Request → Bool
is_bare request =
    (length request.body == 0) && (bytes_eq request.method (codes "GET") || bytes_eq request.method (codes "HEAD"))

-- the length of the body
abbrev pub length_fields : Request → List Field
length_fields request =
    if is_bare request then [] else record { name = codes "content-length"; value = decimal (length request.body) } ∷ []

-- the fields that are sent, in any order
abbrev pub sent_fields : Request → Address → List Field
sent_fields request to =
    kept request.fields ++ host_field (first_of (values (codes "host") (kept request.fields))) to ∷ [] ++ proto_field ∷ [] ++ length_fields request

-- the request line, with the target as it came
unfoldable pub request_line : Request → List ℕ
request_line request = request.method ++ codes " " ++ request.target ++ codes " HTTP/1.1" ++ crlf_bytes

-- all of it; the connection to the upstream serves one exchange
unfoldable pub forward : Request → Address → List ℕ
forward request to =
    request_line request
    ++ flat_map field_line (by_name (sent_fields request to))
    ++ close_line true ++ crlf_bytes
    ++ request.body
