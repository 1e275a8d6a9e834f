-- Part of the main theorem.
-- What the names of placeholders stand for (Caddy, Conventions, Placeholders). An unknown name stands for nothing at all, an
-- absent query, field or variable for the empty text.
use Rattle.std.specs.Prelude.{ℕ, ◌==◌, Bool, List, [], map, filter, fold, drop, length, codes, decimal, if◌then◌else◌, Option, Some, None, unwrap_or, nat_eq}
use Rattle.std.specs.List.{starts_with, before_first, join_with_byte}
use Rattle.std.specs.Str.{bytes_eq, str_eq_ignore_ascii_case}
use Rattle.std.specs.Str.Lossy.{utf8_lossy}
use Rattle.form_urlencoded.specs.Form.{raw_pairs, decode}
use Rattle.cd_wire.specs.declared.fields.Field.{Field}
use Rattle.cd_wire.specs.Render.{reason_of}
use Rattle.cd_fill.specs.declared.scene.Scene.{Scene}
use Rattle.cd_fill.specs.Scene.{original_line}
use Rattle.cd_fill.specs.declared.failure.Failure.{Failure}
use Rattle.cd_fill.specs.declared.variable.Variable.{Variable}

-- the name begins with this
abbrev pub begins : List ℕ → List ℕ → Bool
begins name front = starts_with nat_eq name front

-- what stands behind it
abbrev pub behind : List ℕ → List ℕ → List ℕ
behind name front = drop (length front) name

-- the values with a comma between each two
unfoldable pub with_commas : List (List ℕ) → List ℕ
with_commas values = join_with_byte 44 values

-- the host without its port: what stands between `[` and `]` where it begins with `[`, else what stands before the first `:`
unfoldable pub bare_host : List ℕ → List ℕ
bare_host host =
    if begins host (codes "[") then before_first (λ byte. byte == 93) (drop 1 host)
    else before_first (λ byte. byte == 58) host

-- the version of the protocol
abbrev pub proto : ℕ → List ℕ
proto minor = if minor == 0 then codes "HTTP/1.0" else codes "HTTP/1.1"

-- a name or a value of a query, as forms encode them; what is no UTF-8 is replaced (URL Standard, section 5.1)
abbrev pub decoded : List ℕ → List ℕ
decoded bytes = utf8_lossy (decode bytes)

-- the decoded values of that key of a query, in their order
unfoldable pub query_values : List ℕ → List ℕ → List (List ℕ)
query_values key query =
    map (λ pair. decoded pair.1) (filter (λ pair. bytes_eq (decoded pair.0) key) (raw_pairs query))

-- the values of the fields of that name, in any case, in their order
unfoldable pub header_values : List ℕ → List Field → List (List ℕ)
header_values name fields =
    map (λ field. field.value) (filter (λ field. str_eq_ignore_ascii_case field.name name) fields)

-- the value of the last variable of that name, and nothing where there is none
unfoldable pub value_of_variable : List Variable → List ℕ → List ℕ
value_of_variable variables name =
    fold (λ found variable. if bytes_eq variable.name name then variable.value else found) [] variables

-- `http.request.NAME` of what the scene has as it is
unfoldable pub kept_value : Scene → List ℕ → Option (List ℕ)
kept_value x name =
    if bytes_eq name (codes "method") then Some x.current.method
    else if bytes_eq name (codes "orig_method") then Some (original_line x).method
    else if bytes_eq name (codes "host") then Some (bare_host x.host)
    else if bytes_eq name (codes "hostport") then Some x.host
    else if bytes_eq name (codes "proto") then Some (proto x.minor)
    else if bytes_eq name (codes "scheme") then Some (codes "http")
    else if bytes_eq name (codes "uri") then Some x.current.uri
    else if bytes_eq name (codes "uri.path") then Some x.current.path
    else if bytes_eq name (codes "uri.query") then Some (unwrap_or x.current.query [])
    else if bytes_eq name (codes "orig_uri") then Some (original_line x).uri
    else if bytes_eq name (codes "orig_uri.path") then Some (original_line x).path
    else if bytes_eq name (codes "orig_uri.query") then Some (unwrap_or (original_line x).query [])
    else None

-- `http.request.NAME`
unfoldable pub request_value : Scene → List ℕ → Option (List ℕ)
request_value x name =
    if begins name (codes "uri.query.")
    then Some (with_commas (query_values (behind name (codes "uri.query.")) (unwrap_or x.current.query [])))
    else if begins name (codes "header.")
    then Some (with_commas (header_values (behind name (codes "header.")) x.fields))
    else kept_value x name

-- `http.error.NAME` of an error
unfoldable pub error_value : Failure → List ℕ → Option (List ℕ)
error_value error name =
    if bytes_eq name (codes "status_code") then Some (decimal error.status)
    else if bytes_eq name (codes "status_text") then Some (reason_of error.status)
    else if bytes_eq name (codes "message") then Some error.message
    else None

-- `http.error.NAME`, which is unknown where there is no error
unfoldable pub error_named : Option Failure → List ℕ → Option (List ℕ)
error_named None name = None
error_named (Some error) name = error_value error name

-- what a name stands for, or None where it is unknown
unfoldable pub value : Scene → List ℕ → Option (List ℕ)
value x name =
    if begins name (codes "http.request.") then request_value x (behind name (codes "http.request."))
    else if begins name (codes "http.vars.")
    then Some (value_of_variable x.variables (behind name (codes "http.vars.")))
    else if begins name (codes "http.error.") then error_named x.error (behind name (codes "http.error."))
    else None
