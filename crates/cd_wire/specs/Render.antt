-- Part of the main theorem.
-- The bytes of an answer (RFC 9112, sections 4 to 6).
use Rattle.std.specs.Prelude.{◌≡◌, ℕ, ◌⊎◌, Bool, true, false, ◌&&◌, ◌||◌, not, List, [], ◌∷◌, ◌++◌, length, codes, ◌==◌, nat_lt, nat_le, if◌then◌else◌, unwrap_or, map, filter, decimal}
use Rattle.std.specs.List.{flat_map}
use Rattle.std.specs.Char.{to_ascii_uppercase}
use Rattle.std.specs.Str.{bytes_eq, str_to_ascii_lowercase}
use Rattle.httparse.specs.Ascii.{tab, space, del, crlf_bytes}
use Rattle.http.specs.StatusCode.{reason_phrase}
use Rattle.cd_text.specs.ByKey.{by_key}
use Rattle.cd_wire.specs.declared.fields.Field.{Field}
use Rattle.cd_wire.specs.declared.answer.Answer.{Answer}
use Rattle.cd_wire.specs.declared.request.Request.{Request}

-- the field has that name, which is in lower case: names of fields are case-insensitive (RFC 9110, section 5.1)
abbrev pub has_name : List ℕ → Field → Bool
has_name name field = bytes_eq (str_to_ascii_lowercase field.name) name

-- the field is sent as it is given: it is none of those that frame an answer
abbrev pub is_sent : Field → Bool
is_sent field =
    not (has_name (codes "content-length") field)
    && not (has_name (codes "connection") field)
    && not (has_name (codes "transfer-encoding") field)

-- the fields by rising name, and equal names in their order: what that says is the law `fields_go_by_name`
abbrev pub by_name : List Field → List Field
by_name fields = by_key (λ field. field.name) fields

-- a letter that begins the name or follows `-` in upper case; any other byte there stays
abbrev pub titled : Bool → List ℕ → List ℕ
titled begins [] = []
titled begins (byte ∷ bytes) = (if begins then to_ascii_uppercase byte else byte) ∷ titled (byte == 45) bytes

-- a control byte other than the tab is sent as a space (RFC 9110, section 5.5)
abbrev pub clean_byte : ℕ → ℕ
clean_byte byte = if (nat_lt byte space && not (byte == tab)) || byte == del then space else byte

-- the line of a field: the first letter and each letter behind `-` in upper case
unfoldable pub field_line : Field → List ℕ
field_line field = titled true field.name ++ codes ": " ++ map clean_byte field.value ++ crlf_bytes

-- an answer with this status has a length and may have a body (RFC 9110, sections 15.3.5 and 15.4.5)
abbrev pub has_body : ℕ → Bool
has_body status = not (status == 204) && not (status == 304)

-- the request is HEAD, whose answer has no body (RFC 9110, section 9.3.2)
abbrev pub is_head : Request → Bool
is_head request = bytes_eq request.method (codes "HEAD")

-- the reason phrase of a status, or nothing where it has none
unfoldable pub phrase_of : ℕ → List ℕ
phrase_of status = unwrap_or (reason_phrase status) []

-- the same of any number: what is no status has none
unfoldable pub reason_of : ℕ → List ℕ
reason_of status = if nat_le 100 status && nat_lt status 1000 then phrase_of status else []

-- the first line (RFC 9112, section 4)
unfoldable pub status_line : ℕ → List ℕ
status_line status =
    codes "HTTP/1.1 " ++ decimal status ++ codes " " ++ reason_of status ++ crlf_bytes

-- the length of the body, of a status that has one
unfoldable pub length_line : Answer → List ℕ
length_line answer =
    if has_body answer.status then codes "Content-Length: " ++ decimal (length answer.body) ++ crlf_bytes else []

-- where the connection ends after the answer, it says so
unfoldable pub close_line : Bool → List ℕ
close_line close = if close then codes "Connection: close" ++ crlf_bytes else []

-- the bytes of an answer: `head` says that the request was HEAD, and `close` that it wants the connection closed
unfoldable pub render : Answer → Bool → Bool → List ℕ
render answer head close =
    status_line answer.status
    ++ flat_map field_line (by_name (filter is_sent answer.fields))
    ++ length_line answer
    ++ close_line (answer.close || close)
    ++ crlf_bytes
    ++ (if not head && has_body answer.status then answer.body else [])

-- the statuses of the fixed answers
abbrev pub IsRefusal : ℕ → Type 0
IsRefusal status = (status ≡ 400) ⊎ (status ≡ 413) ⊎ (status ≡ 501) ⊎ (status ≡ 503)

-- a fixed answer: no fields and no body, and the connection ends
unfoldable pub refusal_bytes : ℕ → List ℕ
refusal_bytes status = render (record { status = status; fields = []; body = []; close = true }) false true
