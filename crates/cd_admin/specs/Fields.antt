-- Part of the main theorem.
-- What the fields of a request say to the admin API.
use Rattle.std.specs.Prelude.{ℕ, ◌==◌, ◌&&◌, ◌-◌, Bool, true, false, List, [], ◌∷◌, length, take, drop, codes, nat_eq}
use Rattle.std.specs.Char.{is_ascii_whitespace}
use Rattle.std.specs.List.{list_any, slice_split, prefix_len, suffix_len, before_first, ends_with}
use Rattle.std.specs.Str.{bytes_eq, str_to_ascii_lowercase}
use Rattle.cd_wire.specs.Fields.{is_named}
use Rattle.cd_wire.specs.declared.fields.Field.{Field}

-- without the white space in front
abbrev pub without_first_spaces : List ℕ → List ℕ
without_first_spaces bytes = drop (prefix_len is_ascii_whitespace bytes) bytes

-- and without that at the end
abbrev pub trimmed : List ℕ → List ℕ
trimmed bytes = let rest = without_first_spaces bytes in take (length rest - suffix_len is_ascii_whitespace rest) rest

-- ---- Content-Type (RFC 9110, section 8.3)

abbrev pub is_semicolon : ℕ → Bool
is_semicolon b = b == 59

-- the type without its parameters, in lower case
abbrev pub type_in : List ℕ → List ℕ
type_in value = str_to_ascii_lowercase (trimmed (before_first is_semicolon value))

abbrev pub is_json_type : List ℕ → Bool
is_json_type value = ends_with nat_eq (type_in value) (codes "/json")

abbrev pub is_caddyfile_type : List ℕ → Bool
is_caddyfile_type value = bytes_eq (type_in value) (codes "text/caddyfile")

-- the first value names a type of JSON, or there is none
abbrev pub are_json : List (List ℕ) → Bool
are_json [] = true
are_json (value ∷ more) = is_json_type value

-- the first value names the type of a Caddyfile
abbrev pub are_caddyfile : List (List ℕ) → Bool
are_caddyfile [] = false
are_caddyfile (value ∷ more) = is_caddyfile_type value

-- ---- Cache-Control (RFC 9111, section 5.2)

abbrev pub is_comma : ℕ → Bool
is_comma b = b == 44

abbrev pub is_must_revalidate : List ℕ → Bool
is_must_revalidate member = bytes_eq (str_to_ascii_lowercase (trimmed member)) (codes "must-revalidate")

-- some member of the value is `must-revalidate`, in any case
abbrev pub has_must_revalidate : List ℕ → Bool
has_must_revalidate value = list_any is_must_revalidate (slice_split is_comma value)

-- the field is Cache-Control, and has it
abbrev pub is_revalidating : Field → Bool
is_revalidating field = is_named (codes "cache-control") field && has_must_revalidate field.value

-- some field does
abbrev pub must_revalidate : List Field → Bool
must_revalidate fields = list_any is_revalidating fields
