-- Part of the main theorem.
-- A path and a query as one text.
use Rattle.std.specs.Prelude.{ℕ, ◌==◌, ◌||◌, Bool, if◌then◌else◌, List, [], ◌∷◌, ◌++◌, Option, Some, None, codes}
use Rattle.std.specs.Char.{is_ascii_alphanumeric}
use Rattle.std.specs.List.{flat_map, list_any}
use Rattle.percent_encoding.specs.Percent.{percent_encode_byte}

-- a letter, a digit, or a mark that a path has as it is (RFC 3986, section 3.3)
abbrev pub is_path_byte : ℕ → Bool
is_path_byte b = is_ascii_alphanumeric b || list_any (λ mark. mark == b) (codes "-._~!$&'()*+,;=:@/")

-- any other byte is written as `%` and two upper-case hexadecimal digits
abbrev pub escaped_byte : ℕ → List ℕ
escaped_byte b = if is_path_byte b then b ∷ [] else percent_encode_byte b

-- a path
unfoldable pub path_text : List ℕ → List ℕ
path_text path = flat_map escaped_byte path

-- and the query as it is behind a `?`, where there is one
unfoldable pub uri_text : List ℕ → Option (List ℕ) → List ℕ
uri_text path None = path_text path
uri_text path (Some query) = path_text path ++ 63 ∷ query
