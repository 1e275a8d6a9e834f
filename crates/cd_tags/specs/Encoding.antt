-- Part of the main theorem.
-- How the parts of a path are written in a tag.
use Rattle.std.specs.Prelude.{ℕ, ◌==◌, ◌||◌, Bool, if◌then◌else◌, List, [], ◌∷◌, ◌++◌, map, codes}
use Rattle.std.specs.Char.{is_ascii_alphanumeric}
use Rattle.std.specs.List.{flat_map, join_with_byte}
use Rattle.percent_encoding.specs.Percent.{percent_encode_byte}
use Rattle.cd_tree.specs.declared.path.Path.{Path}

-- `~`, `_`, `.`, `-`, a letter or a digit
abbrev pub is_unreserved : ℕ → Bool
is_unreserved b = (b == 126) || ((b == 95) || ((b == 46) || ((b == 45) || is_ascii_alphanumeric b)))

-- any other byte is written as `%` and two upper-case hexadecimal digits
abbrev pub encoded_byte : ℕ → List ℕ
encoded_byte b = if is_unreserved b then b ∷ [] else percent_encode_byte b

-- one part
unfoldable pub encoded : List ℕ → List ℕ
encoded part = flat_map encoded_byte part

-- the parts, joined by `/`
abbrev pub encoded_parts : List (List ℕ) → List ℕ
encoded_parts parts = join_with_byte 47 (map encoded parts)

-- the form of a tag: `"/config/`, the written path, a space, the digits, `"`
abbrev pub framed : List ℕ → List ℕ → List ℕ
framed path hex = codes "\"/config/" ++ (path ++ 32 ∷ (hex ++ 34 ∷ []))

-- the tag of a path with these digits
unfoldable pub tag_text : Path → List ℕ → List ℕ
tag_text path hex = framed (encoded_parts path.parts) hex
