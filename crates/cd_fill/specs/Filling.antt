-- Part of the main theorem.
-- Texts with their placeholders replaced. A placeholder is `{`, a name without braces, and `}`; there is no escape.
-- What is written and what is filled in are treated by the form that the text is filled for.
use Rattle.std.specs.Prelude.{ℕ, ◌==◌, ◌||◌, Bool, List, [], ◌∷◌, ◌++◌, length, codes, nat_lt, if◌then◌else◌, option_map, unwrap_or, Result, Ok, Err}
use Rattle.std.specs.List.{slice_split, before_last, after_last, list_any}
use Rattle.std.specs.Str.{bytes_eq}
use Rattle.percent_encoding.specs.Percent.{percent_decode}
use Rattle.form_urlencoded.specs.Form.{byte_serialize}
use Rattle.cd_fill.specs.declared.form.Form.{Form}
use Rattle.cd_fill.specs.declared.form.Form.TheVariants.{Plain, Path, Query}
use Rattle.cd_fill.specs.declared.scene.Scene.{Scene}
use Rattle.cd_fill.specs.declared.limits.TheConstants.{MAX_FILLED_BYTES}
use Rattle.cd_fill.specs.declared.fault.FillFault.{FillFault}
use Rattle.cd_fill.specs.declared.fault.FillFault.TheVariants.{TooLong}
use Rattle.cd_fill.specs.Values.{value}

-- `{`
abbrev pub open_brace : ℕ → Bool
open_brace byte = byte == 123

-- `}`
abbrev pub close_brace : ℕ → Bool
close_brace byte = byte == 125

-- either of them
abbrev pub is_brace : ℕ → Bool
is_brace byte = open_brace byte || close_brace byte

-- `{NAME}`
abbrev pub braced : List ℕ → List ℕ
braced name = 123 ∷ (name ++ 125 ∷ [])

-- what stands in place of what is written between placeholders: in a path escapes are read, and any other `%` stays
unfoldable pub written : Form → List ℕ → List ℕ
written Plain text = text
written Path text = percent_decode text
written Query text = text

-- what stands in place of `{NAME}` where it is replaced as it is: an unknown one stays as written
unfoldable pub placeholder : Scene → List ℕ → List ℕ
placeholder x name = unwrap_or (value x name) (braced name)

-- what stands in place of `{NAME}` where it is encoded as in a form (URL Standard, section 5.2): an unknown one stays as written
unfoldable pub encoded_placeholder : Scene → List ℕ → List ℕ
encoded_placeholder x name = unwrap_or (option_map byte_serialize (value x name)) (braced name)

-- what stands in place of `{NAME}`: in a query it is encoded, but that of the request's query, which is so already
unfoldable pub named : Form → Scene → List ℕ → List ℕ
named Plain x name = placeholder x name
named Path x name = placeholder x name
named Query x name =
    if bytes_eq name (codes "http.request.uri.query") then placeholder x name else encoded_placeholder x name

-- a piece of text that a `}` follows: what stands behind its last `{` is the name, and without a `{` the `}` stays
unfoldable pub closed_piece : Form → Scene → List ℕ → List ℕ
closed_piece form x piece =
    if list_any open_brace piece
    then written form (before_last open_brace piece) ++ named form x (after_last open_brace piece)
    else written form (piece ++ 125 ∷ [])

-- the pieces between the `}`; no `}` follows the last one
unfoldable pub pieces_filled : Form → Scene → List (List ℕ) → List ℕ
pieces_filled form x [] = []
pieces_filled form x (piece ∷ []) = written form piece
pieces_filled form x (piece ∷ (next ∷ pieces)) = closed_piece form x piece ++ pieces_filled form x (next ∷ pieces)

-- the text with its placeholders replaced, in a form
unfoldable pub filled_as : Form → Scene → List ℕ → List ℕ
filled_as form x text = pieces_filled form x (slice_split close_brace text)

-- bytes that were filled, but no more than so many
abbrev pub bounded : List ℕ → Result (List ℕ) FillFault
bounded bytes = if nat_lt MAX_FILLED_BYTES (length bytes) then Err TooLong else Ok bytes

-- the text with its placeholders replaced, but no more than so many bytes, in a form
abbrev pub fill_as : Form → Scene → List ℕ → Result (List ℕ) FillFault
fill_as form x text = bounded (filled_as form x text)

-- both of a text by itself
abbrev pub filled : Scene → List ℕ → List ℕ
filled x text = filled_as Plain x text

abbrev pub fill : Scene → List ℕ → Result (List ℕ) FillFault
fill x text = fill_as Plain x text
