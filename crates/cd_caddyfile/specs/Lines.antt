-- Part of the main theorem.
-- The lines of a file, and what each does: a bare `{` at its end opens a block, and a bare `}` alone closes one.
use Rattle.std.specs.Prelude.{ℕ, ◌-◌, ◌==◌, ◌&&◌, ◌||◌, not, Bool, true, false, if◌then◌else◌, List, [], ◌∷◌, ◌++◌, length, map, take, codes, nat_eq}
use Rattle.std.specs.List.{list_any, slice_split, ends_with}
use Rattle.std.specs.Str.{bytes_eq, is_utf8}
use Rattle.cd_caddyfile.specs.Words.{words}
use Rattle.cd_caddyfile.specs.declared.line.Line.{Line}
use Rattle.cd_caddyfile.specs.declared.line.Line.TheVariants.{Empty, Closes, Opens, Says, Misplaced}
use Rattle.cd_caddyfile.specs.declared.word.Word.{Word}
use Rattle.cd_caddyfile.specs.declared.word.Mark.{Mark}
use Rattle.cd_caddyfile.specs.declared.word.Mark.TheVariants.{Bare, Quoted, Open}

-- ---- lines

-- a CR at the end of a line is no part of it
abbrev pub without_return : List ℕ → List ℕ
without_return line = if ends_with nat_eq line (13 ∷ []) then take (length line - 1) line else line

-- a line ends at LF, or at the end of the file
abbrev pub lines_of : List ℕ → List (List ℕ)
lines_of bytes = map without_return (slice_split (λ b. b == 10) bytes)

-- ---- braces

abbrev pub is_bare : Mark → Bool
is_bare Bare = true
is_bare Quoted = false
is_bare Open = false

-- its quote is not closed
abbrev pub is_left_open : Mark → Bool
is_left_open Bare = false
is_left_open Quoted = false
is_left_open Open = true

-- a brace in quotes is a text like any other
abbrev pub is_bare_word : List ℕ → Word → Bool
is_bare_word text w = is_bare w.mark && bytes_eq w.text text

abbrev pub is_brace : Word → Bool
is_brace w = is_bare_word (codes "{") w || is_bare_word (codes "}") w

-- ---- what a line does

abbrev pub texts : List Word → List (List ℕ)
texts ws = map (λ w. w.text) ws

-- words without a brace
abbrev pub says : List Word → Line
says ws = if list_any is_brace ws then Misplaced else Says (texts ws)

-- words before a brace that opens a block
abbrev pub opens : List Word → Line
opens ws = if list_any is_brace ws then Misplaced else Opens (texts ws)

-- the last word decides
abbrev pub with_last : List Word → Word → Line
with_last before last =
    if is_bare_word (codes "{") last then opens before else
    (if is_bare_word (codes "}") last && length before == 0 then Closes else says (before ++ last ∷ []))

-- the words that are left, after those before
unfoldable pub by_last : List Word → List Word → Line
by_last before [] = Empty
by_last before (w ∷ []) = with_last before w
by_last before (w ∷ v ∷ ws) = by_last (before ++ w ∷ []) (v ∷ ws)

abbrev pub line_of : List ℕ → Line
line_of bytes = by_last [] (words bytes)

-- the line is no text: it is not UTF-8, or a quote is left open
abbrev pub is_bad_text : List ℕ → Bool
is_bad_text bytes = not (is_utf8 bytes) || list_any (λ w. is_left_open w.mark) (words bytes)
