-- Part of the main theorem.
-- Texts in which a `*` stands for any bytes (Caddy, JSON Config Structure, http.matchers.path and http.matchers.header).
use Rattle.std.specs.Prelude.{ℕ, ◌-◌, ◌||◌, Bool, if◌then◌else◌, List, [], ◌∷◌, length, take, drop, codes, nat_eq, Ok}
use Rattle.std.specs.List.{starts_with, ends_with}
use Rattle.std.specs.Str.{bytes_eq, str_to_ascii_lowercase}
use Rattle.cd_text.specs.Steps.{◌▷◌}
use Rattle.cd_module.specs.Settings.{Reader, text}
use Rattle.cd_module.specs.declared.pattern.Pattern.{Pattern}
use Rattle.cd_module.specs.declared.pattern.Pattern.TheVariants.{Exact, Prefix, Suffix, Part}

-- a `*` in front
abbrev pub star_first : List ℕ → Bool
star_first text = starts_with nat_eq text (codes "*")

-- a `*` at the end
abbrev pub star_last : List ℕ → Bool
star_last text = ends_with nat_eq text (codes "*")

-- the text without its last byte
abbrev pub but_last : List ℕ → List ℕ
but_last text = take (length text - 1) text

-- what stands behind a `*` in front: with another `*` at the end it is to stand anywhere, else at the end
abbrev pub behind_star : List ℕ → Pattern
behind_star rest = if star_last rest then Part (but_last rest) else Suffix rest

-- the pattern that a text writes; a `*` elsewhere stands for itself
unfoldable pub pattern_of : List ℕ → Pattern
pattern_of text =
    if star_first text then behind_star (drop 1 text)
    else if star_last text then Prefix (but_last text)
    else Exact text

-- a pattern, as a text
unfoldable pub pattern : Reader Pattern
pattern t at = text t at ▷ λ written. Ok (pattern_of written)

-- what is to stand in a text that fits, without the `*` at its ends
abbrev pub literal : Pattern → List ℕ
literal (Exact all) = all
literal (Prefix front) = front
literal (Suffix end) = end
literal (Part part) = part

-- the part stands at the start, or somewhere behind the first byte
unfoldable pub stands_in : List ℕ → List ℕ → Bool
stands_in part [] = starts_with nat_eq [] part
stands_in part (byte ∷ rest) = starts_with nat_eq (byte ∷ rest) part || stands_in part rest

-- the text fits the pattern
unfoldable pub fits : Pattern → List ℕ → Bool
fits (Exact all) text = bytes_eq text all
fits (Prefix front) text = starts_with nat_eq text front
fits (Suffix end) text = ends_with nat_eq text end
fits (Part part) text = stands_in part text

-- the pattern in lower case
abbrev pub lowered : Pattern → Pattern
lowered (Exact all) = Exact (str_to_ascii_lowercase all)
lowered (Prefix front) = Prefix (str_to_ascii_lowercase front)
lowered (Suffix end) = Suffix (str_to_ascii_lowercase end)
lowered (Part part) = Part (str_to_ascii_lowercase part)

-- the text fits the pattern, both in lower case (of ASCII)
abbrev pub fits_in_any_case : Pattern → List ℕ → Bool
fits_in_any_case pattern text = fits (lowered pattern) (str_to_ascii_lowercase text)
