-- Texts as standard error has them: a terminal would obey their control characters (Unicode, general category Cc).
use Rattle.std.specs.Prelude.{ℕ, false, List, ◌++◌, codes, if◌then◌else◌}
use Rattle.std.specs.List.{flat_map}
use Rattle.std.specs.Char.{is_control, encode_utf8}
use Rattle.std.specs.Fmt.{digits}
use Rattle.std.specs.Str.{chars}

-- a control character by its number, as `\u{1b}`, and any other as it is
abbrev pub escaped_char : ℕ → List ℕ
escaped_char c = if is_control c then codes "\\u{" ++ digits 16 false c ++ codes "}" else encode_utf8 c

-- each character of the text
abbrev pub escaped : List ℕ → List ℕ
escaped text = flat_map escaped_char (chars text)
