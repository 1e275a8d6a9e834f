-- Part of the main theorem.
-- Escapes in a path (RFC 3986, section 2.1).
use Rattle.std.specs.Prelude.{ℕ, Bool, true, false, ◌&&◌, ◌||◌, not, List, [], ◌∷◌, ◌==◌}
use Rattle.std.specs.Char.{is_ascii_hexdigit}

-- two hexadecimal digits come first
abbrev pub begins_with_digits : List ℕ → Bool
begins_with_digits [] = false
begins_with_digits (a ∷ []) = false
begins_with_digits (a ∷ b ∷ bytes) = is_ascii_hexdigit a && is_ascii_hexdigit b

-- each `%` is followed by two hexadecimal digits
abbrev pub escapes_are_whole : List ℕ → Bool
escapes_are_whole [] = true
escapes_are_whole (byte ∷ bytes) = (not (byte == 37) || begins_with_digits bytes) && escapes_are_whole bytes
