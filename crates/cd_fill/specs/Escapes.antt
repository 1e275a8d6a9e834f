-- Escapes in names and values of a query, looked at one by one.
use Rattle.std.specs.Prelude.{ℕ, ◌+◌, ◌*◌, ◌&&◌, Bool, List, length, nat_le, slice_index}
use Rattle.std.specs.Char.{digit_value}
use Rattle.percent_encoding.specs.Percent.{is_escape}

-- the bytes begin with `%` and two hexadecimal digits
abbrev pub begins_escape : List ℕ → Bool
begins_escape raw = nat_le 3 (length raw) && is_escape (slice_index raw 0) (slice_index raw 1) (slice_index raw 2)

-- the byte that such an escape stands for
abbrev pub escape_value : List ℕ → ℕ
escape_value raw = 16 * digit_value (slice_index raw 1) + digit_value (slice_index raw 2)
