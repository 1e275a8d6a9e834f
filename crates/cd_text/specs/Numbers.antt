-- How a decimal may begin.
use Rattle.std.specs.Prelude.{◌≡◌, ◌≢◌, ℕ, ◌<◌, List, length, slice_index}

-- a first byte, which is no plus, and is `0` only where it is all
pub record IsPlain (text : List ℕ) : Type 0 where
  pub some : 0 < length text
  pub unsigned : slice_index text 0 ≢ 43
  pub short : slice_index text 0 ≡ 48 → length text ≡ 1
