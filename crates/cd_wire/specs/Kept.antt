-- Part of the main theorem.
-- For the model of a request: what is kept of its path.
use Rattle.std.specs.Prelude.{◌≡◌, ◌==◌, ℕ, Bool, not, List, Option, Some, None}
use Rattle.percent_encoding.specs.Percent.{percent_decode}

-- no escape begins with the byte
abbrev pub is_no_percent : ℕ → Bool
is_no_percent byte = not (byte == 37)

-- the path with its escapes read, or nothing where it has none
abbrev pub IsPath : Option (List ℕ) → List ℕ → Type 0
IsPath None raw = percent_decode raw ≡ raw
IsPath (Some path) raw = path ≡ percent_decode raw
