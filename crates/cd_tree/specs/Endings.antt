-- How a text ends.
use Rattle.std.specs.Prelude.{ℕ, List, [], ◌∷◌}

-- the last byte, or the one before where there is none
abbrev pub last_byte : ℕ → List ℕ → ℕ
last_byte before [] = before
last_byte before (x ∷ xs) = last_byte x xs
