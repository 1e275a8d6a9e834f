-- Part of the main theorem.
-- How far pieces were read, by a place among them and a number of bytes.
use Rattle.std.specs.Prelude.{ℕ, List, drop}
use Rattle.cd_outside.specs.Pieces.{first_piece, left_after}

-- the piece at this place, or nothing
abbrev pub piece_at : List (List ℕ) → ℕ → List ℕ
piece_at pieces next = first_piece (drop next pieces)

-- what is left after so many pieces and so many bytes of the next
abbrev pub left_of : List (List ℕ) → ℕ → ℕ → List (List ℕ)
left_of pieces next offset = left_after offset (drop next pieces)
