-- Part of the main theorem.
-- Pieces of bytes that are read one after another.
use Rattle.std.specs.Prelude.{◌≡◌, ℕ, List, [], ◌∷◌, length, take, drop, min}
use Rattle.cd_outside.specs.declared.taken.Taken.{Taken}
use Rattle.cd_outside.specs.declared.taken.Taken.TheVariants as taken

-- the pieces that are not empty
abbrev pub not_empty : List (List ℕ) → List (List ℕ)
not_empty [] = []
not_empty ([] ∷ pieces) = not_empty pieces
not_empty ((byte ∷ bytes) ∷ pieces) = (byte ∷ bytes) ∷ not_empty pieces

-- the first piece, or nothing
abbrev pub first_piece : List (List ℕ) → List ℕ
first_piece [] = []
first_piece (piece ∷ pieces) = piece

-- the pieces without so many bytes of the first
abbrev pub cut_first : ℕ → List (List ℕ) → List (List ℕ)
cut_first count [] = []
cut_first count (piece ∷ pieces) = drop count piece ∷ pieces

-- what is left where so many bytes of the first piece are read, empty pieces aside
abbrev pub left_after : ℕ → List (List ℕ) → List (List ℕ)
left_after count pieces = not_empty (cut_first count pieces)

-- a read gives what is left of the first piece, as far as there is room; it answers the end exactly where no piece is left;
-- a failed one takes nothing
abbrev pub Reads : Taken → List ℕ → List (List ℕ) → List (List ℕ) → Type 0
Reads (taken.Bytes count) into before now =
    (count ≡ min (length (first_piece before)) (length into)) × (take count into ≡ take count (first_piece before)) × (now ≡ left_after count before)
Reads taken.End into before now = (before ≡ []) × (now ≡ [])
Reads taken.Failed into before now = now ≡ before
