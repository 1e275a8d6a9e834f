-- The row of a serial.
use Rattle.std.specs.Prelude.{◌≡◌, ℕ, cond, List, [], ◌∷◌, slice_get, Option, Some, None}
use Rattle.cd_legal.specs.Serials.{has_serial}
use Rattle.cd_desk.specs.declared.row.Row.{Row}

-- the first of these that was published with the serial
abbrev pub row_of : ℕ → List Row → Option Row
row_of n [] = None
row_of n (r ∷ rs) = cond (has_serial n r.life) (Some r) (row_of n rs)

-- a place is that of this one; none where there is none
abbrev pub IsPlaceOf : ℕ → List Row → Option ℕ → Type 0
IsPlaceOf n rows None = row_of n rows ≡ None
IsPlaceOf n rows (Some place) = (r : Row) × (slice_get rows place ≡ Some r) × (row_of n rows ≡ Some r)
