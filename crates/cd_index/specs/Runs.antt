-- Rising numbers.
use Rattle.std.specs.Prelude.{◌≡◌, ℕ, ◌<◌, ◌≤◌, List, length, get_or}

-- the number is one of these
abbrev pub Has : ℕ → List ℕ → Type 0
Has n xs = (i : ℕ) × (i < length xs) × (get_or xs i 0 ≡ n)

-- a later one is greater
abbrev pub IsRising : List ℕ → Type 0
IsRising xs = (i : ℕ) → (j : ℕ) → i < j → j < length xs → get_or xs i 0 < get_or xs j 0

-- they rise to this number at most
pub record IsRun (top : ℕ) (xs : List ℕ) : Type 0 where
  pub rising : IsRising xs
  pub below : (i : ℕ) → i < length xs → get_or xs i 0 ≤ top
