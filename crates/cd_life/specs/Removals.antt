-- What is taken out of the board is handed back.
use Rattle.std.specs.Prelude.{◌≡◌, ℕ, slice_get, List, Option, Some, None}
use Rattle.std.specs.List.{remove}
use Rattle.cd_life.specs.declared.board.Kept.{Kept}
use Rattle.cd_life.specs.declared.removed.Removed.{Removed}

-- of what was kept, one that has the serial is handed back, and all others are kept still; or nothing is, and all are
abbrev pub HandsBack : {A B : Type 0} {g : _} → ℕ → List (Kept A B g) → List (Kept A B g) → Option (Removed A B g) → Type 0
HandsBack n was now None = now ≡ was
HandsBack {A} {B} {g} n was now (Some removed) = (place : ℕ) × (k : Kept A B g) × (slice_get was place ≡ Some k) × (k.serial ≡ n) × (removed.loaded ≡ k.loaded) × (now ≡ remove was place)
