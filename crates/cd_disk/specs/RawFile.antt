-- What calls on a file of the system do to its bytes.
use Rattle.std.specs.Prelude.{◌≡◌, ◌≤◌, ◌+◌, ◌<◌, ℕ, zero, suc, List, [], ◌∷◌, length, Option}
use Rattle.cd_autosave.specs.Image.{byte_at}
use Rattle.cd_autosave.specs.Disk.{Written, Steps}

-- so many bytes from a place on are read, and none only at the end of the file or past it
abbrev pub Reads : ℕ → ℕ → List ℕ → List ℕ → Type 0
Reads zero at into image = length image ≤ at
Reads (suc n) at into image = (at + suc n ≤ length image) × ((i : ℕ) → i < suc n → byte_at into i ≡ byte_at image (at + i))

-- the piece is written at a place; an empty one changes nothing
abbrev pub Writes : ℕ → List ℕ → Option (List ℕ) → Option (List ℕ) → Type 0
Writes at [] before now = now ≡ before
Writes at (b ∷ piece) before now = Steps (Written at (b ∷ piece)) before now
