-- Part of the main theorem.
-- What a lane tells of the time before each of its connections came: the serial under which a request had last begun on it.
use Rattle.std.specs.Prelude.{◌≡◌, ◌++◌, ◌∷◌, ℕ, List, [], Option, Some, None}
use Rattle.cd_outside.specs.declared.accepted.Accepted.{Accepted}
use Rattle.cd_outside.specs.declared.accepted.Accepted.TheVariants as accepted

-- what is told after an accept, by what was told before: a connection that came adds its serial, 0 where no request had begun on it
abbrev pub SinceAccept : Option (List ℕ) → Accepted → Option (List ℕ) → Type 0
SinceAccept None answer now = now ≡ None
SinceAccept (Some serials) (accepted.Connection address) now = (serial : ℕ) × (now ≡ Some (serials ++ serial ∷ []))
SinceAccept (Some serials) accepted.Ended now = now ≡ Some serials
SinceAccept (Some serials) accepted.Failed now = now ≡ Some serials

-- the connection that is there came with this serial
abbrev pub CameWith : Option (List ℕ) → ℕ → Type 0
CameWith told serial = (before : List ℕ) × (told ≡ Some (before ++ serial ∷ []))
