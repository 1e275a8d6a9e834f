-- Part of the main theorem.
-- What a write answers.
use Rattle.std.specs.Prelude.{◌≡◌, ◌<◌, ℕ, List, length, take}
use Rattle.cd_outside.specs.declared.given.Given.{Given}
use Rattle.cd_outside.specs.declared.given.Given.TheVariants as given

-- this part of the piece was given: all of it, or less, from its front
abbrev pub IsGivenOf : Given → List ℕ → List ℕ → Type 0
IsGivenOf given.All part piece = part ≡ piece
IsGivenOf given.Failed part piece = (count : ℕ) × (count < length piece) × (part ≡ take count piece)
