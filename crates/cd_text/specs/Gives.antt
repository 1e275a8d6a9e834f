-- Part of the main theorem.
-- A result that is exactly the one that a definition gives, unless memory ran out.
use Rattle.std.specs.Prelude.{◌≡◌, ◌≢◌, Result, Ok, Err, MatchResult}

-- `memory` is the error that says that memory ran out
abbrev pub Gives : {A E : Type 0} → E → Result A E → Result A E → Type 0
Gives memory result expected = MatchResult result (λ value. expected ≡ Ok value) (λ error. error ≢ memory → expected ≡ Err error)
