-- A number's text reads by whether it begins with a minus sign.
use Rattle.std.proofs.Common.{◌≡◌, ◌≢◌, ℕ, List, [], ◌∷◌, true, false, Option, Some, None, Bor, refl, ap, ◌∙◌}
use Rattle.std.specs.Prelude.{MatchOption}
use Rattle.std.proofs.lemmas.Bool.{ne_eqb}
use Rattle.fast_float.specs.Text.{scan}
use Rattle.serde_json.specs.Read.{number_of, number_from}

-- with the sign, what follows it is read as a size below zero
signed : (size : List ℕ) → number_of (45 ∷ size) ≡ number_from true (scan size)
unfolding number_of
signed size = refl

-- without it, all of it is read as a size from zero
unsigned : (digits : List ℕ) → ((size : List ℕ) → digits ≢ 45 ∷ size) → number_of digits ≡ number_from false (scan digits)
unfolding number_of
unsigned [] bare = refl
unsigned (d ∷ ds) bare = rw (ne_eqb d 45 (λ same. bare ds (ap (λ c. c ∷ ds) same))) refl

-- what the search for the sign found says how the text reads
pub by_sign : (digits : List ℕ) (after : Option (Bor (List ℕ))) → MatchOption after ((size : List ℕ) → digits ≢ 45 ∷ size) (λ size. digits ≡ 45 ∷ size.now)
    → MatchOption after (number_of digits ≡ number_from false (scan digits)) (λ size. number_of digits ≡ number_from true (scan size.now))
by_sign digits None bare = unsigned digits bare
by_sign digits (Some size) is = ap number_of is ∙ signed size.now
