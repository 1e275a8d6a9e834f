-- What stands at the ends of a text, and in it, where case is ignored.
use Rattle.std.proofs.Common.{◌≡◌, ℕ, ◌-◌, Bool, List, [], ◌∷◌, length, take, drop, true, false, refl, arith, rules}
use Rattle.std.specs.Prelude.{◌==◌, nat_eq}
use Rattle.std.specs.List.{starts_with, ends_with, take-map, drop-map}
use Rattle.std.specs.Str.{bytes_eq, str_to_ascii_lowercase}
use Rattle.std.proofs.lemmas.Bool.{eqb-true}
use Rattle.std.proofs.lemmas.List.{length-map}
use Rattle.cd_module.specs.Patterns.{stands_in}

-- the front of a text in lower case
pub front_lowered : (text front : List ℕ) → bytes_eq (str_to_ascii_lowercase front) (str_to_ascii_lowercase (take (length front) text))
    ≡ starts_with nat_eq (str_to_ascii_lowercase text) (str_to_ascii_lowercase front)
front_lowered text front = rw (length-map, take-map) refl

-- and its end
pub end_lowered : (text end : List ℕ) → bytes_eq (str_to_ascii_lowercase end) (str_to_ascii_lowercase (drop (length text - length end) text))
    ≡ ends_with nat_eq (str_to_ascii_lowercase text) (str_to_ascii_lowercase end)
end_lowered text end = rw (length-map, length-map, drop-map) refl

-- a part that a text begins with stands in it
pub stands_at_start : (part text : List ℕ) → starts_with nat_eq text part ≡ true → stands_in part text ≡ true
unfolding stands_in
stands_at_start part [] h = h
stands_at_start part (byte ∷ rest) h = rw h refl

-- one that it does not begin with stands behind its first byte or nowhere
pub stands_behind : (part text : List ℕ) → starts_with nat_eq text part ≡ false → (length text == 0) ≡ false → stands_in part text ≡ stands_in part (drop 1 text)
unfolding stands_in
stands_behind part text h some = search rules

-- and in an empty text nowhere
pub stands_nowhere : (part text : List ℕ) → starts_with nat_eq text part ≡ false → (length text == 0) ≡ true → stands_in part text ≡ false
unfolding stands_in
stands_nowhere part [] h none = h
stands_nowhere part (byte ∷ rest) h none = absurd (omega (arith, eqb-true (length (byte ∷ rest)) 0 none))

-- whether a text is empty, in lower case too
pub empty_lowered : (text : List ℕ) (b : Bool) → (length text == 0) ≡ b → (length (str_to_ascii_lowercase text) == 0) ≡ b
empty_lowered text b h = rw length-map h
