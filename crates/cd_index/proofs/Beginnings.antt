-- A text that begins with a key begins with the first bytes of the key.
use Rattle.std.proofs.Common.{◌≡◌, true, ℕ, zero, suc, ◌≤◌, List, [], ◌∷◌, length, take, nat_eq, sym, ap, ◌∙◌, refl, arith}
use Rattle.std.proofs.lemmas.Grind.{common_steps}
use Rattle.std.proofs.lemmas.List.{length-map, take-map}
use Rattle.std.proofs.lemmas.Slice.Eq.{bytes_eq-Decides}
use Rattle.std.specs.Char.{to_ascii_lowercase}
use Rattle.std.specs.List.{starts_with}
use Rattle.std.specs.Str.{str_to_ascii_lowercase}

-- first bytes of first bytes
shorter : (key text : List ℕ) (m : ℕ) → key ≡ take (length key) text → take m key ≡ take (length (take m key)) text
shorter [] text zero is = refl
shorter [] text (suc m) is = refl
shorter (k ∷ key) [] m is = cc
shorter (k ∷ key) (t ∷ text) zero is = refl
shorter (k ∷ key) (t ∷ text) (suc m) is =
    let first : k ≡ t = cc in
    let others : key ≡ take (length key) text = cc in
    ap (λ c. c ∷ take m key) first ∙ ap (λ bytes. t ∷ bytes) (shorter key text m others)

lower_length : (bytes : List ℕ) → length (str_to_ascii_lowercase bytes) ≡ length bytes
lower_length bytes = length-map bytes to_ascii_lowercase

pub begins_so : (text key : List ℕ) (m : ℕ) → starts_with nat_eq (str_to_ascii_lowercase text) (str_to_ascii_lowercase key) ≡ true →
    str_to_ascii_lowercase (take m key) ≡ str_to_ascii_lowercase (take (length (take m key)) text)
begins_so text key m begins =
    let whole : str_to_ascii_lowercase key ≡ take (length (str_to_ascii_lowercase key)) (str_to_ascii_lowercase text) =
    (bytes_eq-Decides (str_to_ascii_lowercase key) (take (length (str_to_ascii_lowercase key)) (str_to_ascii_lowercase text))).0 begins in
    sym (take-map to_ascii_lowercase m key)
    ∙ shorter (str_to_ascii_lowercase key) (str_to_ascii_lowercase text) m whole
    ∙ ap (λ n. take n (str_to_ascii_lowercase text)) (ap length (take-map to_ascii_lowercase m key) ∙ lower_length (take m key))
    ∙ take-map to_ascii_lowercase (length (take m key)) text

pub begins_within : (text key : List ℕ) (m : ℕ) → starts_with nat_eq (str_to_ascii_lowercase text) (str_to_ascii_lowercase key) ≡ true → length (take m key) ≤ length text
begins_within text key m begins =
    let e : length (take m key) ≡ length (take (length (take m key)) text) = sym (lower_length (take m key)) ∙ ap length (begins_so text key m begins) ∙ lower_length (take (length (take m key)) text) in
    grind (arith, common_steps, e)
