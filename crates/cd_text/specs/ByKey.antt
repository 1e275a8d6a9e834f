-- Part of the main theorem.
-- Elements by rising keys, which compare by their bytes.
use Rattle.std.specs.Prelude.{ℕ, Bool, List, [], ◌∷◌, if◌then◌else◌}
use Rattle.std.specs.Ordering.{nat_cmp, is_le}
use Rattle.std.specs.Cmp.Lexicographic.{slice_cmp}

-- the first element's key is not greater than the second's
abbrev pub key_le : {A : Type 0} → (A → List ℕ) → A → A → Bool
key_le key one other = is_le (slice_cmp nat_cmp (key one) (key other))

-- one more element among elements by rising key: before the first whose key is not less
abbrev pub put_by_key : {A : Type 0} → (A → List ℕ) → A → List A → List A
put_by_key key element [] = element ∷ []
put_by_key key element (other ∷ others) =
    if key_le key element other then element ∷ (other ∷ others) else other ∷ put_by_key key element others

-- the elements by rising key, and those of one key in their order
abbrev pub by_key : {A : Type 0} → (A → List ℕ) → List A → List A
by_key key [] = []
by_key key (element ∷ elements) = put_by_key key element (by_key key elements)
