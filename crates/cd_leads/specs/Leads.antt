-- Part of the main theorem.
-- Which things lead to which, in one or more steps, and the numbers that lead to themselves.
use Rattle.std.specs.Prelude.{Bool, ◌&&◌, ◌||◌, ℕ, List, [], ◌∷◌, length, get_or, nat_eq, Option}
use Rattle.std.specs.List.{list_any, range_with_len, find}

-- a leads to b by way of some things: straight, or by the others; or to the first one, which leads to b, by the others
unfoldable pub leads_by : {X : Type 0} → (X → X → Bool) → List X → X → X → Bool
leads_by step [] a b = step a b
leads_by step (n ∷ ns) a b = leads_by step ns a b || (leads_by step ns a n && leads_by step ns n b)

-- ---- numbers that name others: the numbers that each one names stand at its place

-- a names b
abbrev pub names : List (List ℕ) → ℕ → ℕ → Bool
names lists a b = list_any (nat_eq b) (get_or lists a [])

-- the numbers that there are
abbrev pub numbers : List (List ℕ) → List ℕ
numbers lists = range_with_len 0 (length lists)

-- a leads to b in one or more steps
abbrev pub leads : List (List ℕ) → ℕ → ℕ → Bool
leads lists a b = leads_by (names lists) (numbers lists) a b

-- the least that leads to itself
abbrev pub least_in_cycle : List (List ℕ) → Option ℕ
least_in_cycle lists = find (λ n. leads lists n n) (numbers lists)
