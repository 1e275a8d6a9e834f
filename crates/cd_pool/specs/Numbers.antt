-- The numbers of leases.
use Rattle.std.specs.Prelude.{ℕ, ◌+◌, ◌≤◌, ◌==◌, cond, nat_lt, List, [], ◌∷◌, ◌++◌, zero, suc}
use Rattle.cd_pool.specs.declared.lease.Leased.{Leased}

-- how often a number is among these leases
abbrev pub uses : ℕ → List Leased → ℕ
uses n [] = 0
uses n (h ∷ hs) = cond (h.number == n) (1 + uses n hs) (uses n hs)

-- how often a number is among these numbers
abbrev pub times : ℕ → List ℕ → ℕ
times n [] = 0
times n (m ∷ ms) = cond (m == n) (1 + times n ms) (times n ms)

-- each number below `places` is that of a lease or free, at most once; and no other number is
abbrev pub AreNumbers : List Leased → List ℕ → ℕ → Type 0
AreNumbers held free places = (n : ℕ) → uses n held + times n free ≤ cond (nat_lt n places) 1 0

-- so many numbers from n on
abbrev pub numbers_from : ℕ → ℕ → List ℕ
numbers_from n zero = []
numbers_from n (suc k) = numbers_from n k ++ (n + k) ∷ []
