-- The numbers of leases after a take, a give and a reservation.
use Rattle.std.proofs.Common.{◌≡◌, ℕ, zero, suc, ◌+◌, ◌-◌, ◌≤◌, ◌==◌, Bool, true, false, cond, List, [], ◌∷◌, ◌++◌, refl, sym, ap, ◌∙◌, arith, append_assoc, Some, None, nat_lt, subst, length, length-append}
use Rattle.std.specs.Option.{IsSome}
use Rattle.std.proofs.lemmas.Bool.Decides.{nat_tests}
use Rattle.std.proofs.lemmas.Bool.{eqb-true}
use Rattle.std.proofs.lemmas.List.{append-nil}
use Rattle.cd_pool.specs.declared.lease.Leased.{Leased}
use Rattle.cd_pool.specs.Pairs.{pair_at, without}
use Rattle.cd_pool.specs.Numbers.{uses, times, AreNumbers, numbers_from}

-- one more of a sum is one more of its first part
one_more : (b : Bool) (k m : ℕ) → cond b (1 + (k + m)) (k + m) ≡ cond b (1 + k) k + m
one_more true k m = omega arith
one_more false k m = refl

-- how often a number is used in two lists of leases, one behind the other
pub uses-append : (n : ℕ) (hs gs : List Leased) → uses n (hs ++ gs) ≡ uses n hs + uses n gs
uses-append n [] gs = omega arith
uses-append n (h ∷ hs) gs = rw (uses-append n hs gs) (one_more (h.number == n) (uses n hs) (uses n gs))

-- how often a number stands in two lists, one behind the other
pub times-append : (n : ℕ) (ms ks : List ℕ) → times n (ms ++ ks) ≡ times n ms + times n ks
times-append n [] ks = omega arith
times-append n (m ∷ ms) ks = rw (times-append n ms ks) (one_more (m == n) (times n ms) (times n ks))

-- a number that leaves the free ones is used once more
moved : (b : Bool) (u t x : ℕ) → u + (t + cond b (1 + 0) 0) ≤ x → u + cond b (1 + 0) 0 + t ≤ x
moved true u t x le = omega arith
moved false u t x le = omega arith

-- after a take each number is used or free at most once
pub take_numbers : (held held' : List Leased) (h : Leased) (free rest : List ℕ) (p q : ℕ) → held' ≡ held ++ h ∷ [] → free ≡ rest ++ h.number ∷ [] → q ≡ p → AreNumbers held free p → AreNumbers held' rest q
take_numbers held held' h free rest p q added popped same numbers n =
    let before : uses n held + (times n rest + times n (h.number ∷ [])) ≤ cond (nat_lt n p) 1 0 = subst (λ z. uses n held + z ≤ cond (nat_lt n p) 1 0) (ap (times n) popped ∙ times-append n rest (h.number ∷ [])) (numbers n) in
    rw (added, uses-append n held (h ∷ []), same) (moved (h.number == n) (uses n held) (times n rest) _ before)

-- one more on both sides
pub step : (b : Bool) (k j m : ℕ) → j + m ≡ k → cond b (1 + j) j + m ≡ cond b (1 + k) k
step true k j m e = omega arith
step false k j m e = e

-- one use more, where the number is this one
pub once_more : (b : Bool) (k : ℕ) → k + cond b (1 + 0) 0 ≡ cond b (1 + k) k
once_more true k = omega arith
once_more false k = omega arith

-- the first lease, for the lemma below
used_once : (m n : ℕ) (h : Leased) (hs : List Leased) (b : Bool) → (h.number == m) ≡ b → (IsSome (pair_at m hs) → uses n (without m hs) + times n (m ∷ []) ≡ uses n hs) → IsSome (cond b (Some h.pair) (pair_at m hs))
    → uses n (cond b hs (h ∷ without m hs)) + times n (m ∷ []) ≡ cond (h.number == n) (1 + uses n hs) (uses n hs)
used_once m n h hs true e rec some = rw (eqb-true h.number m e) (once_more (m == n) (uses n hs))
used_once m n h hs false e rec some = step (h.number == n) (uses n hs) (uses n (without m hs)) (times n (m ∷ [])) (rec some)

-- a number is used as often without a lease, and once more where the lease has it
pub uses-without : (m n : ℕ) (hs : List Leased) → IsSome (pair_at m hs) → uses n (without m hs) + times n (m ∷ []) ≡ uses n hs
uses-without m n [] some = cc
uses-without m n (h ∷ hs) some = used_once m n h hs (h.number == m) refl (uses-without m n hs) some

-- a number that is used no more is free once more
le_moved : (u w t o x : ℕ) → w + o ≡ u → u + t ≤ x → w + (t + o) ≤ x
le_moved u w t o x e le = omega arith

-- after a give each number is used or free at most once
pub give_numbers : (held held' : List Leased) (m : ℕ) (free free' : List ℕ) (p q : ℕ) → held' ≡ without m held → free' ≡ free ++ m ∷ [] → IsSome (pair_at m held) → q ≡ p → AreNumbers held free p → AreNumbers held' free' q
give_numbers held held' m free free' p q removed added some same numbers n =
    rw (removed, added, times-append n free (m ∷ []), same) (le_moved _ _ _ _ _ (uses-without m n held some) (numbers n))

-- the next number may be added to the free ones
add_number : (held : List Leased) (free : List ℕ) (p : ℕ) → AreNumbers held free p → AreNumbers held (free ++ p ∷ []) (suc p)
add_number held free p numbers n = let before = numbers n in rw (times-append n free (p ∷ [])) (more (uses n held) (times n free) before)
  where
    more : (u t : ℕ) → u + t ≤ cond (nat_lt n p) 1 0 → u + (t + cond (p == n) (1 + 0) 0) ≤ cond (nat_lt n (suc p)) 1 0
    more u t le = grind (arith, nat_tests)

-- so may all that follow it
fill_numbers : (held : List Leased) (free : List ℕ) (p k q : ℕ) → q ≡ p + k → AreNumbers held free p → AreNumbers held (free ++ numbers_from p k) q
fill_numbers held free p zero q same numbers = subst (λ z. AreNumbers held z q) (sym (append-nil free)) (subst (λ z. AreNumbers held free z) (sym (let s : q ≡ p = omega arith in s)) numbers)
fill_numbers held free p (suc k) q same numbers =
    let inner = add_number held (free ++ numbers_from p k) (p + k) (fill_numbers held free p k (p + k) refl numbers) in
    subst (λ z. AreNumbers held z q) (append_assoc free (numbers_from p k) ((p + k) ∷ [])) (subst (λ z. AreNumbers held ((free ++ numbers_from p k) ++ (p + k) ∷ []) z) (let s : suc (p + k) ≡ q = omega arith in s) inner)

-- after a reservation each number is used or free at most once
pub filled : (held held' : List Leased) (free free' : List ℕ) (p k q : ℕ) → held' ≡ held → free' ≡ free ++ numbers_from p k → q ≡ p + k → AreNumbers held free p → AreNumbers held' free' q
filled held held' free free' p k q same added places numbers = rw (same, added) (fill_numbers held free p k q places numbers)

-- the first lease, for the lemma below
unused : (n : ℕ) (h : Leased) (hs : List Leased) (b : Bool) → (uses n hs ≡ 0 → pair_at n hs ≡ None) → cond b (1 + uses n hs) (uses n hs) ≡ 0 → cond b (Some h.pair) (pair_at n hs) ≡ None
unused n h hs true rec zero_is = absurd (omega arith)
unused n h hs false rec zero_is = rec zero_is

-- a number that is not used names no pair
pub no_pair : (n : ℕ) (hs : List Leased) → uses n hs ≡ 0 → pair_at n hs ≡ None
no_pair n [] e = refl
no_pair n (h ∷ hs) e = unused n h hs (h.number == n) (no_pair n hs) e

-- a free number names no pair
pub new_number : (held : List Leased) (m : ℕ) (free rest : List ℕ) (p : ℕ) → free ≡ rest ++ m ∷ [] → AreNumbers held free p → pair_at m held ≡ None
new_number held m free rest p popped numbers =
    let before : uses m held + (times m rest + times m (m ∷ [])) ≤ cond (nat_lt m p) 1 0 = subst (λ z. uses m held + z ≤ cond (nat_lt m p) 1 0) (ap (times m) popped ∙ times-append m rest (m ∷ [])) (numbers m) in
    no_pair m held (grind (arith, nat_tests))

-- one number further, behind others
pub one_further : (from number : ℕ) (before ys zs : List ℕ) → from ≤ number → ys ≡ before ++ numbers_from from (number - from) → zs ≡ ys ++ number ∷ [] → zs ≡ before ++ numbers_from from (number + 1 - from)
one_further from number before ys zs le so_far added =
    let next : number + 1 - from ≡ suc (number - from) = omega arith in
    let here : from + (number - from) ≡ number = omega arith in
    rw (next, added, so_far, here) (append_assoc before (numbers_from from (number - from)) (number ∷ []))

-- the same numbers, counted otherwise
pub same_numbers : (p q k m : ℕ) → p ≡ q → m ≡ k → numbers_from p m ≡ numbers_from q k
same_numbers p q k m same count = ap (λ z. numbers_from z m) same ∙ ap (λ z. numbers_from q z) count

-- there are as many numbers as were asked for
pub length-numbers_from : (n k : ℕ) → length (numbers_from n k) ≡ k
length-numbers_from n zero = refl
length-numbers_from n (suc k) = omega (arith, length-append (numbers_from n k) ((n + k) ∷ []), length-numbers_from n k)
