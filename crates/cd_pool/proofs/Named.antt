-- Which pair a number names after a take or a give.
use Rattle.std.proofs.Common.{◌≡◌, ℕ, ◌+◌, ◌≤◌, ◌==◌, Bool, true, false, cond, List, [], ◌∷◌, ◌++◌, refl, sym, ap, ◌∙◌, arith, Option, Some, None, eq-eqb}
use Rattle.std.specs.Option.{IsSome}
use Rattle.std.proofs.lemmas.Bool.{eqb-true}
use Rattle.cd_outside.specs.declared.holder.Pair.{Pair}
use Rattle.cd_pool.specs.declared.lease.Leased.{Leased}
use Rattle.cd_pool.specs.Pairs.{pair_at, without}
use Rattle.cd_pool.specs.Numbers.{uses, times, AreNumbers}
use Rattle.cd_pool.proofs.Numbers.{no_pair, uses-without}
use Rattle.cd_pool.proofs.Giving.{once}

-- a pair with a number
abbrev pub lease : ℕ → Pair → Leased
lease n p = record { number = n; pair = p }

-- the first lease, for the lemma below
taken : (n : ℕ) (p : Pair) (h : Leased) (hs : List Leased) (b : Bool) → (pair_at n hs ≡ None → pair_at n (hs ++ lease n p ∷ []) ≡ Some p) → cond b (Some h.pair) (pair_at n hs) ≡ None → cond b (Some h.pair) (pair_at n (hs ++ lease n p ∷ [])) ≡ Some p
taken n p h hs true rec e = cc
taken n p h hs false rec e = rec e

-- a new lease names its pair
pub named : (n : ℕ) (p : Pair) (hs : List Leased) → pair_at n hs ≡ None → pair_at n (hs ++ lease n p ∷ []) ≡ Some p
named n p [] e = rw (eq-eqb n n refl) refl
named n p (h ∷ hs) e = taken n p h hs (h.number == n) (named n p hs) e

-- a lease of another number is passed over
other : (m n : ℕ) (b : Bool) (p : Pair) (o : Option Pair) → (m == n) ≡ b → (n ≡ m → ⊥) → cond b (Some p) o ≡ o
other m n true p o e ne = absurd (ne (sym (eqb-true m n e)))
other m n false p o e ne = refl

-- every other lease names what it named before a take
pub still_taken : (n m : ℕ) (p : Pair) (hs : List Leased) → (n ≡ m → ⊥) → pair_at n (hs ++ lease m p ∷ []) ≡ pair_at n hs
still_taken n m p [] ne = other m n (m == n) p None refl ne
still_taken n m p (h ∷ hs) ne = ap (λ z. cond (h.number == n) (Some h.pair) z) (still_taken n m p hs ne)

-- the first lease, for the lemma below
passed : (n m : ℕ) (h : Leased) (hs : List Leased) (b : Bool) → (h.number == m) ≡ b → (n ≡ m → ⊥) → pair_at n (without m hs) ≡ pair_at n hs → pair_at n (cond b hs (h ∷ without m hs)) ≡ cond (h.number == n) (Some h.pair) (pair_at n hs)
passed n m h hs true e ne rec = sym (other h.number n (h.number == n) h.pair (pair_at n hs) refl (λ same. ne (same ∙ eqb-true h.number m e)))
passed n m h hs false e ne rec = ap (λ z. cond (h.number == n) (Some h.pair) z) rec

-- every other lease names what it named before a give
pub still_given : (n m : ℕ) (hs : List Leased) → (n ≡ m → ⊥) → pair_at n (without m hs) ≡ pair_at n hs
still_given n m [] ne = refl
still_given n m (h ∷ hs) ne = passed n m h hs (h.number == m) refl ne (still_given n m hs ne)

-- a lease that was given back names none
pub gone : (n : ℕ) (hs : List Leased) (free : List ℕ) (places : ℕ) → IsSome (pair_at n hs) → AreNumbers hs free places → pair_at n (without n hs) ≡ None
gone n hs free places some numbers =
    let at_most : uses n hs ≤ 1 = once (uses n hs) (times n free) _ (numbers n) in
    let left : uses n (without n hs) + times n (n ∷ []) ≡ uses n hs = uses-without n n hs some in
    let mine : times n (n ∷ []) ≡ 1 = rw (eq-eqb n n refl) refl in
    no_pair n (without n hs) (omega (arith, at_most, left, mine))
