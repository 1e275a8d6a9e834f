-- What giving back a holder's last lease leaves.
use Rattle.std.proofs.Common.{◌≡◌, ℕ, ◌+◌, ◌≤◌, ◌==◌, Bool, true, false, cond, List, [], ◌∷◌, ◌++◌, refl, sym, ap, arith, Some, nat_lt}
use Rattle.std.proofs.Common.{eq-eqb}
use Rattle.cd_outside.specs.declared.holder.Holder.{Holder}
use Rattle.cd_outside.specs.Keys.{holder_eq, keys_of}
use Rattle.cd_outside.proofs.KeyLemmas.{holder_eq-true}
use Rattle.cd_pool.specs.declared.lease.Leased.{Leased}
use Rattle.cd_pool.specs.Pairs.{pairs, without, leases_of, GivesLast}
use Rattle.cd_pool.specs.Numbers.{uses, times, AreNumbers}

-- a lease that is in no pair is in no holder's list
absent : (h : Holder) (n : ℕ) (x : Leased) (xs : List Leased) (b d : Bool) → (x.number == n) ≡ b → (uses n xs ≡ 0 → (ns : List ℕ) → leases_of h xs ≡ ns ++ n ∷ [] → ⊥) → cond b (1 + uses n xs) (uses n xs) ≡ 0 → (ns : List ℕ) → cond d (x.number ∷ leases_of h xs) (leases_of h xs) ≡ ns ++ n ∷ [] → ⊥
absent h n x xs true d eb rec zero_is ns e = omega arith
absent h n x xs false true eb rec zero_is [] e = let same : x.number ≡ n = cc in let t = eq-eqb x.number n same in cc
absent h n x xs false true eb rec zero_is (m ∷ ns) e = rec zero_is ns cc
absent h n x xs false false eb rec zero_is ns e = rec zero_is ns e

-- a number that is not used is not the last of a holder
not_there : (h : Holder) (n : ℕ) (xs : List Leased) → uses n xs ≡ 0 → (ns : List ℕ) → leases_of h xs ≡ ns ++ n ∷ [] → ⊥
not_there h n [] zero_is [] e = cc
not_there h n [] zero_is (m ∷ ns) e = cc
not_there h n (x ∷ xs) zero_is ns e = absent h n x xs (x.number == n) (holder_eq h x.pair.holder) refl (not_there h n xs) zero_is ns e

-- the first lease, for the lemma below
no_keys : (h : Holder) (x : Leased) (xs : List Leased) (d : Bool) → (leases_of h xs ≡ [] → keys_of h (pairs xs) ≡ []) → cond d (x.number ∷ leases_of h xs) (leases_of h xs) ≡ [] → cond d (x.pair.key ∷ keys_of h (pairs xs)) (keys_of h (pairs xs)) ≡ []
no_keys h x xs true rec e = cc
no_keys h x xs false rec e = rec e

-- a holder without a lease has no key
pub keys_none : (h : Holder) (xs : List Leased) → leases_of h xs ≡ [] → keys_of h (pairs xs) ≡ []
keys_none h [] e = refl
keys_none h (x ∷ xs) e = no_keys h x xs (holder_eq h x.pair.holder) (keys_none h xs) e

-- the lease is the first one
here : (h : Holder) (n : ℕ) (x : Leased) (xs : List Leased) (ns : List ℕ) → (x.number == n) ≡ true → holder_eq h x.pair.holder ≡ true → uses n xs ≡ 0 → x.number ∷ leases_of h xs ≡ ns ++ n ∷ [] → GivesLast h ns n (x ∷ xs) xs
here h n x xs [] eb ed zero_is e =
    let none : leases_of h xs ≡ [] = cc in
    let its : x.pair ≡ record { key = x.pair.key; holder = h } = ap (λ z. record { key = x.pair.key; holder = z }) (sym (holder_eq-true h x.pair.holder ed)) in
    record {
      key = x.pair.key;
      pair = rw eb (ap (λ z. Some z) its);
      keys = rw (ed, keys_none h xs none) refl;
      leases = none;
      others = λ g ne. rw (sym (holder_eq-true h x.pair.holder ed), ne) refl;
      rest = rw ed refl;
    }
here h n x xs (m ∷ ns) eb ed zero_is e = absurd (not_there h n xs zero_is ns cc)

-- equal lists begin alike
first : (A : Type 0) (x y : A) (xs ys : List A) → x ∷ xs ≡ y ∷ ys → x ≡ y
first A x y xs ys e = cc

-- the lease comes behind another of its holder
later_mine : (h : Holder) (n m : ℕ) (x : Leased) (xs ys : List Leased) (ns : List ℕ) → (x.number == n) ≡ false → holder_eq h x.pair.holder ≡ true → x.number ≡ m → GivesLast h ns n xs ys → GivesLast h (m ∷ ns) n (x ∷ xs) (x ∷ ys)
later_mine h n m x xs ys ns eb ed em g = record {
  key = g.key;
  pair = rw eb g.pair;
  keys = rw ed (ap (λ z. x.pair.key ∷ z) g.keys);
  leases = rw (ed, em, g.leases) refl;
  others = λ k ne. rw (g.others k ne) refl;
  rest = rw ed g.rest;
}

-- the lease comes behind one of another holder
later_other : (h : Holder) (n : ℕ) (x : Leased) (xs ys : List Leased) (ns : List ℕ) → (x.number == n) ≡ false → holder_eq h x.pair.holder ≡ false → GivesLast h ns n xs ys → GivesLast h ns n (x ∷ xs) (x ∷ ys)
later_other h n x xs ys ns eb ed g = record {
  key = g.key;
  pair = rw eb g.pair;
  keys = rw ed g.keys;
  leases = rw ed g.leases;
  others = λ k ne. rw (g.others k ne) refl;
  rest = rw ed (ap (λ z. x.pair ∷ z) g.rest);
}

-- the first lease, for the lemma below
step : (h : Holder) (n : ℕ) (x : Leased) (xs : List Leased) (b d : Bool) → (x.number == n) ≡ b → holder_eq h x.pair.holder ≡ d → (uses n xs ≤ 1 → (ns : List ℕ) → leases_of h xs ≡ ns ++ n ∷ [] → GivesLast h ns n xs (without n xs))
    → cond b (1 + uses n xs) (uses n xs) ≤ 1 → (ns : List ℕ) → cond d (x.number ∷ leases_of h xs) (leases_of h xs) ≡ ns ++ n ∷ [] → GivesLast h ns n (x ∷ xs) (cond b xs (x ∷ without n xs))
step h n x xs true true eb ed rec once ns e = here h n x xs ns eb ed (omega arith) e
step h n x xs true false eb ed rec once ns e = absurd (not_there h n xs (omega arith) ns e)
step h n x xs false true eb ed rec once [] e = let same : x.number ≡ n = first ℕ _ _ _ _ e in let t = eq-eqb x.number n same in cc
step h n x xs false true eb ed rec once (m ∷ ns) e = later_mine h n m x xs (without n xs) ns eb ed (first ℕ _ _ _ _ e) (rec once ns cc)
step h n x xs false false eb ed rec once ns e = later_other h n x xs (without n xs) ns eb ed (rec once ns e)

-- to leave out a lease that is the last of its holder, where its number is used once
pub gives_last : (h : Holder) (n : ℕ) (old : List Leased) → uses n old ≤ 1 → (ns : List ℕ) → leases_of h old ≡ ns ++ n ∷ [] → GivesLast h ns n old (without n old)
gives_last h n [] once [] e = cc
gives_last h n [] once (m ∷ ns) e = cc
gives_last h n (x ∷ xs) once ns e = step h n x xs (x.number == n) (holder_eq h x.pair.holder) refl refl (gives_last h n xs) once ns e

-- a number that is used or free at most once is used at most once
pub once : (u t : ℕ) (b : Bool) → u + t ≤ cond b 1 0 → u ≤ 1
once u t true le = omega arith
once u t false le = omega arith

-- the same in a pool
pub pool_last : (h : Holder) (n : ℕ) (old new : List Leased) (free : List ℕ) (p : ℕ) → AreNumbers old free p → new ≡ without n old → (ns : List ℕ) → leases_of h old ≡ ns ++ n ∷ [] → GivesLast h ns n old new
pool_last h n old new free p numbers removed ns e = rw removed (gives_last h n old (once (uses n old) (times n free) (nat_lt n p) (numbers n)) ns e)
