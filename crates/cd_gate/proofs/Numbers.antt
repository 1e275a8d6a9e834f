-- Numbers, lists of them, and tests.
use Rattle.std.proofs.Common.{◌≡◌, ◌≢◌, ◌⊎◌, inl, inr, ℕ, ◌==◌, Bool, true, false, true≢false, cond, Option, Some, None, List, [], ◌∷◌, ◌++◌, refl, sym, ap, ◌∙◌, ⊎_elim, eq-eqb}
use Rattle.std.specs.Prelude.{◌||◌}
use Rattle.std.proofs.lemmas.Bool.{eqb-true}
use Rattle.cd_legal.specs.State.{has_number}
use Rattle.cd_gate.specs.Duties.{without_number, more_due}

pub tells : (b : Bool) → (b ≡ true) ⊎ (b ≡ false)
tells true = inl refl
tells false = inr refl

pub either : (b c : Bool) → (b || c) ≡ true → (b ≡ true) ⊎ (c ≡ true)
either true c is = inl refl
either false c is = inr is

pub left : (b c : Bool) → b ≡ true → (b || c) ≡ true
left true c is = refl
left false c is = cc

pub right : (b c : Bool) → c ≡ true → (b || c) ≡ true
right true c is = refl
right false c is = is

or_assoc : (a b c : Bool) → (a || (b || c)) ≡ ((a || b) || c)
or_assoc true b c = refl
or_assoc false b c = refl

-- a number is in two lists together where it is in one of them
pub has_append : (n : ℕ) (xs ys : List ℕ) → has_number n (xs ++ ys) ≡ (has_number n xs || has_number n ys)
has_append n [] ys = refl
has_append n (x ∷ xs) ys = ap (λ (b : Bool). (n == x) || b) (has_append n xs ys) ∙ or_assoc (n == x) (has_number n xs) (has_number n ys)

-- one more
pub has_this : (n : ℕ) (ns : List ℕ) → has_number n (n ∷ ns) ≡ true
has_this n ns = left (n == n) (has_number n ns) (eq-eqb n n refl)

pub has_more : (b : Bool) (n m : ℕ) (ns : List ℕ) → has_number n ns ≡ true → has_number n (more_due b m ns) ≡ true
has_more true n m ns is = right (n == m) (has_number n ns) is
has_more false n m ns is = is

pub has_due : (b : Bool) (n m : ℕ) (ns : List ℕ) → has_number n (more_due b m ns) ≡ true → ((b ≡ true) × (n ≡ m)) ⊎ (has_number n ns ≡ true)
has_due true n m ns is = ⊎_elim (λ q. inl (refl, eqb-true n m q)) (λ q. inr q) (either (n == m) (has_number n ns) is)
has_due false n m ns is = inr is

-- without one
cut_was : (b : Bool) (n m : ℕ) (cut ms : List ℕ) → has_number n (cond b cut (m ∷ cut)) ≡ true → (has_number n cut ≡ true → has_number n ms ≡ true) → has_number n (m ∷ ms) ≡ true
cut_was true n m cut ms is rest = right (n == m) (has_number n ms) (rest is)
cut_was false n m cut ms is rest = ⊎_elim (λ q. left (n == m) (has_number n ms) q) (λ q. right (n == m) (has_number n ms) (rest q)) (either (n == m) (has_number n cut) is)

pub without-was : (n k : ℕ) (ms : List ℕ) → has_number n (without_number k ms) ≡ true → has_number n ms ≡ true
without-was n k [] is = is
without-was n k (m ∷ ms) is = cut_was (k == m) n m (without_number k ms) ms is (without-was n k ms)

cut_is : (b : Bool) (n m : ℕ) (cut ms : List ℕ) → (b ≡ true → n ≢ m) → has_number n (m ∷ ms) ≡ true → (has_number n ms ≡ true → has_number n cut ≡ true) → has_number n (cond b cut (m ∷ cut)) ≡ true
cut_is true n m cut ms ne is rest = ⊎_elim (λ q. absurd (ne refl (eqb-true n m q))) (λ q. rest q) (either (n == m) (has_number n ms) is)
cut_is false n m cut ms ne is rest = ⊎_elim (λ q. left (n == m) (has_number n cut) q) (λ q. right (n == m) (has_number n cut) (rest q)) (either (n == m) (has_number n ms) is)

pub without-is : (n k : ℕ) (ms : List ℕ) → n ≢ k → has_number n ms ≡ true → has_number n (without_number k ms) ≡ true
without-is n k [] ne is = is
without-is n k (m ∷ ms) ne is = cut_is (k == m) n m (without_number k ms) ms (λ q same. ne (same ∙ sym (eqb-true k m q))) is (without-is n k ms ne)

cut_none : (b : Bool) (k m : ℕ) (cut : List ℕ) → (k == m) ≡ b → has_number k cut ≡ false → has_number k (cond b cut (m ∷ cut)) ≡ false
cut_none true k m cut is rest = rest
cut_none false k m cut is rest = ap (λ (b : Bool). b || has_number k cut) is ∙ rest

pub without-none : (k : ℕ) (ms : List ℕ) → has_number k (without_number k ms) ≡ false
without-none k [] = refl
without-none k (m ∷ ms) = cut_none (k == m) k m (without_number k ms) refl (without-none k ms)

pub off : false ≡ true → ⊥
off e = true≢false (sym e)

-- two serials, or none
pub some_is : (x y : ℕ) → ◌≡◌ {A = Option ℕ} (Some x) (Some y) → x ≡ y
some_is x y e = cc

pub none_some : (m : ℕ) → ◌≡◌ {A = Option ℕ} None (Some m) → ⊥
none_some m e = absurd (let h : ◌≡◌ {A = Option ℕ} None (Some m) = e in cc)
