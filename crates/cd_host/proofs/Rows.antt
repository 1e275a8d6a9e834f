-- What holds of each element of a list, with the number of its place.
use Rattle.std.proofs.Common.{◌≡◌, ◌<◌, ℕ, zero, suc, ◌+◌, min, List, [], ◌∷◌, ◌++◌, length, map, drop, get_or, sum_by, refl, sym, ap, ◌∙◌, subst, arith}
use Rattle.std.proofs.lemmas.List.{append_assoc, length-append, map-append}
use Rattle.std.proofs.lemmas.List.Sums.{sum_by-cons}
use mathlib.Core.Option.{some, some-ne-none, some-injective}
use lib.ListN.{get_elem?}
use Rattle.cd_host.specs.Seats.{AllFrom}

module _ {A : Type 0} (P : ℕ → A → Type 0) where
  pub all-more : (k : ℕ) (xs : List A) (x : A) → AllFrom P k xs → P (k + length xs) x → AllFrom P k (xs ++ x ∷ [])
  all-more k [] x all last = (subst (λ (n : ℕ). P n x) (omega arith) last, tt)
  all-more k (y ∷ ys) x all last = (all.0, all-more (k + 1) ys x all.1 (subst (λ (n : ℕ). P n x) (omega arith) last))

  -- the elements of a row
  pub all-of-row : (k : ℕ) (xs : List A) → ((i : ℕ) (x : A) → get_elem? xs i ≡ some x → P (k + i) x) → AllFrom P k xs
  all-of-row k [] each = tt
  all-of-row k (x ∷ xs) each = (subst (λ (n : ℕ). P n x) (omega arith) (each 0 x refl), all-of-row (k + 1) xs (λ i y at. subst (λ (n : ℕ). P n y) (omega arith) (each (suc i) y at)))

  pub row-of-all : (k : ℕ) (xs : List A) → AllFrom P k xs → (i : ℕ) (x : A) → get_elem? xs i ≡ some x → P (k + i) x
  row-of-all k [] all i x at = absurd (some-ne-none x (sym at))
  row-of-all k (y ∷ ys) all zero x at = subst (λ (z : A). P (k + 0) z) (some-injective _ _ at) (subst (λ (n : ℕ). P n y) (omega arith) all.0)
  row-of-all k (y ∷ ys) all (suc i) x at = subst (λ (n : ℕ). P n x) (omega arith) (row-of-all (k + 1) ys all.1 i x at)

pub all-alike-from : {A : Type 0} (P Q : ℕ → A → Type 0) → ((k : ℕ) (x : A) → P k x → Q k x) → (k : ℕ) (xs : List A) → AllFrom P k xs → AllFrom Q k xs
all-alike-from P Q leads k [] all = tt
all-alike-from P Q leads k (x ∷ xs) all = (leads k x all.0, all-alike-from P Q leads (k + 1) xs all.1)

-- ---- from list to list

pub first-and-rest : {A : Type 0} (xs rest : List A) (x : A) → 0 < length xs → x ≡ get_or xs 0 x → rest ≡ drop 1 xs → xs ≡ x ∷ rest
first-and-rest [] rest x pos is that = absurd (omega (arith, pos))
first-and-rest (y ∷ ys) rest x pos is that = sym (ap (λ z. z ∷ rest) is ∙ ap (λ l. y ∷ l) that)

-- the first of a list, and the others
pub first-of : {A : Type 0} (P : ℕ → A → Type 0) (k : ℕ) (xs rest : List A) (x : A) → xs ≡ x ∷ rest → AllFrom P k xs → P k x × AllFrom P (k + 1) rest
first-of P k xs rest x is all = subst (λ l. AllFrom P k l) is all

-- one place on
pub next-from : {A B : Type 0} (P : ℕ → A → Type 0) (ys more : List B) (y : B) (xs : List A) → more ≡ ys ++ y ∷ [] → AllFrom P (1 + length ys + 1) xs → AllFrom P (1 + length more) xs
next-from P ys more y xs is all = subst (λ (n : ℕ). AllFrom P n xs) (let a = ap length is in let b = length-append ys (y ∷ []) in omega arith) all

pub moved-in : {S L : Type 0} (f : S → L) (ss more : List S) (s : S) (ls rest all : List L) → more ≡ ss ++ s ∷ [] → ls ≡ f s ∷ rest → map f ss ++ ls ≡ all → map f more ++ rest ≡ all
moved-in f ss more s ls rest all is that whole =
    ap (λ l. map f l ++ rest) is ∙ ap (λ l. l ++ rest) (map-append f ss (s ∷ [])) ∙ append_assoc (map f ss) (f s ∷ []) rest ∙ ap (λ l. map f ss ++ l) (sym that) ∙ whole

pub moved-out : {S L : Type 0} (f : S → L) (ls more : List L) (l : L) (ss rest : List S) (s : S) (all : List L) → more ≡ ls ++ l ∷ [] → l ≡ f s → ss ≡ s ∷ rest → ls ++ map f ss ≡ all → more ++ map f rest ≡ all
moved-out f ls more l ss rest s all is same that whole =
    ap (λ xs. xs ++ map f rest) is ∙ append_assoc ls (l ∷ []) (map f rest) ∙ ap (λ x. ls ++ (x ∷ map f rest)) same ∙ ap (λ xs. ls ++ map f xs) (sym that) ∙ whole

pub counted : {S : Type 0} (f : S → ℕ) (ss rest : List S) (s : S) (c a n all : ℕ) → n ≡ min (a + f s) c → ss ≡ s ∷ rest → min (a + sum_by f ss) c ≡ all → min (n + sum_by f rest) c ≡ all
counted f ss rest s c a n all is that whole =
    let sum : sum_by f ss ≡ f s + sum_by f rest = ap (sum_by f) that ∙ sum_by-cons f s rest in
    (omega (arith, is, sum)) ∙ whole

-- the counts of both, where one was moved
pub moved-length : {S L : Type 0} (ss more : List S) (s : S) (ls rest : List L) (l : L) → more ≡ ss ++ s ∷ [] → ls ≡ l ∷ rest → length more + length rest ≡ length ss + length ls
moved-length ss more s ls rest l is that = let a = ap length is in let b = length-append ss (s ∷ []) in let e = ap length that in omega (arith, a, b, e)
