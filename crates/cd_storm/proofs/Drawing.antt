-- How the values and what is made of them go on by one.
use Rattle.std.proofs.Common.{◌≡◌, ℕ, zero, suc, ◌+◌, List, [], ◌++◌, refl, sym, ap, ◌∙◌, arith, append_assoc, append-nil}
use Rattle.std.specs.List.{flat_map, range_with_len}
use Rattle.std.proofs.lemmas.List.Concat.{flat_map-cons}
use Rattle.cd_storm.specs.Draws.{next, drawn}

drawn_suc : (number n : ℕ) → drawn number (suc n) ≡ next (drawn number n)
unfolding drawn
drawn_suc number n = refl

pub drawn_first : (number : ℕ) → drawn number 0 ≡ number
unfolding drawn
drawn_first number = refl

-- the value after the n-th
pub drawn_next : (number n m : ℕ) → m ≡ n + 1 → drawn number m ≡ next (drawn number n)
drawn_next number n m e = let on : m ≡ suc n = omega arith in ap (drawn number) on ∙ drawn_suc number n

pub flat_range_more : {X : Type 0} (f : ℕ → List X) (a n j : ℕ) → a + n ≡ j → flat_map f (range_with_len a (suc n)) ≡ flat_map f (range_with_len a n) ++ f j
flat_range_more f a zero j e = let same : a ≡ j = omega arith in flat_map-cons f a [] ∙ append-nil (f a) ∙ ap f same
flat_range_more f a (suc n) j e =
    flat_map-cons f a (range_with_len (a + 1) (suc n))
    ∙ ap (λ r. f a ++ r) (flat_range_more f (a + 1) n j (omega arith))
    ∙ sym (append_assoc (f a) (flat_map f (range_with_len (a + 1) n)) (f j))
    ∙ ap (λ r. r ++ f j) (sym (flat_map-cons f a (range_with_len (a + 1) n)))

pub flat_range_next : {X : Type 0} (f : ℕ → List X) (n : ℕ) → flat_map f (range_with_len 0 (n + 1)) ≡ flat_map f (range_with_len 0 n) ++ f n
flat_range_next f n = let on : n + 1 ≡ suc n = omega arith in ap (λ k. flat_map f (range_with_len 0 k)) on ∙ flat_range_more f 0 n n (omega arith)
