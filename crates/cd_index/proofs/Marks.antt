-- Lengths that are marked, and lists that are empty.
use Rattle.std.proofs.Common.{◌≡◌, ◌≢◌, true, false, Bool, ℕ, zero, suc, ◌<◌, ◌⊎◌, inl, inr, List, [], ◌∷◌, ◌++◌, length, get_or, ap, ◌∙◌, refl, arith, get_or-set_same, get_or-set_other}
use Rattle.std.specs.Prelude.{slice_set}

pub same_or_not : (a b : ℕ) → (a ≡ b) ⊎ (a ≢ b)
same_or_not zero zero = inl refl
same_or_not zero (suc b) = inr (λ e. omega (arith, e))
same_or_not (suc a) zero = inr (λ e. omega (arith, e))
same_or_not (suc a) (suc b) = elim (same_or_not a b) [
  | inl same ↦ inl (ap suc same)
  | inr other ↦ inr (λ e. other (omega (arith, e)))
]

pub pushed_kept : (xs : List Bool) (k : ℕ) → get_or xs k false ≡ true → get_or (xs ++ false ∷ []) k false ≡ true
pushed_kept [] k is = cc
pushed_kept (x ∷ xs) zero is = is
pushed_kept (x ∷ xs) (suc k) is = pushed_kept xs k is

pub mark_keeps : (xs : List Bool) (long k : ℕ) → long < length xs → get_or xs k false ≡ true → get_or (slice_set xs long true) k false ≡ true
mark_keeps xs long k within is = elim (same_or_not k long) [
  | inl same ↦ ap (λ m. get_or (slice_set xs long true) m false) same ∙ get_or-set_same xs long true false within
  | inr other ↦ get_or-set_other xs long k true false other ∙ is
]

pub marked_within : (xs : List Bool) (k : ℕ) → get_or xs k false ≡ true → k < length xs
marked_within [] k is = cc
marked_within (x ∷ xs) zero is = omega arith
marked_within (x ∷ xs) (suc k) is = omega (arith, marked_within xs k is)

pub pushed_empty : (xss : List (List ℕ)) (b : ℕ) → ((k : ℕ) → get_or xss k [] ≡ []) → get_or (xss ++ [] ∷ []) b [] ≡ []
pushed_empty [] zero all = refl
pushed_empty [] (suc b) all = refl
pushed_empty (xs ∷ xss) zero all = all 0
pushed_empty (xs ∷ xss) (suc b) all = pushed_empty xss b (λ k. all (suc k))

-- what is read within a list has no default
pub any_default : (xss : List (List ℕ)) (i : ℕ) (d e : List ℕ) → i < length xss → get_or xss i d ≡ get_or xss i e
any_default [] i d e within = absurd (omega (arith, within))
any_default (xs ∷ xss) zero d e within = refl
any_default (xs ∷ xss) (suc i) d e within = any_default xss i d e (omega (arith, within))
