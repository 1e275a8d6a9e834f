-- The members of a list, cut at its commas one by one.
use Rattle.std.proofs.Common.{◌≡◌, ℕ, ◌+◌, ◌<◌, ◌≤◌, Bool, true, false, cond, List, [], ◌∷◌, length, take, drop, Option, Some, None, refl, ap, ◌∙◌, subst, arith, nat_lt}
use Rattle.std.proofs.lemmas.Bool.Decides.{nat_tests}
use Rattle.std.proofs.lemmas.List.Splits.{slice_split_first, slice_split_none}
use Rattle.std.proofs.lemmas.List.Sums.{fails_before_first}
use Rattle.std.specs.List.{slice_split, position, position_or_len}
use Rattle.cd_wire.specs.Framing.{is_comma}

-- where the first comma stands
found : (place count i : ℕ) (b : Bool) → nat_lt place count ≡ b → cond b (Some place) None ≡ Some i → (place ≡ i) × (place < count)
found place count i true lt e = (cc, grind (arith, nat_tests))
found place count i false lt e = absurd (cc)

-- the first member, and those behind it
pub members_cut : (xs : List ℕ) (i : ℕ) → position is_comma xs ≡ Some i
    → slice_split is_comma xs ≡ take i xs ∷ slice_split is_comma (drop (i + 1) xs)
members_cut xs i e =
    let at = found (position_or_len is_comma xs) (length xs) i (nat_lt (position_or_len is_comma xs) (length xs)) refl e in
    slice_split_first is_comma xs 0 at.1 ∙ ap (λ (n : ℕ). take n xs ∷ slice_split is_comma (drop (n + 1) xs)) at.0

pub comma_within : (xs : List ℕ) (i : ℕ) → position is_comma xs ≡ Some i → i < length xs
comma_within xs i e =
    let at = found (position_or_len is_comma xs) (length xs) i (nat_lt (position_or_len is_comma xs) (length xs)) refl e in
    subst (λ (n : ℕ). n < length xs) at.0 at.1

-- no comma stands in what is no longer than the place of the first
none_found : (place count : ℕ) (b : Bool) → nat_lt place count ≡ b → ◌≡◌ {A = Option ℕ} (cond b (Some place) None) None → count ≤ place
none_found place count true lt e = absurd (cc)
none_found place count false lt e = grind (arith, nat_tests)

-- a list without a comma has one member
pub no_comma : (xs : List ℕ) → position is_comma xs ≡ None → slice_split is_comma xs ≡ xs ∷ []
no_comma xs e =
    let past = none_found (position_or_len is_comma xs) (length xs) (nat_lt (position_or_len is_comma xs) (length xs)) refl e in
    slice_split_none is_comma xs (λ i d within. fails_before_first is_comma xs i d (omega (arith, past)))
