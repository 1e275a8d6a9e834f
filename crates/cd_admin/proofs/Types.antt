-- What stands before the first semicolon.
use Rattle.std.proofs.Common.{◌≡◌, ℕ, ◌<◌, ◌≤◌, Bool, true, false, cond, List, length, take, Option, Some, None, refl, sym, ap, subst, arith, nat_lt}
use Rattle.std.proofs.lemmas.Bool.Decides.{nat_tests}
use Rattle.std.proofs.lemmas.List.{take_all}
use Rattle.std.specs.List.{before_first, position, position_or_len}
use Rattle.cd_admin.specs.Fields.{is_semicolon}

found : (place count i : ℕ) (b : Bool) → nat_lt place count ≡ b → cond b (Some place) None ≡ Some i → (place ≡ i) × (place < count)
found place count i true lt e = (cc, grind (arith, nat_tests))
found place count i false lt e = absurd (cc)

none_found : (place count : ℕ) (b : Bool) → nat_lt place count ≡ b → ◌≡◌ {A = Option ℕ} (cond b (Some place) None) None → count ≤ place
none_found place count true lt e = absurd (cc)
none_found place count false lt e = grind (arith, nat_tests)

pub before_cut : (xs : List ℕ) (i : ℕ) → position is_semicolon xs ≡ Some i → take i xs ≡ before_first is_semicolon xs
before_cut xs i e =
    let at = found (position_or_len is_semicolon xs) (length xs) i (nat_lt (position_or_len is_semicolon xs) (length xs)) refl e in
    ap (λ (n : ℕ). take n xs) (sym at.0)

pub cut_within : (xs : List ℕ) (i : ℕ) → position is_semicolon xs ≡ Some i → i < length xs
cut_within xs i e =
    let at = found (position_or_len is_semicolon xs) (length xs) i (nat_lt (position_or_len is_semicolon xs) (length xs)) refl e in
    subst (λ (n : ℕ). n < length xs) at.0 at.1

pub no_cut : (xs : List ℕ) → position is_semicolon xs ≡ None → xs ≡ before_first is_semicolon xs
no_cut xs e =
    let past = none_found (position_or_len is_semicolon xs) (length xs) (nat_lt (position_or_len is_semicolon xs) (length xs)) refl e in
    sym (take_all (position_or_len is_semicolon xs) xs past)
