-- The last `{` of a piece, found from its end.
use Rattle.std.proofs.Common.{◌≡◌, ℕ, ◌+◌, ◌-◌, ◌<◌, ◌≤◌, true, false, not, List, length, take, drop, get_or, refl, ap, arith, rules}
use Rattle.std.specs.List.{list_any, before_last, after_last, suffix_len}
use Rattle.std.proofs.lemmas.List.Recursion.{or_from_places}
use Rattle.std.proofs.lemmas.Grind.{common_steps}
use Rattle.std.proofs.lemmas.List.Sums.{suffix_len_is}
use Rattle.std.proofs.lemmas.List.Folds.{list_any-from_Any}
use Rattle.cd_fill.specs.Filling.{open_brace}

open_after : (xs : List ℕ) (n : ℕ) → 0 < n → n ≤ length xs → ((k : ℕ) → n ≤ k → k < length xs → open_brace (get_or xs k 0) ≡ false) → open_brace (get_or xs (n - 1) 0) ≡ true → suffix_len (λ x. not (open_brace x)) xs ≡ length xs - n
open_after xs n some within later here = search (rules, suffix_len_is)

pub last_before : (xs : List ℕ) (n : ℕ) → 0 < n → n ≤ length xs → ((k : ℕ) → n ≤ k → k < length xs → open_brace (get_or xs k 0) ≡ false) → open_brace (get_or xs (n - 1) 0) ≡ true → before_last open_brace xs ≡ take (n - 1) xs
last_before xs n some within later here =
    let e : length xs - suffix_len (λ x. not (open_brace x)) xs - 1 ≡ n - 1 = omega (arith, open_after xs n some within later here) in
    ap (λ k. take k xs) e

pub last_after : (xs : List ℕ) (n : ℕ) → 0 < n → n ≤ length xs → ((k : ℕ) → n ≤ k → k < length xs → open_brace (get_or xs k 0) ≡ false) → open_brace (get_or xs (n - 1) 0) ≡ true → after_last open_brace xs ≡ drop (n - 1 + 1) xs
last_after xs n some within later here =
    let e : length xs - suffix_len (λ x. not (open_brace x)) xs ≡ n - 1 + 1 = omega (arith, open_after xs n some within later here) in
    ap (λ k. drop k xs) e

pub some_open : (xs : List ℕ) (n : ℕ) → n < length xs → open_brace (get_or xs n 0) ≡ true → list_any open_brace xs ≡ true
some_open xs n within here = list_any-from_Any open_brace xs (n, get_or xs n 0, within, grind (arith, common_steps), here)

pub none_open : (xs : List ℕ) → ((k : ℕ) → 0 ≤ k → k < length xs → open_brace (get_or xs k 0) ≡ false) → list_any open_brace xs ≡ false
none_open xs none = or_from_places (list_any open_brace) open_brace refl (λ _ _. refl) xs 0 (λ k within. none k (omega arith) within)
