-- Counts that end at the largest number, and what a limit says of them.
use Rattle.std.proofs.Common.{◌≡◌, ℕ, ◌+◌, ◌<◌, ◌≤◌, ◌^◌, ◌-◌, List, length, get_or, drop, sym, ap, ◌∙◌, arith}
use Rattle.std.specs.Prelude.{min, nat_le, if◌then◌else◌, Ok, Err}
use Rattle.std.specs.List.{flat_map}
use Rattle.std.proofs.Math.Nat.{min-eq_left}
use Rattle.std.proofs.lemmas.List.{drop_all, length-append}
use Rattle.std.proofs.lemmas.List.Concat.{flat_map-cons}
use Rattle.cd_tree.proofs.Trees.{drop-element}
use Rattle.cd_module.specs.Faults.{within, limit_reached}
use Rattle.cd_module.specs.Limits.{most}
use Rattle.cd_module.specs.declared.limits.Limit.{Limit}
use Rattle.cd_module.specs.declared.limits.Limit.TheVariants.{Modules, Addresses, Servers, ErrorSubroutes, ExpandedRoutes}

below_top : (l : Limit) → most l < 2 ^ 64 - 1
below_top Modules = omega arith
below_top Addresses = omega arith
below_top Servers = omega arith
below_top ErrorSubroutes = omega arith
below_top ExpandedRoutes = omega arith

min_le : (n m top : ℕ) → m < top → nat_le (min n top) m ≡ nat_le n m
min_le n m top below = grind (arith, below)

-- a count that ends at the largest number is as far within a limit as the number itself
pub within_counted : (l : Limit) (n count : ℕ) → count ≡ min n (2 ^ 64 - 1) → within l count ≡ within l n
within_counted l n count is =
    ap (λ (z : ℕ). within l z) is ∙ ap (λ b. if b then Ok tt else Err (limit_reached l)) (min_le n (most l) (2 ^ 64 - 1) (below_top l))

-- what is left to count, from an element on
split_count : {X Y : Type 0} (f : X → List Y) (xs : List X) (i : ℕ) (x : X) → i < length xs → x ≡ get_or xs i x
    → length (flat_map f (drop i xs)) ≡ length (f x) + length (flat_map f (drop (i + 1) xs))
split_count f xs i x within is =
    ap length (ap (flat_map f) (drop-element xs i x within is) ∙ flat_map-cons f x (drop (i + 1) xs)) ∙ length-append (f x) (flat_map f (drop (i + 1) xs))

sums_end : (found n rest more top : ℕ) → more ≡ min (found + min n top) top → min (more + rest) top ≡ min (found + (n + rest)) top
sums_end found n rest more top is = grind (arith, is)

-- after one element more
pub one_counted : {X Y : Type 0} (f : X → List Y) (xs : List X) (i found n more top whole : ℕ) (x : X) → i < length xs → x ≡ get_or xs i x
    → n ≡ min (length (f x)) top → more ≡ min (found + n) top → min (found + length (flat_map f (drop i xs))) top ≡ whole
    → min (more + length (flat_map f (drop (i + 1) xs))) top ≡ whole
one_counted f xs i found n more top whole x within is counted added before =
    sums_end found (length (f x)) (length (flat_map f (drop (i + 1) xs))) more top (added ∙ ap (λ (z : ℕ). min (found + z) top) counted)
    ∙ ap (λ (z : ℕ). min (found + z) top) (sym (split_count f xs i x within is)) ∙ before

-- after all
pub all_counted : {X Y : Type 0} (f : X → List Y) (xs : List X) (i found top whole : ℕ) → min (found + length (flat_map f (drop i xs))) top ≡ whole → length xs ≤ i → found ≤ top → found ≡ whole
all_counted f xs i found top whole counted end most =
    let more : found ≡ found + length (flat_map f (drop i xs)) = sym (ap (λ ys. found + length (flat_map f ys)) (drop_all i xs end) ∙ omega arith) in
    sym (min-eq_left most) ∙ ap (λ (z : ℕ). min z top) more ∙ counted
