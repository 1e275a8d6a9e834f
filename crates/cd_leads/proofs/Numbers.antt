-- Numbers in lists, and things in one another where no number leads to itself.
use Rattle.std.proofs.Common.{◌≡◌, true, false, Bool, ℕ, zero, suc, ◌+◌, ◌-◌, ◌<◌, ◌≤◌, inl, inr, List, [], ◌∷◌, length, get_or, map, Option, Some, None, sym, ap, subst, ◌∙◌, refl, arith}
use Rattle.std.specs.Prelude.{nat_eq}
use Rattle.std.specs.List.{list_any, find, slice_get}
use Rattle.std.proofs.lemmas.List.FromFn.{length-range_with_len}
use Rattle.std.proofs.lemmas.Bool.Decides.{Decides-eqb}
use Rattle.cd_leads.specs.Leads.{names, numbers, leads, least_in_cycle}
use Rattle.cd_leads.specs.Orders.{IsOf}
use Rattle.cd_leads.specs.Depth.{to_depth, IsLevel, IsSame, NoCycle}
use Rattle.cd_leads.proofs.Leading.{in_range, or_split, or_left, or_right}
use Rattle.cd_leads.proofs.Depth.{settles, same_below, true_or_false}

pub numbers_same : IsSame nat_eq
numbers_same = record { decides = Decides-eqb }

pub any_of : (ns : List ℕ) (n : ℕ) → IsOf ns n → list_any (nat_eq n) ns ≡ true
any_of [] n there = absurd there
any_of (m ∷ ns) n (inl is) = or_left (nat_eq n m) (list_any (nat_eq n) ns) ((Decides-eqb n m).1 (sym is))
any_of (m ∷ ns) n (inr there) = or_right (nat_eq n m) (list_any (nat_eq n) ns) (any_of ns n there)

pub of_any : (ns : List ℕ) (n : ℕ) → list_any (nat_eq n) ns ≡ true → IsOf ns n
of_any [] n there = cc
of_any (m ∷ ns) n there = elim (or_split (nat_eq n m) (list_any (nat_eq n) ns) there) [
  | inl first ↦ inl (sym ((Decides-eqb n m).0 first))
  | inr later ↦ inr (of_any ns n later)
]

pub not_both : {A : Type 0} (b : Bool) → b ≡ true → b ≡ false → A
not_both b is is_not = cc

-- ---- what stands at a place

pub got_is : {X : Type 0} (xs : List X) (n : ℕ) (x d : X) → slice_get xs n ≡ Some x → get_or xs n d ≡ x
got_is [] n x d is = cc
got_is (y ∷ xs) zero x d is = some_is y x is
  where
    some_is : {X : Type 0} (a b : X) → Some a ≡ Some b → a ≡ b
    some_is a b e = cc
got_is (y ∷ xs) (suc n) x d is = got_is xs n x d is

pub got_small : {X : Type 0} (xs : List X) (n : ℕ) (x : X) → slice_get xs n ≡ Some x → n < length xs
got_small [] n x is = cc
got_small (y ∷ xs) zero x is = omega arith
got_small (y ∷ xs) (suc n) x is = omega (arith, got_small xs n x is)

pub got_none : {X : Type 0} (xs : List X) (n : ℕ) → length xs ≤ n → slice_get xs n ≡ None
got_none [] n beyond = refl
got_none (y ∷ xs) zero beyond = absurd (omega arith)
got_none (y ∷ xs) (suc n) beyond = got_none xs n (omega (arith, beyond))

pub count_is : (lists : List (List ℕ)) → length (numbers lists) ≡ length lists
count_is lists = length-range_with_len 0 (length lists)

pub known_small : (lists : List (List ℕ)) (n : ℕ) → n < length lists → list_any (nat_eq n) (numbers lists) ≡ true
known_small lists n small = any_of (numbers lists) n (in_range 0 (length lists) n (omega arith) (omega (arith, small)))

-- a number that is none of those has nothing
pub unknown_none : {X : Type 0} (lists : List (List ℕ)) (xs : List X) (n : ℕ) → length xs ≡ length lists → list_any (nat_eq n) (numbers lists) ≡ false → slice_get xs n ≡ None
unknown_none {X} lists xs n size absent = by_found (slice_get xs n) refl
  where
    by_found : (found : Option X) → slice_get xs n ≡ found → found ≡ None
    by_found None is = refl
    by_found (Some x) is = not_both (list_any (nat_eq n) (numbers lists)) (known_small lists n (omega (arith, size, got_small xs n x is))) absent

-- ---- no cycle

none_found : (p : ℕ → Bool) (ns : List ℕ) → find p ns ≡ None → (n : ℕ) → IsOf ns n → p n ≡ false
none_found p [] none n there = absurd there
none_found p (m ∷ ns) none n there = elim (true_or_false (p m)) [
  | inl yes_m ↦ none_here p m ns n yes_m none
  | inr no_m ↦ elim there [
    | inl is ↦ subst (λ k. p k ≡ false) is no_m
    | inr later ↦ none_found p ns (sym (cond_not p m ns no_m) ∙ none) n later
  ]
]
  where
    cond_not : (p : ℕ → Bool) (m : ℕ) (ns : List ℕ) → p m ≡ false → find p (m ∷ ns) ≡ find p ns
    cond_not p m ns is = rw is refl

    cond_is : (p : ℕ → Bool) (m : ℕ) (ns : List ℕ) → p m ≡ true → find p (m ∷ ns) ≡ Some m
    cond_is p m ns is = rw is refl

    none_here : (p : ℕ → Bool) (m : ℕ) (ns : List ℕ) (n : ℕ) → p m ≡ true → find p (m ∷ ns) ≡ None → p n ≡ false
    none_here p m ns n is none = let e = cond_is p m ns is in cc

pub no_cycle_of : (lists : List (List ℕ)) → least_in_cycle lists ≡ None → NoCycle nat_eq (names lists) (numbers lists)
no_cycle_of lists none = record { none = λ n there. none_found (λ m. leads lists m m) (numbers lists) none n (of_any (numbers lists) n there) }

-- ---- one level more is the same, and so is more depth

pub level_settles : {A : Type 0} (lists : List (List ℕ)) (level : (ℕ → A) → ℕ → A) (bottom : A) (n : ℕ) → IsLevel nat_eq (names lists) (numbers lists) level bottom → NoCycle nat_eq (names lists) (numbers lists) →
    to_depth level bottom (length lists) n ≡ level (to_depth level bottom (length lists)) n
level_settles lists level bottom n is_level no_cycle =
    sym (settles nat_eq (names lists) numbers_same (numbers lists) level bottom is_level no_cycle (length lists) n (omega (arith, count_is lists)))

pub more_depth : {A : Type 0} (lists : List (List ℕ)) (level : (ℕ → A) → ℕ → A) (bottom : A) (depth n : ℕ) → IsLevel nat_eq (names lists) (numbers lists) level bottom → NoCycle nat_eq (names lists) (numbers lists) →
    length lists ≤ depth → to_depth level bottom depth n ≡ to_depth level bottom (length lists) n
more_depth lists level bottom depth n is_level no_cycle enough =
    let e : depth ≡ (depth - length lists) + length (numbers lists) = omega (arith, count_is lists, enough) in
    ap (λ d. to_depth level bottom d n) e
    ∙ same_below nat_eq (names lists) numbers_same (numbers lists) level bottom is_level no_cycle (depth - length lists) n
    ∙ ap (λ d. to_depth level bottom d n) (count_is lists)
