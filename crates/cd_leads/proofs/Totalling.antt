-- Numbers counted one after another, each after those that it names.
use Rattle.std.proofs.Common.{◌≡◌, true, ℕ, zero, suc, ◌+◌, ◌-◌, ◌^◌, ◌<◌, ◌≤◌, ◌⊎◌, inl, inr, List, [], ◌∷◌, ◌++◌, length, get_or, take, drop, map, Option, Some, None, sym, ap, subst, ◌∙◌, refl, arith, append_assoc, append-nil, get_or-set_same, get_or-set_other, length-set}
use Rattle.std.specs.Prelude.{nat_eq, min, sum, slice_set}
use Rattle.std.specs.List.{list_any, slice_get}
use Rattle.std.proofs.Math.Nat.{min-eq_left}
use Rattle.std.proofs.lemmas.List.{drop_all}
use Rattle.std.proofs.lemmas.Grind.{common_steps}
use Rattle.cd_leads.specs.Leads.{names, numbers}
use Rattle.cd_leads.specs.Orders.{IsOf, Settled, AllSettled, IsOrder}
use Rattle.cd_leads.specs.Depth.{IsLevel, NoCycle}
use Rattle.cd_leads.specs.Totals.{counted, total, count_of, AreCounts, counted_one, counted_at}
use Rattle.cd_leads.proofs.Leading.{or_left, or_right, range_small}
use Rattle.cd_leads.proofs.Numbers.{of_any, got_is, got_small, got_none, unknown_none, level_settles}
use Rattle.cd_leads.proofs.Orders.{no_cycle}
use Rattle.cd_leads.proofs.Walks.{of_either, same_or_not}

-- ---- sums

pub sum_more : (n : ℕ) (ns : List ℕ) → sum (n ∷ ns) ≡ n + sum ns
sum_more n ns = grind (arith, common_steps)

-- when all are counted
pub all_counted : {X : Type 0} (f : X → ℕ) (xs : List X) (n found top : ℕ) → min (found + sum (map f (drop n xs))) top ≡ min (sum (map f xs)) top → length xs ≤ n → found ≤ top → found ≡ min (sum (map f xs)) top
all_counted f xs n found top counted end most =
    let more : found ≡ found + sum (map f (drop n xs)) = sym (ap (λ ys. found + sum (map f ys)) (drop_all n xs end) ∙ omega arith) in
    sym (min-eq_left most) ∙ ap (λ z. min z top) more ∙ counted

-- counts that are the same of each of these are the same together
abbrev Same : (ℕ → ℕ) → (ℕ → ℕ) → List ℕ → Type 0
Same f g ns = (m : ℕ) → list_any (nat_eq m) ns ≡ true → f m ≡ g m

found_here : (n : ℕ) (ns : List ℕ) → list_any (nat_eq n) (n ∷ ns) ≡ true
found_here n ns = grind (arith, common_steps)

found_later : (m n : ℕ) (ns : List ℕ) → list_any (nat_eq m) ns ≡ true → list_any (nat_eq m) (n ∷ ns) ≡ true
found_later m n ns there = or_right (nat_eq m n) (list_any (nat_eq m) ns) there

map_same : (f g : ℕ → ℕ) (ns : List ℕ) → Same f g ns → map f ns ≡ map g ns
map_same f g [] same = refl
map_same f g (n ∷ ns) same = ap (λ k. k ∷ map f ns) (same n (found_here n ns)) ∙ ap (λ ks. g n ∷ ks) (map_same f g ns (λ m there. same m (found_later m n ns there)))

abbrev pub top : ℕ
top = 2 ^ 64 - 1

both_end : (a b c d : ℕ) → min a top ≡ min b top → min c top ≡ min d top → min (a + c) top ≡ min (b + d) top
both_end a b c d first second = omega (arith, first, second)

pub sums_end : (f g : ℕ → ℕ) (ns : List ℕ) → ((m : ℕ) → list_any (nat_eq m) ns ≡ true → min (f m) top ≡ min (g m) top) → min (sum (map f ns)) top ≡ min (sum (map g ns)) top
sums_end f g [] same = refl
sums_end f g (n ∷ ns) same =
    ap (λ k. min k top) (sum_more (f n) (map f ns))
    ∙ both_end (f n) (g n) (sum (map f ns)) (sum (map g ns)) (same n (found_here n ns)) (sums_end f g ns (λ m there. same m (found_later m n ns there)))
    ∙ sym (ap (λ k. min k top) (sum_more (g n) (map g ns)))

-- ---- one level

abbrev level : List (List ℕ) → (ℕ → ℕ) → (ℕ → ℕ) → ℕ → ℕ
level lists own inner n = counted (slice_get lists n) (own n) inner

near : (lists : List (List ℕ)) (own f g : ℕ → ℕ) (n : ℕ) (found : Option (List ℕ)) → slice_get lists n ≡ found → ((m : ℕ) → names lists n m ≡ true → f m ≡ g m) → counted found (own n) f ≡ counted found (own n) g
near lists own f g n None is same = refl
near lists own f g n (Some ns) is same =
    ap (λ ks. own n + sum ks) (map_same f g ns (λ m there. same m (subst (λ ks. list_any (nat_eq m) ks ≡ true) (sym (got_is lists n ns [] is)) there)))

is_level : (lists : List (List ℕ)) (own : ℕ → ℕ) → IsLevel nat_eq (names lists) (numbers lists) (level lists own) 0
is_level lists own = record {
  near = λ f g n same. near lists own f g n (slice_get lists n) refl same;
  unknown = λ f n absent. ap (λ found. counted found (own n) f) (unknown_none lists lists n refl absent);
}

no_cycles : (lists : List (List ℕ)) (order : List ℕ) → IsOrder lists order → NoCycle nat_eq (names lists) (numbers lists)
no_cycles lists order is = record {
  none = λ n there. no_cycle lists order is n (omega (arith, range_small 0 (length lists) n (of_any (numbers lists) n there)));
}

pub total_is : (lists : List (List ℕ)) (own : ℕ → ℕ) (n : ℕ) → NoCycle nat_eq (names lists) (numbers lists) → total lists own n ≡ counted (slice_get lists n) (own n) (total lists own)
unfolding total
total_is lists own n none = level_settles lists (level lists own) 0 n (is_level lists own) none

-- ---- counts that are right

zero_beyond : (counts : List ℕ) (n : ℕ) → length counts ≤ n → get_or counts n 0 ≡ 0
zero_beyond counts n beyond = grind (arith, common_steps)

abbrev pub Right : List (List ℕ) → (ℕ → ℕ) → List ℕ → ℕ → Type 0
Right lists own counts n = count_of counts n ≡ min (total lists own n) top

pub min_twice : (a b : ℕ) → a ≡ min b top → min a top ≡ min b top
min_twice a b is = omega (arith, is)

right_beyond : (lists : List (List ℕ)) (own : ℕ → ℕ) (order counts : List ℕ) (n : ℕ) → IsOrder lists order → length counts ≡ length lists → length lists ≤ n → Right lists own counts n
right_beyond lists own order counts n is size beyond =
    let nothing : total lists own n ≡ 0 = total_is lists own n (no_cycles lists order is) ∙ ap (λ found. counted found (own n) (total lists own)) (got_none lists n beyond) in
    omega (arith, zero_beyond counts n (omega (arith, size, beyond)), nothing)

small_or_beyond : (n m : ℕ) → (n < m) ⊎ (m ≤ n)
small_or_beyond n m = grind arith

not_there : (lists : List (List ℕ)) (v : ℕ) → slice_get lists v ≡ None → v < length lists → ⊥
not_there [] v none small = omega arith
not_there (r ∷ lists) zero none small = cc
not_there (r ∷ lists) (suc v) none small = not_there lists v none (omega (arith, small))

agrees : (lists : List (List ℕ)) (own : ℕ → ℕ) (order counts before : List ℕ) (v : ℕ) (ns : List ℕ) → IsOrder lists order → length counts ≡ length lists → slice_get lists v ≡ Some ns →
    Settled lists before v → ((m : ℕ) → IsOf before m → Right lists own counts m) →
    (m : ℕ) → list_any (nat_eq m) ns ≡ true → min (count_of counts m) top ≡ min (total lists own m) top
agrees lists own order counts before v ns is size found settled right m there =
    min_twice (count_of counts m) (total lists own m) (elim (small_or_beyond m (length lists)) [
      | inl small ↦ right m (settled m (subst (λ ks. list_any (nat_eq m) ks ≡ true) (sym (got_is lists v ns [] found)) there) small)
      | inr beyond ↦ right_beyond lists own order counts m is size beyond
    ])

one_right : (lists : List (List ℕ)) (own : ℕ → ℕ) (given order counts before : List ℕ) (v : ℕ) (found : Option (List ℕ)) → IsOrder lists order → AreCounts (length lists) given own → length counts ≡ length lists → slice_get lists v ≡ found →
    Settled lists before v → ((m : ℕ) → IsOf before m → Right lists own counts m) →
    (m : ℕ) → IsOf before m ⊎ (v ≡ m) → Right lists own (counted_one found v (count_of given v) counts) m
one_right lists own given order counts before v None is are size found settled right m (inl there) = right m there
one_right lists own given order counts before v None is are size found settled right m (inr same) =
    elim (small_or_beyond m (length lists)) [
      | inl small ↦ absurd (not_there lists v found (omega (arith, small, same)))
      | inr beyond ↦ right_beyond lists own order counts m is size beyond
    ]
one_right lists own given order counts before v (Some ns) is are size found settled right m where_ =
    elim (same_or_not m v) [
      | inl same ↦
          let there : v < length lists = got_small lists v ns found in
          let small : v < length counts = omega (arith, size, there) in
          let new : ℕ = min (count_of given v + sum (map (count_of counts) ns)) top in
          let counted_right : min (count_of given v + sum (map (count_of counts) ns)) top ≡ min (own v + sum (map (total lists own) ns)) top =
          both_end (count_of given v) (own v) (sum (map (count_of counts) ns)) (sum (map (total lists own) ns)) (min_twice (count_of given v) (own v) (are v there))
          (sums_end (count_of counts) (total lists own) ns (agrees lists own order counts before v ns is size found settled right)) in
          let level_is : total lists own v ≡ own v + sum (map (total lists own) ns) = total_is lists own v (no_cycles lists order is) ∙ ap (λ f. counted f (own v) (total lists own)) found in
          ap (λ k. get_or (slice_set counts v new) k 0) same ∙ get_or-set_same counts v new 0 small ∙ counted_right ∙ sym (ap (λ k. min (total lists own k) top) same ∙ ap (λ k. min k top) level_is)
      | inr other ↦ elim where_ [
        | inl there ↦ get_or-set_other counts v m (min (count_of given v + sum (map (count_of counts) ns)) top) 0 other ∙ right m there
        | inr same ↦ absurd (other (sym same))
      ]
    ]

settled_at : (lists : List (List ℕ)) (before order : List ℕ) (i : ℕ) → AllSettled lists before order → i < length order → Settled lists (before ++ take i order) (get_or order i 0)
settled_at lists before [] i all within = absurd (omega arith)
settled_at lists before (n ∷ order) zero all within = simp append-nil all.0
settled_at lists before (n ∷ order) (suc i) all within = simp append_assoc at (settled_at lists (before ++ n ∷ []) order i all.1 (omega (arith, within)))

taken_more : (order : List ℕ) (i : ℕ) → i < length order → take (i + 1) order ≡ take i order ++ get_or order i 0 ∷ []
taken_more order i within = grind (arith, common_steps)

-- those of an order up to a place are right, whatever the numbers count by themselves
pub record RightTo (lists : List (List ℕ)) (own : List ℕ) (order counts : List ℕ) (i : ℕ) : Type 0 where
  pub right : (count : ℕ → ℕ) → AreCounts (length lists) own count → (m : ℕ) → IsOf (take i order) m → Right lists count counts m

pub none_right : (lists : List (List ℕ)) (own order counts : List ℕ) → RightTo lists own order counts 0
none_right lists own order counts = record { right = λ count are m there. absurd there }

pub step_right : (lists : List (List ℕ)) (own order counts : List ℕ) (i : ℕ) → IsOrder lists order → length counts ≡ length lists → i < length order →
    RightTo lists own order counts i → RightTo lists own order (counted_at lists own (get_or order i 0) counts) (i + 1)
step_right lists own order counts i is size within so_far = record {
  right = λ count are m there.
      one_right lists count own order counts (take i order) (get_or order i 0) (slice_get lists (get_or order i 0)) is are size refl (settled_at lists [] order i is.settled within) (so_far.right count are) m
      (of_either (take i order) (get_or order i 0) m (subst (λ ns. IsOf ns m) (taken_more order i within) there));
}

pub size_kept : (lists : List (List ℕ)) (own : List ℕ) (n : ℕ) (counts : List ℕ) → length (counted_at lists own n counts) ≡ length counts
size_kept lists own n counts = by_found (slice_get lists n)
  where
    by_found : (found : Option (List ℕ)) → length (counted_one found n (count_of own n) counts) ≡ length counts
    by_found None = refl
    by_found (Some ns) = length-set counts n (min (count_of own n + sum (map (count_of counts) ns)) top)

taken_all : (order : List ℕ) (i : ℕ) → length order ≤ i → take i order ≡ order
taken_all order i end = grind (arith, common_steps)

pub all_right : (lists : List (List ℕ)) (own order counts : List ℕ) (i : ℕ) → IsOrder lists order → length counts ≡ length lists → length order ≤ i →
    RightTo lists own order counts i → (count : ℕ → ℕ) → AreCounts (length lists) own count → (n : ℕ) → Right lists count counts n
all_right lists own order counts i is size end so_far count are n = elim (small_or_beyond n (length lists)) [
  | inl small ↦ so_far.right count are n (subst (λ ns. IsOf ns n) (sym (taken_all order i end)) (is.complete n small))
  | inr beyond ↦ right_beyond lists count order counts n is size beyond
]
