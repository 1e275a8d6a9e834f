-- Elements put by key one by one: none is lost, they rise, those of one key keep their order, and no other list is so.
use Rattle.std.proofs.Common.{◌≡◌, ℕ, ◌+◌, List, [], ◌∷◌, get_or, refl, sym, ap, ◌∙◌, arith, Bool, true, false, not, ◌&&◌, if◌then◌else◌, cond, map, add-one}
use Rattle.std.proofs.lemmas.Bool.{false≢true}
use Rattle.std.proofs.lemmas.Cmp.{upto, tied_back, tied_itself, nat_list_cmp_total}
use Rattle.std.proofs.lemmas.Fn.{always_returns_same}
use Rattle.std.proofs.lemmas.List.Elements.{filter_agree, All-nil, All-cons, All-head, All-tail}
use Rattle.std.proofs.lemmas.List.Kept.{AllPairs-cons}
use Rattle.std.proofs.lemmas.List.MinMax.{ranks_by}
use Rattle.std.proofs.lemmas.List.Sorted.{IsPermutation-refl, IsPermutation-cons, IsPermutation-middle, IsPermutation-trans, IsPermutation-sym}
use Rattle.std.proofs.lemmas.Map.Text.{is_eq-slice_cmp}
use Rattle.std.specs.Prelude.{filter, All, AllPairs, IsPermutation}
use Rattle.std.specs.Cmp.{IsStrictWeakOrder}
use Rattle.std.specs.Cmp.Lexicographic.{slice_cmp}
use Rattle.std.specs.Fn.{Called, ComparesAs}
use Rattle.std.specs.List.Sorted.{IsSortedBy, IsSortedByKey, IsStableBy, IsStableByKey, ties}
use Rattle.std.specs.Ordering.{is_eq, is_le, is_lt, is_gt, nat_cmp, ordering_reverse}
use Rattle.std.specs.Str.{bytes_eq}
use Rattle.std.specs.declared.cmp.Ordering.{Ordering}
use Rattle.std.specs.declared.cmp.Ordering.TheVariants.{Less, Equal, Greater}
use denote.Param.Members.{Mut}
use denote.Ref.{Bor}
use Rattle.cd_text.specs.ByKey.{key_le, put_by_key, by_key}

-- ---- orderings

-- what is at most another is not greater
not_greater : (o : Ordering) → is_le o ≡ true → is_gt o ≡ false
not_greater Less le = refl
not_greater Equal le = refl
not_greater Greater le = sym le

-- and the other way round
at_most : (o : Ordering) → is_gt o ≡ false → is_le o ≡ true
at_most Less gt = refl
at_most Equal gt = refl
at_most Greater gt = sym gt

-- what is greater is at least, seen from the other side
le_reversed : (o : Ordering) → is_le o ≡ false → is_le (ordering_reverse o) ≡ true
le_reversed Less gt = sym gt
le_reversed Equal gt = refl
le_reversed Greater gt = refl

-- what is at least another is not less
lt_reversed : (o : Ordering) → is_le o ≡ true → is_lt (ordering_reverse o) ≡ false
lt_reversed Less le = refl
lt_reversed Equal le = refl
lt_reversed Greater le = sym le

-- what is not less is at most, seen from the other side
not_less : (o : Ordering) → is_lt o ≡ false → is_le (ordering_reverse o) ≡ true
not_less Less lt = sym lt
not_less Equal lt = refl
not_less Greater lt = refl

-- what tests as equal is so
tie : (o : Ordering) → is_eq o ≡ true → o ≡ Equal
tie Less eq = absurd (false≢true eq)
tie Equal eq = refl
tie Greater eq = absurd (false≢true eq)

-- what is at most the other both ways is equal
tied : (o : Ordering) → is_le o ≡ true → is_le (ordering_reverse o) ≡ true → is_eq o ≡ true
tied Less le back = absurd (false≢true back)
tied Equal le back = refl
tied Greater le back = absurd (false≢true le)

-- what is not less either way is equal
neither : (o : Ordering) → not (is_lt (ordering_reverse o)) && not (is_lt o) ≡ is_eq o
neither Less = refl
neither Equal = refl
neither Greater = refl

-- the element has that key
abbrev pub has_key : {A : Type 0} → (A → List ℕ) → List ℕ → A → Bool
has_key key bytes element = bytes_eq (key element) bytes

-- no element's key is greater than a later one's
abbrev Rises : {A : Type 0} → (A → List ℕ) → List A → Type 0
Rises key [] = Unit {0}
Rises key (one ∷ ones) = All (λ other. key_le key one other ≡ true) ones × Rises key ones

module _ {A : Type 0} (key : A → List ℕ) where
  -- three keys in order
  le-trans : (a b c : A) → key_le key a b ≡ true → key_le key b c ≡ true → key_le key a c ≡ true
  le-trans a b c first second =
      at_most (slice_cmp nat_cmp (key a) (key c))
      (upto nat_list_cmp_total (key a) (key b) (key c)
      (not_greater (slice_cmp nat_cmp (key a) (key b)) first)
      (not_greater (slice_cmp nat_cmp (key b) (key c)) second))

  -- of two keys one is at most the other
  le-other : (a b : A) → key_le key a b ≡ false → key_le key b a ≡ true
  le-other a b gt =
      ap is_le (nat_list_cmp_total.antisymm (key b) (key a)) ∙ le_reversed (slice_cmp nat_cmp (key a) (key b)) gt

  -- ---- the list rises

  -- what holds of the element and of all others holds of all
  All-put : (P : A → Type 0) (x : A) (sorted : List A) → P x → All P sorted → All P (put_by_key key x sorted)
  All-put P x [] here all = All-cons P x [] here all
  All-put P x (y ∷ ys) here all =
      elim (key_le key x y) as (λ first. All P (if first then x ∷ (y ∷ ys) else y ∷ put_by_key key x ys)) [
        | true ↦ All-cons P x (y ∷ ys) here all
        | false ↦ All-cons P y (put_by_key key x ys) (All-head P y ys all) (All-put P x ys here (All-tail P y ys all))
      ]

  -- what is at most the first of rising keys is at most each
  All-le : (x y : A) (ys : List A) → key_le key x y ≡ true
      → All (λ later. key_le key y later ≡ true) ys → All (λ later. key_le key x later ≡ true) ys
  All-le x y [] le all = All-nil (λ later. key_le key x later ≡ true)
  All-le x y (z ∷ zs) le all =
      All-cons (λ one. key_le key x one ≡ true) z zs
      (le-trans x y z le (All-head (λ one. key_le key y one ≡ true) z zs all))
      (All-le x y zs le (All-tail (λ one. key_le key y one ≡ true) z zs all))

  -- either way the element is put, the keys rise
  Rises-step : (x y : A) (ys : List A) (first : Bool) → key_le key x y ≡ first
      → Rises key (y ∷ ys) → Rises key (put_by_key key x ys)
      → Rises key (if first then x ∷ (y ∷ ys) else y ∷ put_by_key key x ys)
  Rises-step x y ys true is rises rest =
      (All-cons (λ one. key_le key x one ≡ true) y ys is (All-le x y ys is rises.0), rises)
  Rises-step x y ys false is rises rest =
      (All-put (λ one. key_le key y one ≡ true) x ys (le-other x y is) rises.0, rest)

  -- one element more, and the keys still rise
  Rises-put : (x : A) (sorted : List A) → Rises key sorted → Rises key (put_by_key key x sorted)
  Rises-put x [] rises = (All-nil (λ other. key_le key x other ≡ true), tt)
  Rises-put x (y ∷ ys) rises = Rises-step x y ys (key_le key x y) refl rises (Rises-put x ys rises.1)

  -- and so do they of all
  Rises-by_key : (xs : List A) → Rises key (by_key key xs)
  Rises-by_key [] = tt
  Rises-by_key (x ∷ xs) = Rises-put x (by_key key xs) (Rises-by_key xs)

  -- the same of any two places
  AllPairs-rises : (xs : List A) → Rises key xs → AllPairs (λ one other. key_le key one other ≡ true) xs
  AllPairs-rises [] rises = λ i j d before within. absurd (omega arith)
  AllPairs-rises (x ∷ xs) rises =
      AllPairs-cons (λ one other. key_le key one other ≡ true) x xs rises.0 (AllPairs-rises xs rises.1)

  -- the elements by key are sorted by their keys
  pub by_key-sorted : (xs : List A) → IsSortedByKey key (slice_cmp nat_cmp) (by_key key xs)
  by_key-sorted xs k d low within =
      let sorted = by_key key xs in
      let le = AllPairs-rises sorted (Rises-by_key xs) k (k + 1) d (omega arith) within in
      let one = key (get_or sorted k d) in
      let other = key (get_or sorted (k + 1) d) in
      ap is_lt (nat_list_cmp_total.antisymm other one) ∙ lt_reversed (slice_cmp nat_cmp one other) le

  -- ---- none is lost

  -- one element more
  IsPermutation-put : (x : A) (sorted : List A) → IsPermutation (x ∷ sorted) (put_by_key key x sorted)
  IsPermutation-put x [] = IsPermutation-refl (x ∷ [])
  IsPermutation-put x (y ∷ ys) =
      elim (key_le key x y) as (λ first. IsPermutation (x ∷ (y ∷ ys))
      (if first then x ∷ (y ∷ ys) else y ∷ put_by_key key x ys)) [
        | true ↦ IsPermutation-refl (x ∷ (y ∷ ys))
        | false ↦
            IsPermutation-trans (x ∷ (y ∷ ys)) (y ∷ (x ∷ ys)) (y ∷ put_by_key key x ys)
            (IsPermutation-sym (y ∷ (x ∷ ys)) (x ∷ (y ∷ ys)) (IsPermutation-middle (y ∷ []) x ys))
            (IsPermutation-cons y (x ∷ ys) (put_by_key key x ys) (IsPermutation-put x ys))
      ]

  -- the elements by key are the elements, in another order
  pub IsPermutation-by_key : (xs : List A) → IsPermutation xs (by_key key xs)
  IsPermutation-by_key [] = IsPermutation-refl []
  IsPermutation-by_key (x ∷ xs) =
      IsPermutation-trans (x ∷ xs) (x ∷ by_key key xs) (put_by_key key x (by_key key xs))
      (IsPermutation-cons x xs (by_key key xs) (IsPermutation-by_key xs))
      (IsPermutation-put x (by_key key xs))

  -- ---- elements of one key keep their order

  -- an element of that key ties with it
  key_is : (k : List ℕ) (x : A) → has_key key k x ≡ true → slice_cmp nat_cmp (key x) k ≡ Equal
  key_is k x has = tie (slice_cmp nat_cmp (key x) k) (is_eq-slice_cmp (key x) k ∙ has)

  -- what is greater than the element has not its key
  not_same : (k : List ℕ) (x y : A) → has_key key k x ≡ true → key_le key y x ≡ false → has_key key k y ≡ false
  not_same k x y has gt = cases (has_key key k y) refl where
    cases : (too : Bool) → has_key key k y ≡ too → has_key key k y ≡ false
    cases true is =
        let order = nat_list_cmp_total.congr (key y) k (key x) (key_is k y is) in
        let back = tied_back nat_list_cmp_total (key x) k (key_is k x has) in
        absurd (false≢true (sym gt ∙ ap is_le (order ∙ back)))
    cases false is = is

  -- so none of the greater ones has its key
  none_has : (k : List ℕ) (x : A) (ys : List A) → has_key key k x ≡ true
      → All (λ y. key_le key y x ≡ false) ys → filter (has_key key k) ys ≡ []
  none_has k x [] has all = refl
  none_has k x (y ∷ ys) has all =
      let none = not_same k x y has (All-head (λ one. key_le key one x ≡ false) y ys all) in
      let rest = none_has k x ys has (All-tail (λ one. key_le key one x ≡ false) y ys all) in
      rw none rest

  -- what is not less than a greater one is greater
  All-greater : (x y : A) (ys : List A) → key_le key y x ≡ false
      → All (λ later. key_le key y later ≡ true) ys → All (λ later. key_le key later x ≡ false) ys
  All-greater x y [] gt all = All-nil (λ later. key_le key later x ≡ false)
  All-greater x y (z ∷ zs) gt all =
      All-cons (λ one. key_le key one x ≡ false) z zs
      (greater x y z gt (All-head (λ one. key_le key y one ≡ true) z zs all) (key_le key z x) refl)
      (All-greater x y zs gt (All-tail (λ one. key_le key y one ≡ true) z zs all)) where
        greater : (x y z : A) → key_le key y x ≡ false → key_le key y z ≡ true
            → (le : Bool) → key_le key z x ≡ le → key_le key z x ≡ false
        greater x y z gt le true is = absurd (false≢true (sym gt ∙ le-trans y z x le is))
        greater x y z gt le false is = is

  -- either way the element is put, it comes first of its key
  filter-step : (k : List ℕ) (x y : A) (ys : List A) (first : Bool) → key_le key x y ≡ first
      → filter (has_key key k) (put_by_key key x ys) ≡ filter (has_key key k) (x ∷ ys)
      → filter (has_key key k) (if first then x ∷ (y ∷ ys) else y ∷ put_by_key key x ys)
      ≡ filter (has_key key k) (x ∷ (y ∷ ys))
  filter-step k x y ys true is rest = refl
  filter-step k x y ys false is rest = cases (has_key key k y) refl (has_key key k x) refl rest where
    cases : (there : Bool) → has_key key k y ≡ there → (here : Bool) → has_key key k x ≡ here
        → filter (has_key key k) (put_by_key key x ys)
        ≡ cond here (x ∷ filter (has_key key k) ys) (filter (has_key key k) ys)
        → cond there (y ∷ filter (has_key key k) (put_by_key key x ys)) (filter (has_key key k) (put_by_key key x ys))
        ≡ cond here (x ∷ cond there (y ∷ filter (has_key key k) ys) (filter (has_key key k) ys))
        (cond there (y ∷ filter (has_key key k) ys) (filter (has_key key k) ys))
    cases true has true also rest = absurd (false≢true (sym (not_same k y x has is) ∙ also))
    cases true has false also rest = ap (λ (kept : List A). y ∷ kept) rest
    cases false has true also rest = rest
    cases false has false also rest = rest

  -- one element more comes first of its key
  filter-put : (k : List ℕ) (x : A) (sorted : List A)
      → filter (has_key key k) (put_by_key key x sorted) ≡ filter (has_key key k) (x ∷ sorted)
  filter-put k x [] = refl
  filter-put k x (y ∷ ys) = filter-step k x y ys (key_le key x y) refl (filter-put k x ys)

  -- elements of one key keep their order
  pub filter-by_key : (xs : List A) (k : List ℕ) → filter (has_key key k) (by_key key xs) ≡ filter (has_key key k) xs
  filter-by_key [] k = refl
  filter-by_key (x ∷ xs) k =
      filter-put k x (by_key key xs)
      ∙ ap (λ (kept : List A). cond (has_key key k x) (x ∷ kept) kept) (filter-by_key xs k)

  -- ---- there is one such list

  -- a sorted list rises
  Rises-sorted : (xs : List A) → IsSortedByKey key (slice_cmp nat_cmp) xs → Rises key xs
  Rises-sorted [] sorted = tt
  Rises-sorted (x ∷ []) sorted = (All-nil (λ other. key_le key x other ≡ true), tt)
  Rises-sorted (x ∷ (y ∷ ys)) sorted =
      let first : is_lt (slice_cmp nat_cmp (key y) (key x)) ≡ false = sorted 0 x (omega arith) (omega arith) in
      let le = ap is_le (nat_list_cmp_total.antisymm (key x) (key y)) ∙ not_less (slice_cmp nat_cmp (key y) (key x)) first in
      let rest = Rises-sorted (y ∷ ys) (λ k d low within. simp add-one (simp add-one at (sorted (k + 1) d (omega arith) (omega arith)))) in
      (All-cons (λ one. key_le key x one ≡ true) y ys le (All-le x y ys le rest.0), rest)

  -- keys that are each at most the other are the same
  same_key : (x y : A) → key_le key x y ≡ true → key_le key y x ≡ true → has_key key (key y) x ≡ true
  same_key x y le back =
      sym (is_eq-slice_cmp (key x) (key y))
      ∙ tied (slice_cmp nat_cmp (key x) (key y)) le
      (sym (ap is_le (nat_list_cmp_total.antisymm (key y) (key x))) ∙ back)

  -- an element has its own key
  own_key : (x : A) → has_key key (key x) x ≡ true
  own_key x = sym (is_eq-slice_cmp (key x) (key x)) ∙ ap is_eq (tied_itself nat_list_cmp_total (key x))

  -- an element comes first of its key in a list that begins with it
  own_first : (x : A) (xs : List A) → filter (has_key key (key x)) (x ∷ xs) ≡ x ∷ filter (has_key key (key x)) xs
  own_first x xs = ap (λ b. cond b (x ∷ filter (has_key key (key x)) xs) (filter (has_key key (key x)) xs)) (own_key x)

  -- the first of two lists that rise and have the same elements of each key is not greater than the other's
  first_le : (x y : A) (xs ys : List A) → Rises key (x ∷ xs)
      → filter (has_key key (key y)) (x ∷ xs) ≡ filter (has_key key (key y)) (y ∷ ys) → key_le key x y ≡ true
  first_le x y xs ys rises same = cases (key_le key x y) refl where
    cases : (le : Bool) → key_le key x y ≡ le → key_le key x y ≡ true
    cases true is = is
    cases false is =
        let greater = All-cons (λ one. key_le key one y ≡ false) x xs is (All-greater y x xs is rises.0) in
        let none = none_has (key y) y (x ∷ xs) (own_key y) greater in
        let wrong : [] ≡ y ∷ filter (has_key key (key y)) ys = sym none ∙ same ∙ own_first y ys in
        absurd (cc)

  -- without the same first element the lists have the same elements of each key
  same_rest : (has : Bool) (x : A) (xs ys : List A) → cond has (x ∷ xs) xs ≡ cond has (x ∷ ys) ys → xs ≡ ys
  same_rest true x xs ys same = cc
  same_rest false x xs ys same = same

  -- lists that rise and have the same elements of each of their keys are the same
  same_list : (xs ys : List A) → Rises key xs → Rises key ys
      → ((z : A) → filter (has_key key (key z)) xs ≡ filter (has_key key (key z)) ys) → xs ≡ ys
  same_list [] [] rises also same = refl
  same_list [] (y ∷ ys) rises also same =
      let wrong : [] ≡ y ∷ filter (has_key key (key y)) ys = same y ∙ own_first y ys in
      absurd (cc)
  same_list (x ∷ xs) [] rises also same =
      let wrong : x ∷ filter (has_key key (key x)) xs ≡ [] = sym (own_first x xs) ∙ same x in
      absurd (cc)
  same_list (x ∷ xs) (y ∷ ys) rises also same =
      let le = first_le x y xs ys rises (same y) in
      let back = first_le y x ys xs also (sym (same x)) in
      let there : filter (has_key key (key x)) (y ∷ ys) ≡ y ∷ filter (has_key key (key x)) ys =
      ap (λ b. cond b (y ∷ filter (has_key key (key x)) ys) (filter (has_key key (key x)) ys)) (same_key y x back le) in
      let both : x ∷ filter (has_key key (key x)) xs ≡ y ∷ filter (has_key key (key x)) ys =
      sym (own_first x xs) ∙ same x ∙ there in
      let first : x ≡ y = cc in
      let rest = same_list xs ys rises.1 also.1 (λ z. same_rest (has_key key (key z) x) x
      (filter (has_key key (key z)) xs) (filter (has_key key (key z)) ys)
      (same z ∙ ap (λ (one : A). filter (has_key key (key z)) (one ∷ ys)) (sym first))) in
      cc

  -- the elements by key are the only such list
  pub by_key-only : (xs others : List A) → IsSortedByKey key (slice_cmp nat_cmp) others
      → ((z : A) → filter (has_key key (key z)) others ≡ filter (has_key key (key z)) xs) → others ≡ by_key key xs
  by_key-only xs others sorted same =
      same_list others (by_key key xs) (Rises-sorted others sorted) (Rises-by_key xs)
      (λ z. same z ∙ sym (filter-by_key xs (key z)))

  -- ---- a sort by std

  -- keys of which neither is less are the same
  ties_have_key : (x y : A) → ties (λ one other. is_lt (slice_cmp nat_cmp (key one) (key other))) x y ≡ has_key key (key x) y
  ties_have_key x y =
      let o = slice_cmp nat_cmp (key y) (key x) in
      ap (λ (r : Ordering). not (is_lt r) && not (is_lt o)) (nat_list_cmp_total.antisymm (key x) (key y))
      ∙ neither o ∙ is_eq-slice_cmp (key y) (key x)

  -- what is sorted and stable is the elements by key
  by_key-stable : (xs others : List A) → IsSortedByKey key (slice_cmp nat_cmp) others
      → IsStableByKey key (slice_cmp nat_cmp) xs others → others ≡ by_key key xs
  by_key-stable xs others sorted stable =
      let test = λ (z : A). ties (λ (one other : A). is_lt (slice_cmp nat_cmp (key one) (key other))) z in
      by_key-only xs others sorted (λ z.
      filter_agree (has_key key (key z)) (test z) (λ x. sym (ties_have_key z x)) others
      ∙ stable z
      ∙ filter_agree (test z) (has_key key (key z)) (ties_have_key z) xs)

  -- what `sort_by` makes of the elements, where each call compares their keys
  pub by_key-from_sort_by : {F : Type 0} {g : Mut F (Bor A × (Bor A × Unit {0})) Ordering} {f : F} (xs others : List A)
      → ((lt : A → A → Bool) → IsStrictWeakOrder lt → ComparesAs g lt f → IsSortedBy lt others)
      → ((lt : A → A → Bool) → IsStrictWeakOrder lt → ComparesAs g lt f → IsStableBy lt xs others)
      → ((a : Bor A × (Bor A × Unit {0})) (r : Ordering) (f' : F) → Called g f a r f'
      → (r ≡ slice_cmp nat_cmp (key a.0.now) (key a.1.0.now)) × (f' ≡ f)) → others ≡ by_key key xs
  by_key-from_sort_by {g = g} {f = f} xs others sorted stable answers =
      let less = λ (x y : A). is_lt (slice_cmp nat_cmp (key x) (key y)) in
      let order = ranks_by nat_list_cmp_total key in
      let same = always_returns_same g (λ a r. is_lt r ≡ less a.0.now a.1.0.now) f
      (λ a r f' k. (ap is_lt (answers a r f' k).0, (answers a r f' k).1)) in
      by_key-stable xs others (sorted less order same) (stable less order same)

-- ---- elements behind references

-- one element more
map-put : {A B : Type 0} (f : A → B) (key : B → List ℕ) (x : A) (xs : List A)
    → map f (put_by_key (λ one. key (f one)) x xs) ≡ put_by_key key (f x) (map f xs)
map-put f key x [] = refl
map-put f key x (y ∷ ys) =
    elim (key_le key (f x) (f y)) as (λ first. map f (if first then x ∷ (y ∷ ys) else y ∷ put_by_key (λ one. key (f one)) x ys)
    ≡ (if first then f x ∷ (f y ∷ map f ys) else f y ∷ put_by_key key (f x) (map f ys))) [
      | true ↦ refl
      | false ↦ ap (λ (rest : List _). f y ∷ rest) (map-put f key x ys)
    ]

-- what the references by key refer to is by key
pub map-by_key : {A B : Type 0} (f : A → B) (key : B → List ℕ) (xs : List A)
    → map f (by_key (λ one. key (f one)) xs) ≡ by_key key (map f xs)
map-by_key f key [] = refl
map-by_key f key (x ∷ xs) =
    map-put f key x (by_key (λ one. key (f one)) xs) ∙ ap (put_by_key key (f x)) (map-by_key f key xs)
