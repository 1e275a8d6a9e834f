-- A search by halves in names that rise ends at the place of a name.
use Rattle.std.proofs.Common.{◌≡◌, ℕ, zero, suc, inl, inr, ◌+◌, ◌<◌, ◌≤◌, ◌⊎◌, List, [], ◌∷◌, length, get_or, Bool, true, false, Result, Ok, Err, refl, sym, ap, subst, ◌∙◌, arith, add-one}
use Rattle.std.specs.Prelude.{if◌then◌else◌}
use Rattle.std.specs.Cmp.Lexicographic.{slice_cmp}
use Rattle.std.specs.List.{IsAllAdjacentAnswer}
use Rattle.std.specs.List.Sorted.{IsSearchInRange, IsBinarySearchResult, IsSortedBy}
use Rattle.std.specs.Ordering.{is_eq, is_lt, nat_cmp, ordering_reverse}
use Rattle.std.specs.Result.{MatchResult}
use Rattle.std.specs.Str.{bytes_eq}
use Rattle.std.specs.declared.cmp.Ordering.{Ordering}
use Rattle.std.specs.declared.cmp.Ordering.TheVariants.{Less, Equal, Greater}
use Rattle.std.proofs.lemmas.Bool.{false≢true}
use Rattle.std.proofs.lemmas.Cmp.{alike_right, nat_list_cmp_total}
use Rattle.std.proofs.lemmas.List.Sorted.{searchable_from_sorted}
use Rattle.std.proofs.lemmas.Map.Text.{is_eq-slice_cmp}
use Rattle.cd_routes.specs.Invoking.{Names, place_of}
use Rattle.cd_routes.specs.NameList.{Rise}

-- ---- one name and another

compared : (name one : List ℕ) → bytes_eq name one ≡ is_eq (ordering_reverse (slice_cmp nat_cmp one name))
compared name one = sym (is_eq-slice_cmp name one) ∙ ap is_eq (nat_list_cmp_total.antisymm name one)

same : (name one : List ℕ) → slice_cmp nat_cmp one name ≡ Equal → bytes_eq name one ≡ true
same name one e = compared name one ∙ ap (λ o. is_eq (ordering_reverse o)) e

below : (name one : List ℕ) → slice_cmp nat_cmp one name ≡ Less → bytes_eq name one ≡ false
below name one e = compared name one ∙ ap (λ o. is_eq (ordering_reverse o)) e

above : (name one : List ℕ) → slice_cmp nat_cmp one name ≡ Greater → bytes_eq name one ≡ false
above name one e = compared name one ∙ ap (λ o. is_eq (ordering_reverse o)) e

-- ---- the place of a name

-- it is none of them
absent : (names : Names) (name : List ℕ) → ((k : ℕ) → k < length names → bytes_eq name (get_or names k []) ≡ false) → length names ≡ place_of names name
absent [] name none = refl
absent (first ∷ others) name none = rw (none 0 (omega arith)) (ap suc (absent others name (λ k within. none (suc k) (omega arith))))

rest_rise : (first : List ℕ) (others : Names) → Rise (first ∷ others) → Rise others
rest_rise first others rise k d within = simp add-one (simp add-one at (rise (k + 1) d (omega arith)))

-- the first is below all others
all_above : (first : List ℕ) (others : Names) (k : ℕ) (d : List ℕ) → Rise (first ∷ others) → k < length others → slice_cmp nat_cmp first (get_or others k d) ≡ Less
all_above first [] k d rise within = absurd (omega arith)
all_above first (second ∷ others) zero d rise within = rise 0 d (omega arith)
all_above first (second ∷ others) (suc k) d rise within =
    nat_list_cmp_total.trans first second (get_or others k d) (rise 0 d (omega arith)) (all_above second others k d (rest_rise first (second ∷ others) rise) (omega arith))

there : (names : Names) (name : List ℕ) (place : ℕ) → Rise names → place < length names → ((d : List ℕ) → slice_cmp nat_cmp (get_or names place d) name ≡ Equal) → place ≡ place_of names name
there [] name place rise within at = absurd (omega arith)
there (first ∷ others) name zero rise within at = rw (same name first (at [])) refl
there (first ∷ others) name (suc place) rise within at =
    let one = get_or others place [] in
    let less : slice_cmp nat_cmp first name ≡ Less = sym (alike_right nat_list_cmp_total one name first (at [])) ∙ all_above first others place [] rise (omega arith) in
    rw (below name first less) (ap suc (there others name place (rest_rise first others rise) (omega arith) at))

-- ---- a search by halves

greater : (o : Ordering) → o ≡ Less → is_lt (ordering_reverse o) ≡ false
greater o e = ap (λ p. is_lt (ordering_reverse p)) e

sorted : (names : Names) → Rise names → IsSortedBy (λ one other. is_lt (slice_cmp nat_cmp one other)) names
sorted names rise k d low within =
    let one = get_or names k d in
    let other = get_or names (k + 1) d in
    ap is_lt (nat_list_cmp_total.antisymm other one) ∙ greater (slice_cmp nat_cmp one other) (rise k d within)

before_or_from : (k i : ℕ) → (k < i) ⊎ (i ≤ k)
before_or_from k i = grind arith

pub found : (names : Names) (name : List ℕ) (r : Result ℕ ℕ) → Rise names → IsSearchInRange r (length names) → IsBinarySearchResult (λ one. slice_cmp nat_cmp one name) names r →
    MatchResult r (λ place. place ≡ place_of names name) (λ place. length names ≡ place_of names name)
found names name (Ok place) rise within at = there names name place rise within at
found names name (Err place) rise within parted =
    let parts = parted (searchable_from_sorted nat_list_cmp_total (λ one. one) names name (sorted names rise)) in
    absent names name (λ k inside. elim (before_or_from k place) [
      | inl before ↦ below name (get_or names k []) (parts.0 k [] (omega arith) before)
      | inr from ↦ above name (get_or names k []) (parts.1 k [] from inside)
    ])

pub there_found : (names : Names) (name : List ℕ) (r : Result ℕ ℕ) (place : ℕ) → r ≡ Ok place → MatchResult r (λ place. place ≡ place_of names name) (λ place. length names ≡ place_of names name) → place ≡ place_of names name
there_found names name r place is m = subst (λ (q : Result ℕ ℕ). MatchResult q (λ place. place ≡ place_of names name) (λ place. length names ≡ place_of names name)) is m

pub none_found : (names : Names) (name : List ℕ) (r : Result ℕ ℕ) (place : ℕ) → r ≡ Err place → MatchResult r (λ place. place ≡ place_of names name) (λ place. length names ≡ place_of names name) → length names ≡ place_of names name
none_found names name r place is m = subst (λ (q : Result ℕ ℕ). MatchResult q (λ place. place ≡ place_of names name) (λ place. length names ≡ place_of names name)) is m

-- ---- whether they rise

less_is : (o : Ordering) → true ≡ is_lt o → o ≡ Less
less_is Less e = refl
less_is Equal e = absurd (false≢true (sym e))
less_is Greater e = absurd (false≢true (sym e))

pub rises : (names : Names) (is : Bool) → IsAllAdjacentAnswer (λ one other b. b ≡ is_lt (slice_cmp nat_cmp one other)) names is → is ≡ true → Rise names
rises names true each e = λ k d within. less_is _ (each k d within)
rises names false each e = absurd (false≢true e)
