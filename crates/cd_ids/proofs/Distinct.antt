-- Where the names of a tree differ, its ids have no fault.
use Rattle.std.proofs.Common.{◌≡◌, ℕ, List, [], ◌∷◌, ◌++◌, Bool, true, false, Some, None, Ok, map, get_or, refl, sym, ap, ap₂, subst, ◌∙◌, append_assoc, append-nil}
use Rattle.std.specs.Prelude.{if◌then◌else◌}
use Rattle.std.specs.Str.{bytes_eq}
use Rattle.std.specs.List.{AllByRecursion, IsDistinct, IsAllAdjacentAnswer}
use Rattle.std.specs.Cmp.Lexicographic.{slice_cmp}
use Rattle.std.specs.Ordering.{is_eq, is_lt, nat_cmp, ordering_reverse}
use Rattle.std.specs.declared.cmp.Ordering.{Ordering}
use Rattle.std.specs.declared.cmp.Ordering.TheVariants.{Less, Equal, Greater}
use Rattle.std.proofs.lemmas.Bool.{false≢true}
use Rattle.std.proofs.lemmas.Cmp.{nat_list_cmp_total}
use Rattle.std.proofs.lemmas.Map.Keys.{IsDistinct-head, IsDistinct-tail, IsDistinct-from_apart, sorted_from_all_adjacent, Less-from_sorted}
use Rattle.std.proofs.lemmas.Map.Text.{is_eq-slice_cmp}
use Rattle.cd_tree.specs.declared.path.Path.{Path}
use Rattle.cd_tree.specs.declared.tree.Tree.{Tree}
use Rattle.cd_ids.specs.Walk.{Mark, named, wrong, walk, marks}
use Rattle.cd_ids.specs.Ids.{path_of, or_repeated, first_fault, id_fault}
use Rattle.cd_ids.specs.Noting.{note_name, noted}

-- ---- names that differ

is_eq-reverse : (o : Ordering) → is_eq (ordering_reverse o) ≡ is_eq o
is_eq-reverse Less = refl
is_eq-reverse Equal = refl
is_eq-reverse Greater = refl

pub bytes_eq-flips : (x y : List ℕ) → bytes_eq x y ≡ bytes_eq y x
bytes_eq-flips x y = sym (is_eq-slice_cmp x y) ∙ ap is_eq (nat_list_cmp_total.antisymm x y) ∙ is_eq-reverse (slice_cmp nat_cmp y x) ∙ is_eq-slice_cmp y x

less_is : (o : Ordering) → true ≡ is_lt o → o ≡ Less
less_is Less e = refl
less_is Equal e = absurd (false≢true (sym e))
less_is Greater e = absurd (false≢true (sym e))

-- names that rise differ
pub distinct_where_rising : (names : List (List ℕ)) (is : Bool) → IsAllAdjacentAnswer (λ one other b. b ≡ is_lt (slice_cmp nat_cmp one other)) names is → is ≡ true → IsDistinct bytes_eq names
distinct_where_rising names true each e =
    let rise = sorted_from_all_adjacent nat_list_cmp_total names [] (λ k within. less_is _ (each k [] within)) in
    IsDistinct-from_apart bytes_eq names (λ i j d below within. sym (is_eq-slice_cmp (get_or names i d) (get_or names j d)) ∙ ap is_eq (Less-from_sorted (slice_cmp nat_cmp) names i j d rise below within))
distinct_where_rising names false each e = absurd (false≢true e)

-- ---- a name that differs from those before has no path yet

in_the_middle : (P : List ℕ → Type 0) (xs : List (List ℕ)) (y : List ℕ) (ys : List (List ℕ)) → AllByRecursion P (xs ++ y ∷ ys) → P y
in_the_middle P [] y ys all = all.0
in_the_middle P (x ∷ xs) y ys all = in_the_middle P xs y ys all.1

abbrev pub names_of : List (List ℕ × Path) → List (List ℕ)
names_of known = map (λ one. one.0) known

names_of-push : (known : List (List ℕ × Path)) (name : List ℕ) (at : Path) → names_of (known ++ (name, at) ∷ []) ≡ names_of known ++ name ∷ []
names_of-push [] name at = refl
names_of-push (one ∷ known) name at = ap (λ rest. one.0 ∷ rest) (names_of-push known name at)

absent : (known : List (List ℕ × Path)) (name : List ℕ) (later : List (List ℕ)) → IsDistinct bytes_eq (names_of known ++ name ∷ later) → path_of name known ≡ None
absent [] name later distinct = refl
absent (one ∷ known) name later distinct =
    let other = in_the_middle (λ y. bytes_eq one.0 y ≡ false) (names_of known) name later (IsDistinct-head bytes_eq one.0 (names_of known ++ name ∷ later) distinct) in
    ap (λ b. if b then Some one.1 else path_of name known) (bytes_eq-flips name one.0 ∙ other)
    ∙ absent known name later (IsDistinct-tail bytes_eq one.0 (names_of known ++ name ∷ later) distinct)

-- ---- names alone

-- what is noted begins with what was
begins : (known : List (List ℕ)) (ms : List Mark) (all : List (List ℕ)) → noted note_name known ms ≡ Ok all → (later : List (List ℕ)) × (all ≡ known ++ later)
begins known [] all e = ([], let same : known ≡ all = cc in sym same ∙ sym (append-nil known))
begins known (wrong at ∷ rest) all e = absurd (let no : ⊥ = cc in no)
begins known (named name at ∷ rest) all e =
    let more = begins (known ++ name ∷ []) rest all e in
    (name ∷ more.0, more.1 ∙ append_assoc known (name ∷ []) more.0)

no_fault : (known : List (List ℕ × Path)) (ms : List Mark) (all : List (List ℕ)) → noted note_name (names_of known) ms ≡ Ok all → IsDistinct bytes_eq all → first_fault known ms ≡ None
no_fault known [] all e distinct = refl
no_fault known (wrong at ∷ rest) all e distinct = absurd (let no : ⊥ = cc in no)
no_fault known (named name at ∷ rest) all e distinct =
    let more = begins (names_of known ++ name ∷ []) rest all e in
    let none = absent known name more.0 (subst (IsDistinct bytes_eq) (more.1 ∙ append_assoc (names_of known) (name ∷ []) more.0) distinct) in
    ap (λ found. or_repeated found name at (first_fault (known ++ (name, at) ∷ []) rest)) none
    ∙ no_fault (known ++ (name, at) ∷ []) rest all (ap (λ names. noted note_name names rest) (names_of-push known name at) ∙ e) distinct

-- from no names, and the way to the tree itself
pub without_fault : (t : Tree) (known all : List (List ℕ)) (at : Path) → known ≡ [] → at.parts ≡ [] → noted note_name known ((walk t).inside at) ≡ Ok all → IsDistinct bytes_eq all
    → id_fault t ≡ None
without_fault t known all at none root e distinct =
    no_fault [] (marks t) all (ap₂ (λ names (parts : List (List ℕ)). noted note_name names ((walk t).inside (record { parts = parts }))) (sym none) (sym root) ∙ e) distinct
