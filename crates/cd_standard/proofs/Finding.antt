-- The first element that passes a test, in the lists of several values one after another.
use Rattle.std.proofs.Common.{◌≡◌, ℕ, ◌+◌, ◌<◌, List, ◌∷◌, Bool, true, length, get_or, drop, refl, ap, ◌∙◌}
use Rattle.std.specs.Prelude.{Some, None}
use Rattle.std.specs.Option.{option_or}
use Rattle.std.specs.List.{find, flat_map}
use Rattle.std.proofs.lemmas.List.Concat.{flat_map-cons}
use Rattle.std.proofs.lemmas.List.Folds.{find-append}
use Rattle.cd_tree.proofs.Trees.{drop-element}

split_find : {X Y : Type 0} (p : Y → Bool) (f : X → List Y) (xs : List X) (i : ℕ) (x : X) → i < length xs → x ≡ get_or xs i x
    → find p (flat_map f (drop i xs)) ≡ option_or (find p (f x)) (find p (flat_map f (drop (i + 1) xs)))
split_find p f xs i x within is =
    ap (find p) (ap (flat_map f) (drop-element xs i x within is) ∙ flat_map-cons f x (drop (i + 1) xs)) ∙ find-append p (f x) (flat_map f (drop (i + 1) xs))

-- it is in this value
pub found_here : {X Y : Type 0} (p : Y → Bool) (f : X → List Y) (xs : List X) (i : ℕ) (x : X) (y : Y) → i < length xs → x ≡ get_or xs i x → find p (f x) ≡ Some y
    → find p (flat_map f (drop i xs)) ≡ Some y
found_here p f xs i x y within is here = split_find p f xs i x within is ∙ ap (λ o. option_or o (find p (flat_map f (drop (i + 1) xs)))) here

-- it is in none up to this value
pub not_here : {X Y : Type 0} (p : Y → Bool) (f : X → List Y) (xs : List X) (i : ℕ) (x : X) → i < length xs → x ≡ get_or xs i x → find p (f x) ≡ None
    → find p (flat_map f (drop i xs)) ≡ find p (flat_map f (drop (i + 1) xs))
not_here p f xs i x within is here = split_find p f xs i x within is ∙ ap (λ o. option_or o (find p (flat_map f (drop (i + 1) xs)))) here

-- the element at this place passes
pub found_first : {X : Type 0} (p : X → Bool) (xs : List X) (i : ℕ) (x : X) → i < length xs → x ≡ get_or xs i x → p x ≡ true → find p (drop i xs) ≡ Some x
found_first p xs i x within is passes = ap (find p) (drop-element xs i x within is) ∙ here p x (drop (i + 1) xs) passes
  where
    here : {X : Type 0} (p : X → Bool) (x : X) (xs : List X) → p x ≡ true → find p (x ∷ xs) ≡ Some x
    here p x xs passes = rw passes refl
