-- A list after a change at one place.
use Rattle.std.proofs.Common.{◌≡◌, ◌≢◌, ◌<◌, ◌∙◌, Bool, true, Option, None, Some, sym, ℕ, zero, suc, List, [], ◌∷◌, ◌++◌, length, refl, ap, slice_get, option_map, get_or, set, arith}
use Rattle.std.proofs.lemmas.Option.{slice_get_read}
use Rattle.cd_legal.specs.State.{change_at, holds}

pub get_change_same : {A : Type 0} (f : A → A) (xs : List A) (d : ℕ) → slice_get (change_at f d xs) d ≡ option_map f (slice_get xs d)
get_change_same f [] d = refl
get_change_same f (z ∷ xs) zero = refl
get_change_same f (z ∷ xs) (suc d) = get_change_same f xs d

pub get_change_other : {A : Type 0} (f : A → A) (xs : List A) (d j : ℕ) → j ≢ d → slice_get (change_at f d xs) j ≡ slice_get xs j
get_change_other f [] d j ne = refl
get_change_other f (z ∷ xs) zero zero ne = absurd (ne refl)
get_change_other f (z ∷ xs) zero (suc j) ne = refl
get_change_other f (z ∷ xs) (suc d) zero ne = refl
get_change_other f (z ∷ xs) (suc d) (suc j) ne = get_change_other f xs d j (λ e. ne (ap suc e))

set_changed : {A : Type 0} (f : A → A) (xs : List A) (n : ℕ) (d : A) → n < length xs → set xs n (f (get_or xs n d)) ≡ change_at f n xs
set_changed f [] n d within = absurd (omega arith)
set_changed f (x ∷ xs) zero d within = refl
set_changed f (x ∷ xs) (suc n) d within = ap (λ zs. x ∷ zs) (set_changed f xs n d (omega arith))

-- the element, which was read and is written back as f of it
pub put_back : {A : Type 0} (f : A → A) (xs out back : List A) (n : ℕ) (x y : A) → out ≡ xs → n < length out → x ≡ get_or out n x → y ≡ f x → back ≡ set out n y → back ≡ change_at f n xs
put_back f xs out back n x y same within read is put = put ∙ (ap (set out n) (is ∙ ap f read) ∙ (set_changed f out n x within ∙ ap (change_at f n) same))

there : {A : Type 0} (test : A → Bool) (o : Option A) (x : A) → o ≡ Some x → holds test o ≡ true → test x ≡ true
there test None x e h = cc
there test (Some y) x e h = let same : y ≡ x = cc in ap test (sym same) ∙ h

-- what holds of the element at a place, holds of what was read there
pub read_holds : {A : Type 0} (test : A → Bool) (xs out : List A) (i : ℕ) (x : A) → out ≡ xs → i < length out → x ≡ get_or out i x → holds test (slice_get xs i) ≡ true → test x ≡ true
read_holds test xs out i x same within read h = there test (slice_get out i) x (slice_get_read out (length out) i x refl within read) (ap (λ z. holds test (slice_get z i)) same ∙ h)

-- so there is such an element
pub holds_within : {A : Type 0} (test : A → Bool) (xs : List A) (i : ℕ) → holds test (slice_get xs i) ≡ true → i < length xs
holds_within test [] i h = cc
holds_within test (x ∷ xs) zero h = omega arith
holds_within test (x ∷ xs) (suc i) h = let rest = holds_within test xs i h in omega arith

-- ---- a change, seen from the whole list

-- it has as many elements
pub length_change : {A : Type 0} (f : A → A) (xs : List A) (d : ℕ) → length (change_at f d xs) ≡ length xs
length_change f [] d = refl
length_change f (x ∷ xs) zero = refl
length_change f (x ∷ xs) (suc d) = ap suc (length_change f xs d)

-- one change after another at its place, which it makes good
pub change_again : {A : Type 0} (f g : A → A) → ((x : A) → g (f x) ≡ g x) → (xs : List A) (d : ℕ) → change_at g d (change_at f d xs) ≡ change_at g d xs
change_again f g same [] d = refl
change_again f g same (x ∷ xs) zero = ap (λ z. z ∷ xs) (same x)
change_again f g same (x ∷ xs) (suc d) = ap (λ zs. x ∷ zs) (change_again f g same xs d)

-- changes at two places commute
pub change_apart : {A : Type 0} (f g : A → A) (xs : List A) (j d : ℕ) → j ≢ d → change_at f j (change_at g d xs) ≡ change_at g d (change_at f j xs)
change_apart f g [] j d ne = refl
change_apart f g (x ∷ xs) zero zero ne = absurd (ne refl)
change_apart f g (x ∷ xs) zero (suc d) ne = refl
change_apart f g (x ∷ xs) (suc j) zero ne = refl
change_apart f g (x ∷ xs) (suc j) (suc d) ne = ap (λ zs. x ∷ zs) (change_apart f g xs j d (λ e. ne (ap suc e)))

-- a change that a new last element does not show
pub change_push : {A : Type 0} (f : A → A) (x : A) → f x ≡ x → (xs : List A) (d : ℕ) → change_at f d xs ++ x ∷ [] ≡ change_at f d (xs ++ x ∷ [])
change_push f x same [] zero = ap (λ z. z ∷ []) (sym same)
change_push f x same [] (suc d) = refl
change_push f x same (y ∷ xs) zero = refl
change_push f x same (y ∷ xs) (suc d) = ap (λ zs. y ∷ zs) (change_push f x same xs d)

-- ---- a test of the element at a place

-- a change that keeps the test, where the changed element passes another one
pub holds_kept : {A : Type 0} (test may : A → Bool) (f : A → A) → ((x : A) → may x ≡ true → test x ≡ true → test (f x) ≡ true) → (xs : List A) (j d : ℕ) → holds may (slice_get xs j) ≡ true → holds test (slice_get xs d) ≡ true → holds test (slice_get (change_at f j xs) d) ≡ true
holds_kept test may f keeps [] j d m t = cc
holds_kept test may f keeps (x ∷ xs) zero zero m t = keeps x m t
holds_kept test may f keeps (x ∷ xs) zero (suc d) m t = t
holds_kept test may f keeps (x ∷ xs) (suc j) zero m t = t
holds_kept test may f keeps (x ∷ xs) (suc j) (suc d) m t = holds_kept test may f keeps xs j d m t

-- a change that makes the test true
pub holds_made : {A : Type 0} (test may : A → Bool) (f : A → A) → ((x : A) → may x ≡ true → test (f x) ≡ true) → (xs : List A) (d : ℕ) → holds may (slice_get xs d) ≡ true → holds test (slice_get (change_at f d xs) d) ≡ true
holds_made test may f makes [] d m = cc
holds_made test may f makes (x ∷ xs) zero m = makes x m
holds_made test may f makes (x ∷ xs) (suc d) m = holds_made test may f makes xs d m

-- a new last element
pub holds_push : {A : Type 0} (test : A → Bool) (y : A) (xs : List A) (d : ℕ) → holds test (slice_get xs d) ≡ true → holds test (slice_get (xs ++ y ∷ []) d) ≡ true
holds_push test y [] d t = cc
holds_push test y (x ∷ xs) zero t = t
holds_push test y (x ∷ xs) (suc d) t = holds_push test y xs d t

-- a weaker test
pub holds_weaker : {A : Type 0} (test other : A → Bool) → ((x : A) → test x ≡ true → other x ≡ true) → (o : Option A) → holds test o ≡ true → holds other o ≡ true
holds_weaker test other weaker None t = cc
holds_weaker test other weaker (Some x) t = weaker x t
