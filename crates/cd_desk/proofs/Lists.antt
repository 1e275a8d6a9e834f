-- A list after a change at one place, and instances that wait in one.
use Rattle.std.proofs.Common.{◌≡◌, ◌≢◌, ℕ, zero, suc, ◌+◌, ◌<◌, ◌≤◌, List, [], ◌∷◌, ◌++◌, length, ⊎_elim, get_or, refl, sym, ap, ◌∙◌, arith, Some, None, true, false, set, slice_get}
use Rattle.std.proofs.lemmas.Bool.Decides.{eqb_tells}
use Rattle.cd_outside.specs.declared.key.Key.{Key}
use Rattle.cd_desk.specs.declared.instance.Instance.{Instance}
use Rattle.cd_desk.specs.Waiting.{Wait, Spent}

pub get_set_same : {A : Type 0} (xs : List A) (d : ℕ) (x y : A) → slice_get xs d ≡ Some x → slice_get (set xs d y) d ≡ Some y
get_set_same [] d x y e = cc
get_set_same (z ∷ xs) zero x y e = refl
get_set_same (z ∷ xs) (suc d) x y e = get_set_same xs d x y e

pub get_set_other : {A : Type 0} (xs : List A) (d j : ℕ) (y : A) → j ≢ d → slice_get (set xs d y) j ≡ slice_get xs j
get_set_other [] d j y ne = refl
get_set_other (z ∷ xs) zero zero y ne = absurd (ne refl)
get_set_other (z ∷ xs) zero (suc j) y ne = refl
get_set_other (z ∷ xs) (suc d) zero y ne = refl
get_set_other (z ∷ xs) (suc d) (suc j) y ne = get_set_other xs d j y (λ e. ne (ap suc e))

-- behind an instance that is made the others wait on
pub wait_on : (n : ℕ) (parts parts' : List Instance) (a : Instance) (keys : List (List Key)) → parts' ≡ set parts n a → Wait n parts keys → Wait (n + 1) parts' keys
wait_on n parts parts' a keys e w i b there le =
    let ne : i ≢ n = λ (same : i ≡ n). omega arith in
    w i b (sym (get_set_other parts n i a ne) ∙ (ap (λ z. slice_get z i) (sym e) ∙ there)) (omega arith)

-- the instances that wait stay where another one changes
pub still_wait : (n i : ℕ) (parts parts' : List Instance) (a : Instance) (keys : List (List Key)) → i < n → parts' ≡ set parts i a → Wait n parts keys → Wait n parts' keys
still_wait n i parts parts' a keys lt e w j b there le =
    let ne : j ≢ i = λ (same : j ≡ i). omega arith in
    w j b (sym (get_set_other parts i j a ne) ∙ (ap (λ z. slice_get z j) (sym e) ∙ there)) le

-- those that hold nothing stay where one after them is opened
pub spent_on : (n m : ℕ) (parts : List Instance) (keys : List (List Key)) → n ≤ m → Wait n parts keys → Spent m parts
spent_on n m parts keys le w i a there from = (w i a there (omega (arith, le, from))).1

-- one more holds nothing
pub spent_more : (n m : ℕ) (parts parts' : List Instance) (a : Instance) → m ≡ n + 1 → n < length parts → parts' ≡ set parts n a → a.leases.items ≡ [] → Spent m parts → Spent n parts'
spent_more n m parts parts' a next lt e none s i b there le = ⊎_elim
    (λ q. ap (λ (z : Instance). z.leases.items) (same_there q.1) ∙ none)
    (λ q. s i b (sym (get_set_other parts n i a q.1) ∙ (ap (λ z. slice_get z i) (sym e) ∙ there)) (after_that q.1))
    (eqb_tells i n)
  where
    at : (xs : List Instance) (k : ℕ) → k < length xs → slice_get (set xs k a) k ≡ Some a
    at [] k lt = absurd (omega arith)
    at (x ∷ xs) zero lt = refl
    at (x ∷ xs) (suc k) lt = at xs k (omega arith)

    same_there : i ≡ n → b ≡ a
    same_there same = let got : Some b ≡ Some a = sym there ∙ (ap (λ z. slice_get z i) e ∙ (ap (slice_get (set parts n a)) same ∙ at parts n lt)) in cc

    after_that : i ≢ n → m ≤ i
    after_that ne = grind (arith, next, le)

-- where all hold nothing
pub spent_all : (parts : List Instance) → Spent 0 parts → (k : ℕ) (d : Instance) → k < length parts → (get_or parts k d).leases.items ≡ []
spent_all [] s k d lt = absurd (omega arith)
spent_all (a ∷ parts) s zero d lt = s 0 a refl (omega arith)
spent_all (a ∷ parts) s (suc k) d lt = spent_all parts (λ i b there le. s (suc i) b there (omega arith)) k d (omega arith)

pub some_is : {A : Type 0} (x y : A) → Some x ≡ Some y → x ≡ y
some_is x y e = cc

pub some_none : {A : Type 0} (x : A) → Some x ≡ None → false ≡ true
some_none x e = cc

pub same_at : {A : Type 0} (xs : List A) (d : ℕ) (x y : A) → slice_get xs d ≡ Some x → slice_get xs d ≡ Some y → x ≡ y
same_at xs d x y e f = let g : Some x ≡ Some y = sym e ∙ f in cc

pub get_last : {A : Type 0} (xs ys : List A) (n : ℕ) (y : A) → ys ≡ xs ++ y ∷ [] → n ≡ length xs → slice_get ys n ≡ Some y
get_last xs ys n y e at = ap (slice_get ys) at ∙ (ap (λ z. slice_get z (length xs)) e ∙ last xs y)
  where
    last : {A : Type 0} (xs : List A) (y : A) → slice_get (xs ++ y ∷ []) (length xs) ≡ Some y
    last [] y = refl
    last (x ∷ xs) y = last xs y
