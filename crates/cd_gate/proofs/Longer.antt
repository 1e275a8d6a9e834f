-- Of two beginnings of one history the longer.
use Rattle.std.proofs.Common.{◌≡◌, ℕ, List, [], ◌∷◌, ◌++◌, length, refl, sym, ap, ◌∙◌, arith, length-append}
use Rattle.std.proofs.lemmas.List.{append-nil}
use mathlib.Core.List.{IsPrefix}
use Rattle.cd_legal.specs.declared.entry.Signed.{Signed}
use Rattle.cd_legal.specs.Entry.{mine}
use Rattle.cd_legal.specs.Laws.{core_at}
use Rattle.cd_legal.proofs.Cores.{core-append}
use Rattle.cd_legal.proofs.Logs.{mine-append}
use Rattle.cd_gate.specs.Steps.{longer}

pub prefix_self : {A : Type 0} (xs : List A) → IsPrefix xs xs
prefix_self xs = ([], append-nil xs)

-- the first begins it
pub longer_first : (xs ys : List Signed) → IsPrefix xs (longer xs ys)
longer_first [] ys = (ys, refl)
longer_first (x ∷ xs) [] = ([], append-nil (x ∷ xs))
longer_first (x ∷ xs) (y ∷ ys) = let h = longer_first xs ys in (h.0, ap (λ (l : List Signed). x ∷ l) h.1)

-- so does the second
pub longer_second : (xs ys zs : List Signed) → IsPrefix xs zs → IsPrefix ys zs → IsPrefix ys (longer xs ys)
longer_second [] ys zs p q = ([], append-nil ys)
longer_second (x ∷ xs) [] zs p q = (x ∷ xs, refl)
longer_second (x ∷ xs) (y ∷ ys) [] p q = absurd (let h : x ∷ (xs ++ p.0) ≡ [] = p.1 in cc)
longer_second (x ∷ xs) (y ∷ ys) (z ∷ zs) p q =
    let e : x ∷ (xs ++ p.0) ≡ z ∷ zs = p.1 in
    let f : y ∷ (ys ++ q.0) ≡ z ∷ zs = q.1 in
    let heads : y ≡ x = cc in
    let h = longer_second xs ys zs (p.0, cc) (q.0, cc) in
    (h.0, ap (λ (l : List Signed). y ∷ l) h.1 ∙ ap (λ (s : Signed). s ∷ longer xs ys) heads)

-- it begins the history
pub longer_whole : (xs ys zs : List Signed) → IsPrefix xs zs → IsPrefix ys zs → IsPrefix (longer xs ys) zs
longer_whole [] ys zs p q = q
longer_whole (x ∷ xs) [] zs p q = p
longer_whole (x ∷ xs) (y ∷ ys) [] p q = absurd (let h : x ∷ (xs ++ p.0) ≡ [] = p.1 in cc)
longer_whole (x ∷ xs) (y ∷ ys) (z ∷ zs) p q =
    let e : x ∷ (xs ++ p.0) ≡ z ∷ zs = p.1 in
    let f : y ∷ (ys ++ q.0) ≡ z ∷ zs = q.1 in
    let heads : x ≡ z = cc in
    let h = longer_whole xs ys zs (p.0, cc) (q.0, cc) in
    (h.0, ap (λ (l : List Signed). x ∷ l) h.1 ∙ ap (λ (s : Signed). s ∷ zs) heads)

-- of a list and its beginning it is the list
pub longer_of : (xs ys : List Signed) → IsPrefix ys xs → longer xs ys ≡ xs
longer_of [] [] p = refl
longer_of [] (y ∷ ys) p = absurd (let h : y ∷ (ys ++ p.0) ≡ [] = p.1 in cc)
longer_of (x ∷ xs) [] p = refl
longer_of (x ∷ xs) (y ∷ ys) p =
    let e : y ∷ (ys ++ p.0) ≡ x ∷ xs = p.1 in
    ap (λ (l : List Signed). x ∷ l) (longer_of xs ys (p.0, cc))

no_rest : {A : Type 0} (xs a b : List A) → (xs ++ a) ++ b ≡ xs → a ≡ []
no_rest xs [] b e = refl
no_rest xs (x ∷ a) b e = let n = ap length e in let l = length-append (xs ++ x ∷ a) b in let m = length-append xs (x ∷ a) in absurd (omega arith)

-- between two beginnings with the same entries of one number there is none of it
pub between : (k : ℕ) (xs ys zs m : List Signed) → IsPrefix xs ys → IsPrefix ys zs → mine k xs ≡ m → mine k zs ≡ m → mine k ys ≡ m
between k xs ys zs m p q low high =
    let first : mine k ys ≡ m ++ mine k p.0 = ap (mine k) (sym p.1) ∙ (mine-append k xs p.0 ∙ ap (λ (l : List Signed). l ++ mine k p.0) low) in
    let whole : (m ++ mine k p.0) ++ mine k q.0 ≡ m = ap (λ (l : List Signed). l ++ mine k q.0) (sym first) ∙ (sym (mine-append k ys q.0) ∙ (ap (mine k) q.1 ∙ high)) in
    first ∙ (ap (λ (l : List Signed). m ++ l) (no_rest m (mine k p.0) (mine k q.0) whole) ∙ append-nil m)

empty_front : {A : Type 0} (xs ys : List A) → xs ++ ys ≡ [] → xs ≡ []
empty_front [] ys e = refl
empty_front (x ∷ xs) ys e = absurd (let h : x ∷ (xs ++ ys) ≡ [] = e in cc)

-- a beginning of a history has no entry of a number that has none in the whole
pub none_before : (k : ℕ) (xs log : List Signed) → IsPrefix xs log → mine k log ≡ [] → mine k xs ≡ []
none_before k xs log p none = empty_front (mine k xs) (mine k p.0) (sym (mine-append k xs p.0) ∙ (ap (mine k) p.1 ∙ none))

cut : (xs a b : List Signed) → (xs ++ a) ++ b ≡ xs → a ≡ []
cut xs [] b e = refl
cut xs (x ∷ a) b e = let n = ap length e in let l = length-append (xs ++ x ∷ a) b in let k = length-append xs (x ∷ a) in absurd (omega arith)

-- between two histories that differ in Begin and Finish alone there is none that differs in more
pub core_between : (xs ys zs : List Signed) → IsPrefix xs ys → IsPrefix ys zs → core_at xs ≡ core_at zs → core_at ys ≡ core_at zs
core_between xs ys zs p q same =
    let ys_is : core_at ys ≡ core_at xs ++ core_at p.0 = ap core_at (sym p.1) ∙ core-append xs p.0 in
    let zs_is : core_at zs ≡ (core_at xs ++ core_at p.0) ++ core_at q.0 = ap core_at (sym q.1) ∙ (core-append ys q.0 ∙ ap (λ (l : List Signed). l ++ core_at q.0) ys_is) in
    let none : core_at p.0 ≡ [] = cut (core_at xs) (core_at p.0) (core_at q.0) (sym zs_is ∙ sym same) in
    ys_is ∙ (ap (λ (l : List Signed). core_at xs ++ l) none ∙ (append-nil (core_at xs) ∙ same))
