-- The last value of a list, changed in its place.
use Rattle.std.proofs.Common.{◌≡◌, ◌+◌, ◌∙◌, ℕ, zero, suc, List, [], ◌∷◌, length, get_or, set, refl, ap, arith}
use Rattle.std.proofs.lemmas.List.{append-nil}
use Rattle.cd_outside.specs.declared.past.Past.{Past}
use Rattle.cd_outside.specs.declared.past.Connection.{Connection}
use Rattle.cd_outside.specs.Past.{with_last, with_connection, after_put}

with_last_set : {A : Type 0} (f : A → A) (xs : List A) (k : ℕ) (d : A) → k + 1 ≡ length xs → set xs k (f (get_or xs k d)) ≡ with_last f xs
with_last_set f [] k d is = absurd (omega arith)
with_last_set f (x ∷ []) zero d is = refl
with_last_set f (x ∷ []) (suc k) d is = absurd (omega arith)
with_last_set f (x ∷ y ∷ ys) zero d is = absurd (omega arith)
with_last_set f (x ∷ y ∷ ys) (suc k) d is = ap (λ zs. x ∷ zs) (with_last_set f (y ∷ ys) k d (omega arith))

-- the last value, which was read, is written back as f of it
change_last : {A : Type 0} (f : A → A) (xs ys : List A) (k : ℕ) (x y : A) → xs ≡ ys → k + 1 ≡ length xs → x ≡ get_or xs k x → y ≡ f x → set xs k y ≡ with_last f ys
change_last f xs ys k x y same at read is = ap (λ z. set xs k z) (is ∙ ap f read) ∙ with_last_set f xs k x at ∙ ap (with_last f) same

-- the past whose connections were taken out, and put back with the last one changed
pub told_last : (f : Connection → Connection) (past : Past) (out back : List Connection) (k : ℕ) (x y : Connection) → out ≡ past.connections → k + 1 ≡ length out → x ≡ get_or out k x → y ≡ f x → back ≡ set out k y → record past { connections = back } ≡ with_connection f past
told_last f past out back k x y same at read is put =
    ap (λ (all : List Connection). record past { connections = all }) (put ∙ change_last f out past.connections k x y same at read is)

-- a change of the last value takes none away
pub length-with_last : {A : Type 0} (f : A → A) (xs : List A) → length (with_last f xs) ≡ length xs
length-with_last f [] = refl
length-with_last f (x ∷ []) = refl
length-with_last f (x ∷ y ∷ ys) = ap suc (length-with_last f (y ∷ ys))

with_last_same : {A : Type 0} (f : A → A) (xs : List A) → ((x : A) → f x ≡ x) → with_last f xs ≡ xs
with_last_same f [] same = refl
with_last_same f (x ∷ []) same = ap (λ z. z ∷ []) (same x)
with_last_same f (x ∷ y ∷ ys) same = ap (λ zs. x ∷ zs) (with_last_same f (y ∷ ys) same)

-- to put nothing changes nothing
pub put_nothing : (past : Past) → after_put [] past ≡ past
put_nothing past =
    ap (λ (all : List Connection). record past { connections = all })
    (with_last_same _ past.connections (λ one. ap (λ (put : List ℕ). record one { put = put }) (append-nil one.put)))
