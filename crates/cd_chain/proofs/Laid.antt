-- A place that is added has its value over the places before it, and changes none of them.
use Rattle.std.proofs.Common.{◌≡◌, ℕ, zero, suc, ◌+◌, ◌-◌, ◌<◌, ◌≤◌, List, [], ◌∷◌, ◌++◌, length, fold, get_or, take, drop, sym, ap, ◌∙◌, refl, arith, length-append, take-append-drop}
use Rattle.std.proofs.lemmas.Grind.{common_steps}
use Rattle.std.proofs.lemmas.List.Sums.{fold-append}
use Rattle.cd_chain.specs.declared.place.Place.{Place}
use Rattle.cd_chain.specs.Places.{laid}

abbrev one : {A : Type 0} → (List A → Place → A) → List A → Place → List A
one does earlier p = earlier ++ does earlier p ∷ []

-- what was there stays
ones_keep : {A : Type 0} (does : List A → Place → A) (end : A) (places : List Place) (earlier : List A) (n : ℕ) → n < length earlier →
    get_or (fold (one does) earlier places) n end ≡ get_or earlier n end
ones_keep does end [] earlier n within = refl
ones_keep does end (p ∷ places) earlier n within =
    let more : n < length (one does earlier p) = omega (arith, within, length-append earlier (does earlier p ∷ [])) in
    ones_keep does end places (one does earlier p) n more ∙ grind (arith, common_steps)

ones_length : {A : Type 0} (does : List A → Place → A) (places : List Place) (earlier : List A) → length (fold (one does) earlier places) ≡ length earlier + length places
ones_length does [] earlier = omega arith
ones_length does (p ∷ places) earlier = omega (arith, ones_length does places (one does earlier p), length-append earlier (does earlier p ∷ []))

pub length_laid : {A : Type 0} (does : List A → Place → A) (end : A) (places : List Place) → length (laid does end places) ≡ 1 + length places
unfolding laid
length_laid does end places = ones_length does places (end ∷ [])

pub laid_more : {A : Type 0} (does : List A → Place → A) (end : A) (places more : List Place) → laid does end (places ++ more) ≡ fold (one does) (laid does end places) more
unfolding laid
laid_more does end places more = fold-append (one does) (end ∷ []) places more

pub laid_end : {A : Type 0} (does : List A → Place → A) (end : A) (places : List Place) → get_or (laid does end places) 0 end ≡ end
unfolding laid
laid_end does end places = ones_keep does end places (end ∷ []) 0 (omega arith)

pub laid_kept : {A : Type 0} (does : List A → Place → A) (end : A) (places more : List Place) (n : ℕ) → n ≤ length places →
    get_or (laid does end (places ++ more)) n end ≡ get_or (laid does end places) n end
laid_kept does end places more n within =
    ap (λ all. get_or all n end) (laid_more does end places more) ∙ ones_keep does end more (laid does end places) n (omega (arith, within, length_laid does end places))

pub laid_new : {A : Type 0} (does : List A → Place → A) (end : A) (places : List Place) (p : Place) →
    get_or (laid does end (places ++ p ∷ [])) (suc (length places)) end ≡ does (laid does end places) p
laid_new does end places p =
    let is : suc (length places) ≡ length (laid does end places) = omega (arith, length_laid does end places) in
    ap (λ all. get_or all (suc (length places)) end) (laid_more does end places (p ∷ [])) ∙ (rw is (grind (arith, common_steps)))

-- a list in three parts
parted : {A : Type 0} (xs : List A) (i : ℕ) (x : A) → i < length xs → x ≡ get_or xs i x → xs ≡ (take i xs ++ x ∷ []) ++ drop (suc i) xs
parted [] i x within is = grind arith
parted (y ∷ xs) zero x within is = ap (λ z. z ∷ xs) (sym is)
parted (y ∷ xs) (suc i) x within is = ap (λ zs. y ∷ zs) (parted xs i x (omega (arith, within)) is)

taken_length : {A : Type 0} (xs : List A) (i : ℕ) → i ≤ length xs → length (take i xs) ≡ i
taken_length xs i within = grind (arith, common_steps)

pub laid_place : {A : Type 0} (does : List A → Place → A) (end : A) (places : List Place) (i : ℕ) (p : Place) → i < length places → p ≡ get_or places i p →
    get_or (laid does end places) (suc i) end ≡ does (laid does end (take i places)) p
laid_place does end places i p within is =
    let size : length (take i places) ≡ i = taken_length places i (omega (arith, within)) in
    let fits : suc i ≤ length (take i places ++ p ∷ []) = omega (arith, size, length-append (take i places) (p ∷ [])) in
    ap (λ all. get_or (laid does end all) (suc i) end) (parted places i p within is)
    ∙ laid_kept does end (take i places ++ p ∷ []) (drop (suc i) places) (suc i) fits
    ∙ ap (λ k. get_or (laid does end (take i places ++ p ∷ [])) (suc k) end) (sym size)
    ∙ laid_new does end (take i places) p

pub laid_nothing : {A : Type 0} (does : List A → Place → A) (end : A) (places : List Place) (n : ℕ) → length places < n → get_or (laid does end places) n end ≡ end
laid_nothing does end places n beyond = let size : length (laid does end places) ≤ n = omega (arith, beyond, length_laid does end places) in grind (arith, common_steps)

pub laid_is : {A : Type 0} (does : List A → Place → A) (end : A) (places : List Place) (n : ℕ) (p : Place) → 0 < n → n ≤ length places → p ≡ get_or places (n - 1) p →
    get_or (laid does end places) n end ≡ does (laid does end (take (n - 1) places)) p
laid_is does end places n p some within is =
    let e : n ≡ suc (n - 1) = omega (arith, some) in
    ap (λ k. get_or (laid does end places) k end) e ∙ laid_place does end places (n - 1) p (omega (arith, some, within)) is

pub laid_earlier : {A : Type 0} (does : List A → Place → A) (end : A) (places : List Place) (next n : ℕ) → next < n → n ≤ length places →
    get_or (laid does end places) next end ≡ get_or (laid does end (take (n - 1) places)) next end
laid_earlier does end places next n less within =
    let size : length (take (n - 1) places) ≡ n - 1 = taken_length places (n - 1) (omega (arith, within)) in
    ap (λ all. get_or (laid does end all) next end) (sym (take-append-drop (n - 1) places)) ∙ laid_kept does end (take (n - 1) places) (drop (n - 1) places) next (omega (arith, size, less))

pub laid_later : {A : Type 0} (does : List A → Place → A) (end : A) (places : List Place) (next n : ℕ) → n ≤ next → 0 < n → n ≤ length places →
    get_or (laid does end places) 0 end ≡ get_or (laid does end (take (n - 1) places)) next end
laid_later does end places next n more some within =
    let size : length (take (n - 1) places) ≡ n - 1 = taken_length places (n - 1) (omega (arith, within)) in
    laid_end does end places ∙ sym (laid_nothing does end (take (n - 1) places) next (omega (arith, size, more, some)))

pub laid_zero : {A : Type 0} (does : List A → Place → A) (end : A) (places : List Place) (n : ℕ) → n ≡ 0 → get_or (laid does end places) n end ≡ end
laid_zero does end places n is = ap (λ k. get_or (laid does end places) k end) is ∙ laid_end does end places
