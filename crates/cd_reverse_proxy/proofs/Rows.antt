-- Values that are moved from one list into another.
use Rattle.std.proofs.Common.{◌≡◌, ◌<◌, ℕ, zero, suc, ◌+◌, min, List, [], ◌∷◌, ◌++◌, length, map, drop, get_or, sum_by, sym, ap, ◌∙◌, arith}
use Rattle.std.specs.Prelude.{All}
use Rattle.std.proofs.lemmas.List.{append_assoc, length-append, length-map, map-append}
use Rattle.std.proofs.lemmas.List.Sums.{sum_by-cons}

pub first-and-rest : {A : Type 0} (xs rest : List A) (x : A) → 0 < length xs → x ≡ get_or xs 0 x → rest ≡ drop 1 xs → xs ≡ x ∷ rest
first-and-rest [] rest x pos is that = absurd (omega (arith, pos))
first-and-rest (y ∷ ys) rest x pos is that = sym (ap (λ z. z ∷ rest) is ∙ ap (λ l. y ∷ l) that)

pub moved-in : {S L : Type 0} (f : S → L) (ss more : List S) (s : S) (ls rest all : List L) → more ≡ ss ++ s ∷ [] → ls ≡ f s ∷ rest → map f ss ++ ls ≡ all → map f more ++ rest ≡ all
moved-in f ss more s ls rest all is that whole =
    ap (λ l. map f l ++ rest) is ∙ ap (λ l. l ++ rest) (map-append f ss (s ∷ [])) ∙ append_assoc (map f ss) (f s ∷ []) rest ∙ ap (λ l. map f ss ++ l) (sym that) ∙ whole

pub moved-out : {S L : Type 0} (f : S → L) (ls more : List L) (l : L) (ss rest : List S) (s : S) (all : List L) → more ≡ ls ++ l ∷ [] → l ≡ f s → ss ≡ s ∷ rest → ls ++ map f ss ≡ all → more ++ map f rest ≡ all
moved-out f ls more l ss rest s all is same that whole =
    ap (λ xs. xs ++ map f rest) is ∙ append_assoc ls (l ∷ []) (map f rest) ∙ ap (λ x. ls ++ (x ∷ map f rest)) same ∙ ap (λ xs. ls ++ map f xs) (sym that) ∙ whole

pub counted : {S : Type 0} (f : S → ℕ) (ss rest : List S) (s : S) (c a n all : ℕ) → n ≡ min (a + f s) c → ss ≡ s ∷ rest → min (a + sum_by f ss) c ≡ all → min (n + sum_by f rest) c ≡ all
counted f ss rest s c a n all is that whole =
    let sum : sum_by f ss ≡ f s + sum_by f rest = ap (sum_by f) that ∙ sum_by-cons f s rest in
    (omega (arith, is, sum)) ∙ whole

-- the counts of both, where one was moved
pub moved-length : {S L : Type 0} (ss more : List S) (s : S) (ls rest : List L) (l : L) → more ≡ ss ++ s ∷ [] → ls ≡ l ∷ rest → length more + length rest ≡ length ss + length ls
moved-length ss more s ls rest l is that = let a = ap length is in let b = length-append ss (s ∷ []) in let e = ap length that in omega (arith, a, b, e)

-- what holds of what each element has
pub from-map : {A B : Type 0} (f : A → B) (P : B → Type 0) (xs : List A) → All P (map f xs) → All (λ x. P (f x)) xs
from-map f P [] all j d lt = absurd (omega (arith, lt))
from-map f P (x ∷ xs) all zero d lt = all zero (f d) (omega arith)
from-map f P (x ∷ xs) all (suc j) d lt = from-map f P xs (λ k e lower. all (suc k) e (omega (arith, lower))) j d (omega (arith, lt))

-- what was taken out of slots is as much as was put in
pub as-many : {A X Y : Type 0} (f : A → X) (h : A → Y) (old new : List A) (xs : List X) (ys : List Y) → xs ≡ map f new → length new ≡ length old → map h old ≡ ys → length xs ≡ length ys
as-many f h old new xs ys is same was = ap length is ∙ (length-map new f ∙ (same ∙ (sym (length-map old h) ∙ ap length was)))
