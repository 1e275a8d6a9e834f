-- What is left of pieces, where one is passed over or read.
use Rattle.std.proofs.Common.{◌≡◌, ◌≤◌, ◌<◌, ◌+◌, ◌∙◌, ℕ, zero, suc, List, [], ◌∷◌, ◌++◌, length, take, drop, refl, sym, ap, arith, Some}
use Rattle.std.specs.Prelude.{slice_get}
use Rattle.std.proofs.lemmas.List.{drop-drop, drop_all, length-drop, append_assoc, take-append-drop}
use Rattle.cd_text.specs.Steps.{joined}
use Rattle.cd_outside.specs.Pieces.{not_empty, first_piece, cut_first, left_after}
use Rattle.cd_outside.specs.Places.{left_of, piece_at}

pub head_at : (ps : List (List ℕ)) (n : ℕ) (p : List ℕ) → slice_get ps n ≡ Some p → piece_at ps n ≡ p
head_at [] n p is = cc
head_at (q ∷ ps) zero p is = cc
head_at (q ∷ ps) (suc n) p is = head_at ps n p is

drop_is : (ps : List (List ℕ)) (n : ℕ) (p : List ℕ) → slice_get ps n ≡ Some p → drop n ps ≡ p ∷ drop (suc n) ps
drop_is [] n p is = cc
drop_is (q ∷ ps) zero p is = let e : q ≡ p = cc in ap (λ (x : List ℕ). x ∷ ps) e
drop_is (q ∷ ps) (suc n) p is = drop_is ps n p is

pub cut_none : (ps : List (List ℕ)) → cut_first 0 ps ≡ ps
cut_none [] = refl
cut_none (p ∷ ps) = refl

at_place : (ps : List (List ℕ)) (n o : ℕ) (p : List ℕ) → slice_get ps n ≡ Some p → left_of ps n o ≡ not_empty (drop o p ∷ drop (suc n) ps)
at_place ps n o p is = ap (left_after o) (drop_is ps n p is)

-- a piece of which nothing is left may be passed over
pub skip_same : (ps : List (List ℕ)) (n o : ℕ) (p : List ℕ) → slice_get ps n ≡ Some p → length p ≡ o → left_of ps (n + 1) 0 ≡ left_of ps n o
skip_same ps n o p is all =
    let next : n + 1 ≡ suc n = omega arith in
    let over : drop o p ≡ [] = drop_all o p (omega (arith, all)) in
    ap (λ m. left_of ps m 0) next ∙ ap not_empty (cut_none (drop (suc n) ps)) ∙ sym (at_place ps n o p is ∙ ap (λ (x : List ℕ). not_empty (x ∷ drop (suc n) ps)) over)

some_first : (x : List ℕ) (xs : List (List ℕ)) → 0 < length x → first_piece (not_empty (x ∷ xs)) ≡ x
some_first [] xs some = absurd (omega (arith, some))
some_first (b ∷ bs) xs some = refl

-- the piece at hand is the first that is left
pub first_left : (ps : List (List ℕ)) (n o : ℕ) (p : List ℕ) → slice_get ps n ≡ Some p → o < length p → first_piece (left_of ps n o) ≡ drop o p
first_left ps n o p is some =
    ap first_piece (at_place ps n o p is) ∙ some_first (drop o p) (drop (suc n) ps) (omega (arith, some, length-drop o p))

pub none_left : (ps : List (List ℕ)) (n o : ℕ) → length ps ≤ n → left_of ps n o ≡ []
none_left ps n o le = ap (left_after o) (drop_all n ps le)

not_empty_twice : (ps : List (List ℕ)) → not_empty (not_empty ps) ≡ not_empty ps
not_empty_twice [] = refl
not_empty_twice ([] ∷ ps) = not_empty_twice ps
not_empty_twice ((b ∷ bs) ∷ ps) = ap (λ xs. (b ∷ bs) ∷ xs) (not_empty_twice ps)

first_aside : (x : List ℕ) (xs : List (List ℕ)) → not_empty (x ∷ not_empty xs) ≡ not_empty (x ∷ xs)
first_aside [] xs = not_empty_twice xs
first_aside (b ∷ bs) xs = ap (λ ys. (b ∷ bs) ∷ ys) (not_empty_twice xs)

some_left : (k : ℕ) (x : List ℕ) (xs : List (List ℕ)) → 0 < length x → left_after k (not_empty (x ∷ xs)) ≡ not_empty (drop k x ∷ xs)
some_left k [] xs some = absurd (omega (arith, some))
some_left k (b ∷ bs) xs some = first_aside (drop k (b ∷ bs)) xs

further : (xs : List (List ℕ)) (o k : ℕ) → (0 < length xs → o < length (first_piece xs)) → left_after (o + k) xs ≡ left_after k (left_after o xs)
further [] o k some = refl
further (p ∷ ps) o k some =
    let below : o < length p = some (omega arith) in
    let there : 0 < length (drop o p) = omega (arith, below, length-drop o p) in
    sym (some_left k (drop o p) ps there ∙ ap (λ (x : List ℕ). not_empty (x ∷ ps)) (drop-drop k o p))

-- the piece at hand is read further
pub read_on : (ps : List (List ℕ)) (n o k : ℕ) → (n < length ps → o < length (piece_at ps n)) → left_of ps n (o + k) ≡ left_after k (left_of ps n o)
read_on ps n o k some = further (drop n ps) o k (λ lt. some (omega (arith, lt, length-drop n ps)))

-- all bytes of the pieces are those that are not empty
pub joined-not_empty : (ps : List (List ℕ)) → joined (not_empty ps) ≡ joined ps
joined-not_empty [] = refl
joined-not_empty ([] ∷ ps) = joined-not_empty ps
joined-not_empty ((b ∷ bs) ∷ ps) = ap (λ xs. (b ∷ bs) ++ xs) (joined-not_empty ps)

-- what is read stands at the front of all bytes
pub read_front : (k : ℕ) (ps : List (List ℕ)) → joined ps ≡ take k (first_piece ps) ++ joined (left_after k ps)
read_front zero [] = refl
read_front (suc k) [] = refl
read_front k (p ∷ ps) =
    let all : take k p ++ joined (drop k p ∷ ps) ≡ p ++ joined ps = sym (append_assoc (take k p) (drop k p) (joined ps)) ∙ ap (λ (x : List ℕ). x ++ joined ps) (take-append-drop k p) in
    sym (ap (λ x. take k p ++ x) (joined-not_empty (drop k p ∷ ps)) ∙ all)
