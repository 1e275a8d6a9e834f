-- What comes of pieces.
use Rattle.std.proofs.Common.{◌≡◌, ◌++◌, ◌∙◌, ℕ, zero, suc, List, [], ◌∷◌, take, drop, Option, None, Some, refl, sym, ap, append-nil}
use Rattle.std.specs.Io.KnownBytes.{Keeps, Appends, Consumes}
use Rattle.std.proofs.lemmas.List.{append_assoc, take-append-drop}
use Rattle.cd_text.specs.Steps.{joined}
use Rattle.cd_outside.specs.Pieces.{not_empty, first_piece, left_after}

joined_some : (ps : List (List ℕ)) → joined (not_empty ps) ≡ joined ps
joined_some [] = refl
joined_some ([] ∷ ps) = joined_some ps
joined_some ((b ∷ bs) ∷ ps) = ap (λ (xs : List ℕ). (b ∷ bs) ++ xs) (joined_some ps)

front : (k : ℕ) (ps : List (List ℕ)) → joined ps ≡ take k (first_piece ps) ++ joined (left_after k ps)
front zero [] = refl
front (suc k) [] = refl
front k (p ∷ ps) =
    let all : take k p ++ joined (drop k p ∷ ps) ≡ p ++ joined ps = sym (append_assoc (take k p) (drop k p) (joined ps)) ∙ ap (λ (x : List ℕ). x ++ joined ps) (take-append-drop k p) in
    sym (ap (λ (x : List ℕ). take k p ++ x) (joined_some (drop k p ∷ ps)) ∙ all)

pub comes : (k : ℕ) (into : List ℕ) (before now : List (List ℕ)) → take k into ≡ take k (first_piece before) → now ≡ left_after k before → joined before ≡ take k into ++ joined now
comes k into before now bytes left = front k before ∙ ap (λ (x : List ℕ). x ++ joined (left_after k before)) (sym bytes) ∙ ap (λ (ps : List (List ℕ)). take k into ++ joined ps) (sym left)

-- the end
pub ends : (before now : List (List ℕ)) → before ≡ [] → now ≡ left_after 0 before → joined before ≡ joined now
ends before now none left = front 0 before ∙ ap joined (sym left)

pub none_left : (before now : List (List ℕ)) → before ≡ [] → now ≡ left_after 0 before → joined now ≡ []
none_left before now none left = ap joined (left ∙ ap (left_after 0) none)

-- known bytes that stay as they were have lost none, and grown by none
pub kept_consumes : (a b : Option (List ℕ)) → Keeps a b → Consumes a b []
kept_consumes None b kept = tt
kept_consumes (Some x) None kept = kept
kept_consumes (Some x) (Some y) kept = sym kept

pub kept_appends : (a b : Option (List ℕ)) → Keeps a b → Appends a b []
kept_appends None b kept = tt
kept_appends (Some x) None kept = kept
kept_appends (Some x) (Some y) kept = kept ∙ sym (append-nil x)
