-- Parts joined by slashes, one more at a time.
use Rattle.std.proofs.Common.{◌≡◌, ℕ, ◌<◌, ◌+◌, List, [], ◌∷◌, ◌++◌, length, get_or, take, refl, sym, ap, ◌∙◌, append_assoc, ne_eqb, arith}
use Rattle.std.specs.Prelude.{◌==◌, if◌then◌else◌}
use Rattle.std.specs.List.{join_with_byte}
use Rattle.std.proofs.lemmas.List.{take_more, length-take}

-- a slash, unless nothing stands in front
abbrev pub behind_slash : ℕ → List ℕ → List ℕ
behind_slash before part = if before == 0 then part else 47 ∷ part

behind_slash-later : (before : ℕ) (part : List ℕ) → 0 < before → behind_slash before part ≡ 47 ∷ part
behind_slash-later before part some = ap (λ b. if b then part else 47 ∷ part) (ne_eqb before 0 (λ e. omega arith))

grows : (parts : List (List ℕ)) (part : List ℕ) → join_with_byte 47 (parts ++ part ∷ []) ≡ join_with_byte 47 parts ++ behind_slash (length parts) part
grows [] part = refl
grows (x ∷ []) part = refl
grows (x ∷ y ∷ rest) part = ap (λ r. x ++ (47 ∷ r)) (grows (y ∷ rest) part)
    ∙ ap (λ r. x ++ (47 ∷ (join_with_byte 47 (y ∷ rest) ++ r))) (behind_slash-later (length (y ∷ rest)) part (omega arith)) ∙ sym (append_assoc x (47 ∷ join_with_byte 47 (y ∷ rest)) (47 ∷ part))
    ∙ ap (λ r. join_with_byte 47 (x ∷ y ∷ rest) ++ r) (sym (behind_slash-later (length (x ∷ y ∷ rest)) part (omega arith)))

pub one_more : (parts : List (List ℕ)) (place : ℕ) (part : List ℕ) → place < length parts → part ≡ get_or parts place part
    → join_with_byte 47 (take (place + 1) parts) ≡ join_with_byte 47 (take place parts) ++ behind_slash place part
one_more parts place part within is =
    ap (join_with_byte 47) (take_more parts place part within) ∙ ap (λ p. join_with_byte 47 (take place parts ++ p ∷ [])) (sym is) ∙ grows (take place parts) part
    ∙ ap (λ n. join_with_byte 47 (take place parts) ++ behind_slash n part) (omega (arith, length-take place parts))
