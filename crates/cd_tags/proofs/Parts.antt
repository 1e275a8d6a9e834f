-- Parts that are written one after another, each behind a slash unless it is the first.
use Rattle.std.proofs.Common.{◌≡◌, ℕ, ◌+◌, ◌<◌, List, [], ◌∷◌, ◌++◌, Bool, true, false, map, length, get_or, drop, refl, sym, ap, ◌∙◌, append_assoc, append-nil}
use Rattle.std.specs.Prelude.{if◌then◌else◌}
use Rattle.std.specs.List.{join_with_byte}
use Rattle.std.proofs.lemmas.List.{drop_more}
use Rattle.cd_tags.specs.Encoding.{encoded, encoded_parts}

abbrev pub slash_if : Bool → List ℕ
slash_if later = if later then 47 ∷ [] else []

-- what is left to write
abbrev pub path_text : Bool → List (List ℕ) → List ℕ
path_text later [] = []
path_text later (part ∷ parts) = slash_if later ++ (encoded part ++ path_text true parts)

joined : (first : List ℕ) (parts : List (List ℕ)) → first ++ path_text true parts ≡ join_with_byte 47 (first ∷ map encoded parts)
joined first [] = append-nil first
joined first (part ∷ parts) = ap (λ rest. first ++ (47 ∷ rest)) (joined (encoded part) parts)

pub all_joined : (parts : List (List ℕ)) → path_text false parts ≡ encoded_parts parts
all_joined [] = refl
all_joined (part ∷ parts) = joined (encoded part) parts

regroup : (o a b c : List ℕ) → ((o ++ a) ++ b) ++ c ≡ o ++ (a ++ (b ++ c))
regroup o a b c = simp append_assoc

-- one more is written
pub one_written : (before out : List ℕ) (later : Bool) (parts : List (List ℕ)) (i : ℕ) (part : List ℕ) → i < length parts → part ≡ get_or parts i part
    → out ≡ (before ++ slash_if later) ++ encoded part → out ++ path_text true (drop (i + 1) parts) ≡ before ++ path_text later (drop i parts)
one_written before out later parts i part within is e =
    ap (λ o. o ++ path_text true (drop (i + 1) parts)) e ∙ regroup before (slash_if later) (encoded part) (path_text true (drop (i + 1) parts))
    ∙ ap (λ ps. before ++ path_text later ps) (sym (drop_more parts i part within ∙ ap (λ y. y ∷ drop (i + 1) parts) (sym is)))
