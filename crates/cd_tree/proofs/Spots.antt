-- The texts of parts, one after another.
use Rattle.std.proofs.Common.{◌≡◌, ℕ, List, [], ◌∷◌, ◌++◌, map, ap, sym, ◌∙◌}
use Rattle.std.proofs.lemmas.List.{append_assoc, map-append}
use Rattle.cd_tree.specs.Spot.{part_text}
use Rattle.cd_tree.specs.declared.spot_parts.SpotPart.{SpotPart}

-- one part more
pub one_part : (before : List (List ℕ)) (rest : List SpotPart) (part : SpotPart) → before ++ map part_text (rest ++ part ∷ []) ≡ (before ++ map part_text rest) ++ part_text part ∷ []
one_part before rest part = ap (λ texts. before ++ texts) (map-append part_text rest (part ∷ [])) ∙ sym (append_assoc before (map part_text rest) (part_text part ∷ []))

-- a base and the parts after it
pub all_parts : (base rest : List SpotPart) → map part_text (base ++ rest) ≡ map part_text base ++ map part_text rest
all_parts base rest = map-append part_text base rest
