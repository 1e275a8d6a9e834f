-- A key and a value, on both sides of an equals sign.
use Rattle.std.proofs.Common.{◌≡◌, ℕ, ◌<◌, List, [], ◌∷◌, length, refl, ap, ◌∙◌}
use Rattle.std.specs.List.{before_first, after_first, position_or_len}
use Rattle.cd_caddyfile.proofs.AddressSteps.{no_place, a_place}
use Rattle.cd_caddyfile.specs.Matchers.{with_value, is_equals}
use Rattle.cd_caddyfile.specs.Sites.{Wanted}
use Rattle.cd_parts.specs.Making.{keys_after}

pub pair_with : (all : List Wanted) (pair name value : List ℕ) → position_or_len is_equals pair < length pair → name ≡ before_first is_equals pair → value ≡ after_first is_equals pair →
    with_value name value all ≡ keys_after all (pair ∷ [])
pair_with all pair name value within name-is value-is =
    rw (a_place is_equals pair within) (ap (λ n. with_value n value all) name-is ∙ ap (λ v. with_value (before_first is_equals pair) v all) value-is)

pub pair_without : (all : List Wanted) (pair : List ℕ) → position_or_len is_equals pair ≡ length pair → all ≡ keys_after all (pair ∷ [])
pair_without all pair none = rw (no_place is_equals pair none) refl
