-- Fields put behind others.
use Rattle.std.proofs.Common.{◌≡◌, ℕ, List, [], ◌∷◌, ◌++◌, append_assoc}
use Rattle.std.proofs.lemmas.List.{map-append}
use Rattle.cd_wire.specs.declared.fields.Field.{Field}
use Rattle.cd_handlers.specs.Fields.{with_values}

-- fields of one name, of which the last one comes by itself
pub with_last : (fields : List Field) (name : List ℕ) (values front : List (List ℕ)) (last : List ℕ)
    → values ≡ front ++ last ∷ []
    → (fields ++ with_values name front) ++ record { name = name; value = last } ∷ [] ≡ fields ++ with_values name values
with_last fields name values front last is =
    rw (is, map-append) (append_assoc fields (with_values name front) _)
