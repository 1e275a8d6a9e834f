-- Part of the main theorem.
-- Fields by their names.
use Rattle.std.specs.Prelude.{◌≡◌, ℕ, Bool, List, [], ◌∷◌, map, filter}
use Rattle.std.specs.Str.{bytes_eq}
use Rattle.cd_wire.specs.declared.fields.Field.{Field}
use Rattle.cd_wire.specs.declared.marks.Found.{Found}
use Rattle.cd_wire.specs.declared.marks.Found.TheVariants.{Nothing, One, Several}

-- the field has that name
abbrev pub is_named : List ℕ → Field → Bool
is_named name field = bytes_eq field.name name

-- the values of the fields of that name, in their order
abbrev pub values : List ℕ → List Field → List (List ℕ)
values name fields = map (λ field. field.value) (filter (is_named name) fields)

-- what was found is what these values are: none, one, or two and more
abbrev pub IsFound : Found → List (List ℕ) → Type 0
IsFound Nothing values = values ≡ []
IsFound (One value) values = values ≡ value.now ∷ []
IsFound Several values =
    (first : List ℕ) × (second : List ℕ) × (more : List (List ℕ)) × (values ≡ first ∷ (second ∷ more))
