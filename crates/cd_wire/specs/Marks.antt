-- For the clauses of private functions: what the fields of a head say of its request.
use Rattle.std.specs.Prelude.{◌≡◌, ℕ, ◌||◌, ◌⊎◌, List, [], ◌∷◌, ◌++◌, codes, if◌then◌else◌}
use Rattle.std.specs.List.{list_any}
use Rattle.std.specs.Str.{bytes_eq}
use Rattle.cd_wire.specs.declared.fields.Field.{Field}
use Rattle.cd_wire.specs.declared.marks.Marks.{Marks}
use Rattle.cd_wire.specs.Fields.{values, IsFound}
use Rattle.cd_wire.specs.Framing.{is_closing}

-- what was found is what the fields have
pub record AreMarks (fields : List Field) (marks : Marks) : Type 0 where
  pub host : IsFound marks.host (values (codes "host") fields)
  pub coding : IsFound marks.coding (values (codes "transfer-encoding") fields)
  pub length : IsFound marks.length (values (codes "content-length") fields)
  pub closing : marks.closing ≡ list_any is_closing fields

-- a name that is looked for
abbrev pub IsWanted : List ℕ → Type 0
IsWanted name = (name ≡ codes "host") ⊎ (name ≡ codes "connection") ⊎ (name ≡ codes "transfer-encoding") ⊎ (name ≡ codes "content-length")

-- what a field of this name and value adds to the values of a name that is looked for
abbrev pub noted_value : List ℕ → List ℕ → List ℕ → List (List ℕ)
noted_value wanted name value = if bytes_eq name wanted then value ∷ [] else []

-- what was found, and then a field of this name and value
pub record IsMarked (old : Marks) (name value : List ℕ) (new : Marks) : Type 0 where
  pub host : (values : List (List ℕ)) → IsFound old.host values
      → IsFound new.host (values ++ noted_value (codes "host") name value)
  pub coding : (values : List (List ℕ)) → IsFound old.coding values
      → IsFound new.coding (values ++ noted_value (codes "transfer-encoding") name value)
  pub length : (values : List (List ℕ)) → IsFound old.length values
      → IsFound new.length (values ++ noted_value (codes "content-length") name value)
  pub closing : new.closing ≡ (old.closing || is_closing (record { name = name; value = value }))
