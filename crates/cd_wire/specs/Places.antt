-- Part of the main theorem.
-- For the models of types and the clauses of private functions: fields that lie in bytes, each at its place.
use Rattle.std.specs.Prelude.{⊤, ◌≡◌, ℕ, ◌+◌, ◌≤◌, List, [], ◌∷◌, ◌++◌, length, map, slice_range}
use Rattle.cd_wire.specs.declared.place.Place.{Place}
use Rattle.cd_wire.specs.declared.fields.Field.{Field}

-- the place lies in so many bytes
abbrev pub IsPlaceIn : ℕ → Place → Type 0
IsPlaceIn count place = (place.start ≤ place.middle) × (place.middle ≤ place.end) × (place.end ≤ count)

-- so does each of the places
abbrev pub ArePlacesIn : ℕ → List Place → Type 0
ArePlacesIn count [] = ⊤
ArePlacesIn count (place ∷ places) = IsPlaceIn count place × ArePlacesIn count places

-- the field whose name and value lie there
abbrev pub field_at : List ℕ → Place → Field
field_at bytes place = record {
  name = slice_range bytes place.start place.middle;
  value = slice_range bytes place.middle place.end;
}

-- the fields that lie at the places
abbrev pub fields_at : List ℕ → List Place → List Field
fields_at bytes places = map (field_at bytes) places

-- two parts were written behind bytes, and lie at this place of what there is now
pub record IsWritten (old first second new : List ℕ) (place : Place) : Type 0 where
  pub is : new ≡ old ++ (first ++ second)
  pub start : place.start ≡ length old
  pub middle : place.middle ≡ length old + length first
  pub end : place.end ≡ length new

-- bytes were written behind others, and these fields lie at the places
pub record HasFields (old new : List ℕ) (places : List Place) (fields : List Field) : Type 0 where
  pub more : List ℕ
  pub is : new ≡ old ++ more
  pub within : ArePlacesIn (length new) places
  pub are : fields_at new places ≡ fields
