-- Part of the main theorem.
-- Changes of fields.
use Rattle.std.specs.Prelude.{ℕ, not, List, ◌++◌, map, filter, fold}
use Rattle.cd_wire.specs.Fields.{is_named}
use Rattle.cd_wire.specs.declared.fields.Field.{Field}
use Rattle.cd_handlers.specs.declared.fields.FilledField.{FilledField}

-- the fields of one name with these values
abbrev pub with_values : List ℕ → List (List ℕ) → List Field
with_values name values = map (λ value. record { name = name; value = value }) values

-- the fields with further ones behind them
unfoldable pub added : List FilledField → List Field → List Field
added changes fields = fold (λ now change. now ++ with_values change.name change.values) fields changes

-- the fields of other names
abbrev pub without : List ℕ → List Field → List Field
without name fields = filter (λ field. not (is_named name field)) fields

-- one field after another gets the values in place of its own
unfoldable pub replaced : List FilledField → List Field → List Field
replaced changes fields = fold (λ now change. without change.name now ++ with_values change.name change.values) fields changes
