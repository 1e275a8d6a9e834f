-- Part of the main theorem.
-- Fields by name in settings, with texts for their values.
use Rattle.std.specs.Prelude.{ℕ, codes, Option, Some, None, if◌then◌else◌, List, [], map, Ok, Err}
use Rattle.std.specs.Str.{bytes_eq}
use Rattle.http_header.specs.Token.{lowercase}
use Rattle.http_header.specs.FieldName.{is_field_name}
use Rattle.cd_text.specs.ByKey.{by_key}
use Rattle.cd_text.specs.Steps.{◌▷◌}
use Rattle.cd_module.specs.Faults.{refused}
use Rattle.cd_module.specs.Settings.{Reader, text, list_of, object_of}
use Rattle.cd_module.specs.declared.fault.LoadKind.TheVariants.{BadValue}
use Rattle.cd_handlers.specs.declared.field_values.FieldValues.{FieldValues}
use Rattle.cd_handlers.specs.declared.field_values.FieldList.{FieldList}
use Rattle.cd_handlers.specs.declared.field_values.RequestField.{RequestField}
use Rattle.cd_handlers.specs.declared.field_values.RequestFieldList.{RequestFieldList}

-- a member of that name: the name of a field, which is kept in lower case, and a list of texts
unfoldable pub field_values : List ℕ → Reader FieldValues
field_values name t at =
    if is_field_name name
    then (list_of text t at ▷ λ values. Ok (record { name = lowercase name; values = values }))
    else Err (refused BadValue at)

-- the fields by rising name, and equal names in their order
abbrev pub by_name : List FieldValues → List FieldValues
by_name fields = by_key (λ field. field.name) fields

-- an object of fields, which are read as their names rise as written
unfoldable pub field_list : Reader FieldList
field_list t at = object_of field_values t at ▷ λ fields. Ok (record { fields = by_name fields })

-- no fields where none are given
abbrev pub fields_or_none : Option FieldList → List FieldValues
fields_or_none None = []
fields_or_none (Some list) = list.fields

-- ---- of a request

-- a member of that name, which may not be `host`: that field says whom the request is for
unfoldable pub request_field : List ℕ → Reader RequestField
request_field name t at =
    if bytes_eq (lowercase name) (codes "host") then Err (refused BadValue at)
    else (field_values name t at ▷ λ field. Ok (record { field = field }))

abbrev pub bare : List RequestField → List FieldValues
bare fields = map (λ request. request.field) fields

-- an object of such fields
unfoldable pub request_field_list : Reader RequestFieldList
request_field_list t at = object_of request_field t at ▷ λ fields. Ok (record { fields = by_name (bare fields) })

-- no fields where none are given
abbrev pub request_fields_or_none : Option RequestFieldList → List FieldValues
request_fields_or_none None = []
request_fields_or_none (Some list) = list.fields
