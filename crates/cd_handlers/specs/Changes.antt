-- Part of the main theorem.
-- Changes of the fields of a request or of an answer.
use Rattle.std.specs.Prelude.{◌==◌, ◌||◌, ◌&&◌, not, Bool, false, if◌then◌else◌, List, length, codes, filter, Result, Ok}
use Rattle.std.specs.List.{list_any}
use Rattle.cd_text.specs.Steps.{◌▷◌}
use Rattle.cd_wire.specs.Fields.{is_named}
use Rattle.cd_wire.specs.declared.fields.Field.{Field}
use Rattle.cd_module.specs.Patterns.{fits_in_any_case}
use Rattle.cd_module.specs.declared.pattern.Pattern.{Pattern}
use Rattle.cd_module.specs.declared.pattern.Pattern.TheVariants.{Exact, Prefix, Suffix, Part}
use Rattle.cd_fill.specs.declared.scene.Scene.{Scene}
use Rattle.cd_handlers.specs.declared.changes.Changes.{Changes}
use Rattle.cd_handlers.specs.declared.changes.FilledChanges.{FilledChanges}
use Rattle.cd_handlers.specs.declared.changes.FilledValues.{FilledValues}
use Rattle.cd_handlers.specs.declared.changes.Side.{Side}
use Rattle.cd_handlers.specs.declared.changes.Side.TheVariants.{Request, Answer}
use Rattle.cd_handlers.specs.declared.fault.HandlerFault.{HandlerFault}
use Rattle.cd_handlers.specs.Fields.{added, replaced}
use Rattle.cd_handlers.specs.Filling.{fields_filled}

-- `*` alone
abbrev pub is_star : Pattern → Bool
is_star (Exact all) = false
is_star (Prefix front) = false
is_star (Suffix end) = length end == 0
is_star (Part part) = false

-- no deletion removes the field `host` of a request
abbrev pub stays : Side → Field → Bool
stays Request field = is_named (codes "host") field
stays Answer field = false

-- where `*` is listed, all fields are removed first
abbrev pub cleared : Side → List Pattern → List Field → List Field
cleared side delete fields = if list_any is_star delete then filter (stays side) fields else fields

-- a pattern other than `*`, which the field's name fits in any case
abbrev pub deletes : Field → Pattern → Bool
deletes field pattern = not (is_star pattern) && fits_in_any_case pattern field.name

-- the other deletions come at the end
abbrev pub remaining : Side → List Pattern → List Field → List Field
remaining side delete fields = filter (λ field. stays side field || not (list_any (deletes field) delete)) fields

-- the fields with all changes: `*`, what is added, what is replaced, and the other deletions
unfoldable pub changed_by : Side → FilledValues → List Pattern → List Field → List Field
changed_by side values delete fields =
    remaining side delete (replaced values.set (added values.add (cleared side delete fields)))

-- the fields of an answer with changes that were left for it
abbrev pub changed : FilledChanges → List Field → List Field
changed changes fields = changed_by Answer changes.values changes.delete fields

-- what is added and replaced, filled in a scene
unfoldable pub values_filled : Scene → Changes → Result FilledValues HandlerFault
values_filled x changes =
    fields_filled x changes.add ▷ λ add. fields_filled x changes.set ▷ λ set. Ok (record { add = add; set = set })

-- all changes, filled in a scene; the names that are deleted are not filled
unfoldable pub changes_filled : Scene → Changes → Result FilledChanges HandlerFault
changes_filled x changes = values_filled x changes ▷ λ values. Ok (record { values = values; delete = changes.delete })
