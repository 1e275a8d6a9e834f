-- Part of the main theorem.
-- The texts of settings, filled in a scene. A handler with a text that is too long is unable to do what it should.
use Rattle.std.specs.Prelude.{ℕ, List, [], ◌∷◌, Result, Ok, Err}
use Rattle.cd_text.specs.Steps.{◌▷◌}
use Rattle.cd_fill.specs.declared.fault.FillFault.{FillFault}
use Rattle.cd_fill.specs.declared.fault.FillFault.TheVariants as fill_fault
use Rattle.cd_fill.specs.declared.scene.Scene.{Scene}
use Rattle.cd_fill.specs.Filling.{fill}
use Rattle.cd_handlers.specs.declared.fault.HandlerFault.{HandlerFault}
use Rattle.cd_handlers.specs.declared.fault.HandlerFault.TheVariants.{Unable, NoMemory}
use Rattle.cd_handlers.specs.declared.field_values.FieldValues.{FieldValues}
use Rattle.cd_handlers.specs.declared.fields.FilledField.{FilledField}

-- the faults of filling as faults of handlers
abbrev pub of_fill : FillFault → HandlerFault
of_fill fill_fault.TooLong = Unable
of_fill fill_fault.NoMemory = NoMemory

-- what was filled, or the handler's fault
abbrev pub or_unable : {A : Type 0} → Result A FillFault → Result A HandlerFault
or_unable (Ok value) = Ok value
or_unable (Err fault) = Err (of_fill fault)

-- a text
unfoldable pub text_filled : Scene → List ℕ → Result (List ℕ) HandlerFault
text_filled x text = or_unable (fill x text)

-- texts, each by itself
unfoldable pub all_filled : Scene → List (List ℕ) → Result (List (List ℕ)) HandlerFault
all_filled x [] = Ok []
all_filled x (text ∷ texts) = text_filled x text ▷ λ value. all_filled x texts ▷ λ values. Ok (value ∷ values)

-- the texts of fields; names are not filled
unfoldable pub fields_filled : Scene → List FieldValues → Result (List FilledField) HandlerFault
fields_filled x [] = Ok []
fields_filled x (field ∷ fields) =
    all_filled x field.values ▷ λ values. fields_filled x fields ▷ λ more.
    Ok (record { name = field.name; values = values } ∷ more)
