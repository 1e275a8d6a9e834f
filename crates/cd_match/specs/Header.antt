-- Part of the main theorem.
-- The matcher `header`: fields of the request (Caddy, JSON Config Structure, http.matchers.header).
use Rattle.std.specs.Prelude.{ℕ, ◌==◌, not, Bool, if◌then◌else◌, List, [], ◌∷◌, length, Option, Some, None, Ok}
use Rattle.std.specs.List.{list_any, list_all}
use Rattle.cd_text.specs.Steps.{◌▷◌}
use Rattle.cd_tree.specs.Fields.{is_null}
use Rattle.cd_fill.specs.declared.scene.Scene.{Scene}
use Rattle.cd_fill.specs.Values.{header_values}
use Rattle.cd_module.specs.Patterns.{pattern, fits}
use Rattle.cd_module.specs.Settings.{Reader, list_of, object_with_nulls}
use Rattle.cd_module.specs.declared.pattern.Pattern.{Pattern}
use Rattle.cd_match.specs.declared.header.FieldTest.{FieldTest}
use Rattle.cd_match.specs.declared.header.HeaderMatcher.{HeaderMatcher}

-- a member of `header`: null, or a list of patterns
unfoldable pub field_test : List ℕ → Reader FieldTest
field_test name t at =
    if is_null t then Ok (record { name = name; patterns = None })
    else (list_of pattern t at ▷ λ patterns. Ok (record { name = name; patterns = Some patterns }))

-- the settings: an object by name, where null has a meaning
unfoldable pub header_matcher : Reader HeaderMatcher
header_matcher t at = object_with_nulls field_test t at ▷ λ tests. Ok (record { tests = tests })

-- some value fits some pattern, where case counts
abbrev pub some_fits : List Pattern → List (List ℕ) → Bool
some_fits patterns values = list_any (λ value. list_any (λ pattern. fits pattern value) patterns) values

-- null wants no field of the name, an empty list wants one, and a longer list one with a value that fits
abbrev pub values_pass : Option (List Pattern) → List (List ℕ) → Bool
values_pass None values = length values == 0
values_pass (Some []) values = not (length values == 0)
values_pass (Some (first ∷ others)) values = some_fits (first ∷ others) values

-- the values of all fields of the name, which counts in any case
unfoldable pub field_passes : Scene → FieldTest → Bool
field_passes x test = values_pass test.patterns (header_values test.name x.fields)

-- each field passes
abbrev pub header_holds : HeaderMatcher → Scene → Bool
header_holds matcher x = list_all (field_passes x) matcher.tests
