-- Part of the main theorem.
-- The matcher `vars`: variables and placeholders (Caddy, JSON Config Structure, http.matchers.vars).
use Rattle.std.specs.Prelude.{ℕ, Bool, false, if◌then◌else◌, List, codes, Result, Ok, Err}
use Rattle.std.specs.List.{list_any, list_all}
use Rattle.std.specs.Str.{bytes_eq}
use Rattle.cd_text.specs.Steps.{◌▷◌}
use Rattle.cd_fill.specs.declared.scene.Scene.{Scene}
use Rattle.cd_fill.specs.declared.fault.FillFault.{FillFault}
use Rattle.cd_fill.specs.Filling.{fill}
use Rattle.cd_fill.specs.Values.{begins, value_of_variable}
use Rattle.cd_module.specs.Settings.{Reader, text, list_of, object_of}
use Rattle.cd_match.specs.declared.vars.VariableTest.{VariableTest}
use Rattle.cd_match.specs.declared.vars.VarsMatcher.{VarsMatcher}

-- a member of `vars`: a list of texts
unfoldable pub variable_test : List ℕ → Reader VariableTest
variable_test key t at = list_of text t at ▷ λ values. Ok (record { key = key; values = values })

-- the settings: an object by name
unfoldable pub vars_matcher : Reader VarsMatcher
vars_matcher t at = object_of variable_test t at ▷ λ tests. Ok (record { tests = tests })

-- the value of the variable, or the filled key where that begins with `{`
abbrev pub value_of_key : Scene → List ℕ → Result (List ℕ) FillFault
value_of_key x key = if begins key (codes "{") then fill x key else Ok (value_of_variable x.variables key)

-- it is one of these; a key that is too long when it is filled is none
abbrev pub is_among : List (List ℕ) → Result (List ℕ) FillFault → Bool
is_among values (Ok value) = list_any (bytes_eq value) values
is_among values (Err fault) = false

-- the value is one of those that are listed
unfoldable pub variable_passes : Scene → VariableTest → Bool
variable_passes x test = is_among test.values (value_of_key x test.key)

-- each key passes
abbrev pub vars_hold : VarsMatcher → Scene → Bool
vars_hold matcher x = list_all (variable_passes x) matcher.tests
