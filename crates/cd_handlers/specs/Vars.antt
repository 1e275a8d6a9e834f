-- Part of the main theorem.
-- `vars` (Caddy, JSON Config Structure, http.handlers.vars).
use Rattle.std.specs.Prelude.{ℕ, not, Bool, filter, if◌then◌else◌, List, [], ◌∷◌, ◌++◌, codes, Result, Ok, Err}
use Rattle.std.specs.Str.{bytes_eq}
use Rattle.cd_text.specs.Steps.{◌▷◌}
use Rattle.cd_tree.specs.Tree.{number_text}
use Rattle.cd_tree.specs.declared.path.Path.{Path}
use Rattle.cd_tree.specs.declared.tree.Member.{Member}
use Rattle.cd_tree.specs.declared.tree.Tree.{Tree, out-Tree}
use Rattle.cd_tree.specs.declared.tree.Tree.TheOpen.{Tree-F}
use Rattle.cd_module.specs.Faults.{refused}
use Rattle.cd_module.specs.Settings.{Reader, object_of}
use Rattle.cd_module.specs.declared.fault.LoadFault.{LoadFault}
use Rattle.cd_module.specs.declared.fault.LoadKind.TheVariants.{WrongKind}
use Rattle.cd_fill.specs.declared.scene.Scene.{Scene}
use Rattle.cd_handlers.specs.declared.outcome.Effect.{Effect}
use Rattle.cd_handlers.specs.declared.outcome.Effect.TheVariants.{Next}
use Rattle.cd_handlers.specs.declared.vars.Setting.{Setting}
use Rattle.cd_handlers.specs.declared.vars.Vars.{Vars}
use Rattle.cd_handlers.specs.Failing.{or_failed}
use Rattle.cd_handlers.specs.Filling.{text_filled}

-- ---- settings

abbrev pub truth_text : Bool → List ℕ
truth_text truth = if truth then codes "true" else codes "false"

-- a text, or the JSON text of a number or of a truth value
abbrev pub text_layer : Tree-F Tree Member → Path → Result (List ℕ) LoadFault
text_layer Tree-F.Null at = Err (refused WrongKind at)
text_layer (Tree-F.Bool truth) at = Ok (truth_text truth)
text_layer (Tree-F.Num n) at = Ok (number_text n)
text_layer (Tree-F.Text t) at = Ok t
text_layer (Tree-F.Items items) at = Err (refused WrongKind at)
text_layer (Tree-F.Object members) at = Err (refused WrongKind at)

abbrev pub setting_text : Reader (List ℕ)
setting_text t at = text_layer (out-Tree t) at

-- a variable of that name
abbrev pub setting : List ℕ → Reader Setting
setting name t at = setting_text t at ▷ λ text. Ok (record { name = name; text = text })

-- all settings but the name of the handler
abbrev pub variables : List Setting → List Setting
variables settings = filter (λ one. not (bytes_eq one.name (codes "handler"))) settings

-- the variables by rising name
unfoldable pub vars : Reader Vars
vars t at = object_of setting t at ▷ λ settings. Ok (record { settings = variables settings })

-- ---- what it does

-- the scene with one more variable, which is the one of its name from now on
abbrev pub with_variable : List ℕ → List ℕ → Scene → Scene
with_variable name value x = record x { variables = x.variables ++ record { name = name; value = value } ∷ [] }

-- one variable after another is set; each text is filled in the scene that those before left, and so is a failure in it
unfoldable pub variables_set : List Setting → Scene → Effect
variables_set [] x = Next x
variables_set (s ∷ settings) x =
    or_failed x (text_filled x s.text) (λ value. variables_set settings (with_variable s.name value x))
