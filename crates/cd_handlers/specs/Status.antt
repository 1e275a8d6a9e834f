-- Part of the main theorem.
-- The status that a handler gives: in its settings, and for a request.
use Rattle.std.specs.Prelude.{ℕ, ◌+◌, ◌*◌, ◌-◌, ◌&&◌, ◌||◌, Bool, nat_lt, nat_le, if◌then◌else◌, List, [], ◌∷◌, Option, Some, None, Result, Ok, Err}
use Rattle.std.specs.List.{list_any}
use Rattle.cd_text.specs.Steps.{◌▷◌}
use Rattle.cd_tree.specs.declared.path.Path.{Path}
use Rattle.cd_tree.specs.declared.tree.Member.{Member}
use Rattle.cd_tree.specs.declared.tree.Num.{Num}
use Rattle.cd_tree.specs.declared.tree.Tree.{Tree, out-Tree}
use Rattle.cd_tree.specs.declared.tree.Tree.TheOpen.{Tree-F}
use Rattle.cd_module.specs.Faults.{refused}
use Rattle.cd_module.specs.Settings.{Reader}
use Rattle.cd_module.specs.declared.fault.LoadFault.{LoadFault}
use Rattle.cd_module.specs.declared.fault.LoadKind.TheVariants.{WrongKind, BadValue}
use Rattle.cd_fill.specs.Filling.{open_brace}
use Rattle.cd_fill.specs.declared.failure.Failure.{Failure}
use Rattle.cd_fill.specs.declared.scene.Scene.{Scene}
use Rattle.cd_handlers.specs.declared.fault.HandlerFault.{HandlerFault}
use Rattle.cd_handlers.specs.declared.fault.HandlerFault.TheVariants.{Unable}
use Rattle.cd_handlers.specs.declared.status.Status.{Status}
use Rattle.cd_handlers.specs.declared.status.Status.TheVariants.{Code, Template}
use Rattle.cd_handlers.specs.Filling.{text_filled}

-- ---- in settings

-- 200 to 999
abbrev pub code_of : Num → Option ℕ
code_of n = if n.negative || nat_lt n.size 200 || nat_lt 999 n.size then None else Some n.size

-- a digit from one to another
abbrev pub is_digit : ℕ → ℕ → ℕ → Bool
is_digit low high byte = nat_le (48 + low) byte && nat_le byte (48 + high)

-- three digits of which the first is at least 2: the number that they write
abbrev pub code_written : List ℕ → Option ℕ
code_written (a ∷ b ∷ c ∷ []) =
    if is_digit 2 9 a && (is_digit 0 9 b && is_digit 0 9 c)
    then Some (100 * (a - 48) + 10 * (b - 48) + (c - 48)) else None
code_written text = None

-- a status that is known when settings are read
abbrev pub known : Option ℕ → Path → Result Status LoadFault
known None at = Err (refused BadValue at)
known (Some code) at = Ok (Code code)

-- a text with a `{` is kept, and another must be a status
abbrev pub text_status : List ℕ → Path → Result Status LoadFault
text_status text at = if list_any open_brace text then Ok (Template text) else known (code_written text) at

-- a number or a text
abbrev pub status_layer : Tree-F Tree Member → Path → Result Status LoadFault
status_layer Tree-F.Null at = Err (refused WrongKind at)
status_layer (Tree-F.Bool b) at = Err (refused WrongKind at)
status_layer (Tree-F.Num n) at = known (code_of n) at
status_layer (Tree-F.Text text) at = text_status text at
status_layer (Tree-F.Items items) at = Err (refused WrongKind at)
status_layer (Tree-F.Object members) at = Err (refused WrongKind at)

unfoldable pub status : Reader Status
status t at = status_layer (out-Tree t) at

-- ---- for a request

-- a handler with a filled text that is no status is unable to give one
abbrev pub or_no_status : Option ℕ → Result ℕ HandlerFault
or_no_status None = Err Unable
or_no_status (Some code) = Ok code

abbrev pub status_said : List ℕ → Result ℕ HandlerFault
status_said text = or_no_status (code_written text)

-- the status that is given, or else the usual one
unfoldable pub status_given : Option Status → ℕ → Scene → Result ℕ HandlerFault
status_given None usual x = Ok usual
status_given (Some (Code code)) usual x = Ok code
status_given (Some (Template text)) usual x = text_filled x text ▷ λ filled. status_said filled

-- the status of the error in error routes, else 200
abbrev pub usual_status : Option Failure → ℕ
usual_status None = 200
usual_status (Some error) = error.status
