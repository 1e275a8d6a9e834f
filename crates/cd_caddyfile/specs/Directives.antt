-- Part of the main theorem.
-- Directives: their names, the matcher that a first argument is, and what the other arguments say.
use Rattle.std.specs.Prelude.{ℕ, ◌==◌, ◌&&◌, ◌||◌, Bool, if◌then◌else◌, List, [], ◌∷◌, length, drop, codes, Option, Some, None, option_map}
use Rattle.std.specs.Char.{is_ascii_digit}
use Rattle.std.specs.List.{list_all}
use Rattle.std.specs.Str.{bytes_eq}
use Rattle.cd_caddyfile.specs.Addresses.{begins_with, number}
use Rattle.cd_caddyfile.specs.Sites as says
use Rattle.cd_caddyfile.specs.Sites.{Action}
use Rattle.cd_caddyfile.specs.declared.choice.Choice.{Choice}
use Rattle.cd_caddyfile.specs.declared.choice.Choice.TheVariants.{Unmatched, Everything, ByPath, ByName}
use Rattle.cd_caddyfile.specs.declared.directive.Directive.{Directive}
use Rattle.cd_caddyfile.specs.declared.directive.Directive.TheVariants.{Vars, Header, Redir, Rewrite, Handle, Respond}

-- ---- names

abbrev pub directive_named : List ℕ → Option Directive
directive_named text =
    if bytes_eq text (codes "vars") then Some Vars else
    (if bytes_eq text (codes "header") then Some Header else
    (if bytes_eq text (codes "redir") then Some Redir else
    (if bytes_eq text (codes "rewrite") then Some Rewrite else
    (if bytes_eq text (codes "handle") then Some Handle else
    (if bytes_eq text (codes "respond") then Some Respond else None)))))

-- the name of a matcher
abbrev pub is_matcher : List ℕ → Bool
is_matcher text = begins_with 64 text

-- ---- the matcher of a directive

abbrev pub matcher_of : List ℕ → Choice
matcher_of arg =
    if bytes_eq arg (codes "*") then Everything else
    (if begins_with 47 arg then ByPath else
    (if is_matcher arg then ByName else Unmatched))

abbrev pub matcher_unless_alone : List ℕ → List (List ℕ) → Choice
matcher_unless_alone arg others = if length others == 0 then Unmatched else matcher_of arg

-- of `rewrite` and `redir` a single argument is no matcher
abbrev pub choice_before : Directive → List ℕ → List (List ℕ) → Choice
choice_before Vars arg others = matcher_of arg
choice_before Header arg others = matcher_of arg
choice_before Redir arg others = matcher_unless_alone arg others
choice_before Rewrite arg others = matcher_unless_alone arg others
choice_before Handle arg others = matcher_of arg
choice_before Respond arg others = matcher_of arg

-- the matcher that the first argument is
abbrev pub choice_of : Directive → List (List ℕ) → Choice
choice_of name [] = Unmatched
choice_of name (arg ∷ others) = choice_before name arg others

abbrev pub args_after : Choice → List (List ℕ) → List (List ℕ)
args_after Unmatched args = args
args_after Everything args = drop 1 args
args_after ByPath args = drop 1 args
args_after ByName args = drop 1 args

-- the arguments without the matcher
abbrev pub own_args : Directive → List (List ℕ) → List (List ℕ)
own_args name args = args_after (choice_of name args) args

-- ---- arguments

-- three digits
abbrev pub code_of : List ℕ → Option ℕ
code_of text = if length text == 3 && list_all is_ascii_digit text then Some (number 0 text) else None

abbrev pub redir_code : List ℕ → Option ℕ
redir_code text =
    if bytes_eq text (codes "permanent") then Some 301 else (if bytes_eq text (codes "temporary") then Some 302 else code_of text)

-- `NAME VALUE`; the settings of a handler have their own members of these names
abbrev pub vars_args : List (List ℕ) → Option Action
vars_args [] = None
vars_args (name ∷ []) = None
vars_args (name ∷ value ∷ []) =
    if bytes_eq name (codes "handler") || bytes_eq name (codes "@id") then None else Some (says.vars name value)
vars_args (name ∷ value ∷ other ∷ others) = None

-- `-FIELD`, `+FIELD VALUE` or `FIELD VALUE`
abbrev pub header_args : List (List ℕ) → Option Action
header_args [] = None
header_args (field ∷ []) = if begins_with 45 field then Some (says.delete_field (drop 1 field)) else None
header_args (field ∷ value ∷ []) =
    if begins_with 45 field then None else
    (if begins_with 43 field then Some (says.add_field (drop 1 field) value) else Some (says.set_field field value))
header_args (field ∷ value ∷ other ∷ others) = None

-- `TO [CODE]`
abbrev pub redir_args : List (List ℕ) → Option Action
redir_args [] = None
redir_args (to ∷ []) = Some (says.redir to 302)
redir_args (to ∷ code ∷ []) = option_map (λ n. says.redir to n) (redir_code code)
redir_args (to ∷ code ∷ other ∷ others) = None

-- `TO`
abbrev pub rewrite_args : List (List ℕ) → Option Action
rewrite_args [] = None
rewrite_args (to ∷ []) = Some (says.rewrite to)
rewrite_args (to ∷ other ∷ others) = None

-- a single argument of three digits is the status
abbrev pub respond_one : List ℕ → Option ℕ → Action
respond_one text None = says.respond (Some text) None
respond_one text (Some code) = says.respond None (Some code)

-- `[BODY] [STATUS]`
abbrev pub respond_args : List (List ℕ) → Option Action
respond_args [] = Some (says.respond None None)
respond_args (text ∷ []) = Some (respond_one text (code_of text))
respond_args (body ∷ status ∷ []) = option_map (λ n. says.respond (Some body) (Some n)) (code_of status)
respond_args (body ∷ status ∷ other ∷ others) = None

-- what a directive without a block says, by its name and its arguments after the matcher
abbrev pub action_of : Directive → List (List ℕ) → Option Action
action_of Vars args = vars_args args
action_of Header args = header_args args
action_of Redir args = redir_args args
action_of Rewrite args = rewrite_args args
action_of Handle args = None
action_of Respond args = respond_args args
