-- No handler's settings lack memory to be read.
use Rattle.std.proofs.Common.{◌≡◌, ℕ, true, List, refl, Option, Some, None, rules}
use Rattle.std.specs.Prelude.{codes, ◌||◌, ◌==◌, length}
use Rattle.std.specs.List.{list_any}
use Rattle.std.specs.Str.{bytes_eq}
use Rattle.http_header.specs.Token.{lowercase}
use Rattle.http_header.specs.FieldName.{is_field_name}
use Rattle.cd_fill.specs.Filling.{open_brace}
use Rattle.cd_tree.specs.declared.path.Path.{Path}
use Rattle.cd_tree.specs.declared.tree.Member.{Member}
use Rattle.cd_tree.specs.declared.tree.Num.{Num}
use Rattle.cd_tree.specs.declared.tree.Tree.{Tree, out-Tree}
use Rattle.cd_tree.specs.declared.tree.Tree.TheOpen.{Tree-F}
use Rattle.cd_module.specs.Settings.{text, whole, list_of, object_of, name_of, members}
use Rattle.cd_module.proofs.Sure.{is_said, IsSure, then-sure, if-sure, text-sure, truth-sure, whole-sure, pattern-sure, list_of-sure, members-sure, optional-sure, needed-sure, name_of-sure, object_of-sure}
use Rattle.cd_handlers.specs.Status.{code_of, code_written, known, text_status, status, status_layer}
use Rattle.cd_handlers.specs.FieldValues.{field_values, field_list, request_field, request_field_list}
use Rattle.cd_handlers.specs.Rewrite.{is_token, method_read, method_text, find_read, find_text, limit_read, limit, substring, rewrite}
use Rattle.cd_handlers.specs.StaticResponse.{static_response}
use Rattle.cd_handlers.specs.Headers.{request_changes, response_changes, headers}
use Rattle.cd_handlers.specs.Vars.{text_layer, setting_text, setting, vars}
use Rattle.cd_handlers.specs.Error.{static_error}
use Rattle.cd_handlers.specs.Invoke.{invoke}
use Rattle.cd_handlers.specs.Handlers.{handler_of, known_handler, handler}
use Rattle.cd_handlers.specs.Names.{kind_named}
use Rattle.cd_handlers.specs.declared.kind.HandlerKind.{HandlerKind}
use Rattle.cd_handlers.specs.declared.kind.HandlerKind.TheVariants as kind

-- ---- values

known-sure : (code : Option ℕ) (at : Path) → is_said (known code at) ≡ true
known-sure None at = refl
known-sure (Some code) at = refl

text_status-sure : (written : List ℕ) (at : Path) → is_said (text_status written at) ≡ true
text_status-sure written at = if-sure (list_any open_brace written) _ _ refl (known-sure (code_written written) at)

status-layer : (x : Tree-F Tree Member) (at : Path) → is_said (status_layer x at) ≡ true
status-layer Tree-F.Null at = refl
status-layer (Tree-F.Bool b) at = refl
status-layer (Tree-F.Num n) at = known-sure (code_of n) at
status-layer (Tree-F.Text text) at = text_status-sure text at
status-layer (Tree-F.Items items) at = refl
status-layer (Tree-F.Object members) at = refl

status-sure : IsSure status
unfolding status
status-sure = record { sure = λ t at. status-layer (out-Tree t) at }

setting-layer : (x : Tree-F Tree Member) (at : Path) → is_said (text_layer x at) ≡ true
setting-layer x at = search rules

setting_text-sure : IsSure setting_text
setting_text-sure = record { sure = λ t at. setting-layer (out-Tree t) at }

-- ---- fields

field_values-sure : (name : List ℕ) → IsSure (field_values name)
unfolding field_values
field_values-sure name = record { sure = λ t at. if-sure (is_field_name name) _ _ (then-sure (list_of text t at) _ ((list_of-sure text text-sure).sure t at) (λ values. refl)) refl }

field_list-sure : IsSure field_list
unfolding field_list
field_list-sure = record { sure = λ t at. then-sure (object_of field_values t at) _ ((object_of-sure field_values field_values-sure).sure t at) (λ fields. refl) }

request_field-sure : (name : List ℕ) → IsSure (request_field name)
unfolding request_field
request_field-sure name = record { sure = λ t at. if-sure (bytes_eq (lowercase name) (codes "host")) _ _ refl (then-sure (field_values name t at) _ ((field_values-sure name).sure t at) (λ field. refl)) }

request_field_list-sure : IsSure request_field_list
unfolding request_field_list
request_field_list-sure = record { sure = λ t at. then-sure (object_of request_field t at) _ ((object_of-sure request_field request_field-sure).sure t at) (λ fields. refl) }

-- ---- handlers

static_response-sure : IsSure static_response
unfolding static_response
static_response-sure = search (rules, members-sure, then-sure, optional-sure, status-sure, field_list-sure, text-sure, truth-sure)

request_changes-sure : IsSure request_changes
unfolding request_changes
request_changes-sure = search (rules, members-sure, then-sure, optional-sure, request_field_list-sure, list_of-sure, pattern-sure)

response_changes-sure : IsSure response_changes
unfolding response_changes
response_changes-sure = search (rules, members-sure, then-sure, optional-sure, field_list-sure, list_of-sure, pattern-sure, truth-sure)

headers-sure : IsSure headers
unfolding headers
headers-sure = search (rules, members-sure, then-sure, optional-sure, request_changes-sure, response_changes-sure)

method-sure : (written : List ℕ) (at : Path) → is_said (method_read written at) ≡ true
method-sure written at = if-sure (list_any open_brace written || is_token written) _ _ refl refl

method_text-sure : IsSure method_text
unfolding method_text
method_text-sure = record { sure = λ t at. then-sure (text t at) _ (text-sure.sure t at) (λ written. method-sure written at) }

find-sure : (written : List ℕ) (at : Path) → is_said (find_read written at) ≡ true
find-sure written at = if-sure (length written == 0) _ _ refl refl

find_text-sure : IsSure find_text
unfolding find_text
find_text-sure = record { sure = λ t at. then-sure (text t at) _ (text-sure.sure t at) (λ written. find-sure written at) }

limit_read-sure : (number : Num) (at : Path) → is_said (limit_read number at) ≡ true
limit_read-sure number at = if-sure number.negative _ _ refl refl

limit-sure : IsSure limit
unfolding limit
limit-sure = record { sure = λ t at. then-sure (whole t at) _ (whole-sure.sure t at) (λ number. limit_read-sure number at) }

substring-sure : IsSure substring
unfolding substring
substring-sure = search (rules, members-sure, then-sure, needed-sure, find_text-sure, optional-sure, text-sure, limit-sure)

rewrite-sure : IsSure rewrite
unfolding rewrite
rewrite-sure = search (rules, members-sure, then-sure, optional-sure, method_text-sure, text-sure, list_of-sure, substring-sure)

setting-sure : (name : List ℕ) → IsSure (setting name)
setting-sure name = record { sure = λ t at. then-sure (setting_text t at) _ (setting_text-sure.sure t at) (λ text. refl) }

vars-sure : IsSure vars
unfolding vars
vars-sure = record { sure = λ t at. then-sure (object_of setting t at) _ ((object_of-sure setting setting-sure).sure t at) (λ settings. refl) }

static_error-sure : IsSure static_error
unfolding static_error
static_error-sure = search (rules, members-sure, then-sure, optional-sure, text-sure, status-sure)

invoke-sure : IsSure invoke
unfolding invoke
invoke-sure = search (rules, members-sure, then-sure, needed-sure, text-sure)

handler_of-sure : (which : HandlerKind) → IsSure (handler_of which)
unfolding handler_of
handler_of-sure kind.StaticResponse = record { sure = λ t at. then-sure (static_response t at) _ (static_response-sure.sure t at) (λ s. refl) }
handler_of-sure kind.Headers = record { sure = λ t at. then-sure (headers t at) _ (headers-sure.sure t at) (λ s. refl) }
handler_of-sure kind.Rewrite = record { sure = λ t at. then-sure (rewrite t at) _ (rewrite-sure.sure t at) (λ s. refl) }
handler_of-sure kind.Vars = record { sure = λ t at. then-sure (vars t at) _ (vars-sure.sure t at) (λ s. refl) }
handler_of-sure kind.Error = record { sure = λ t at. then-sure (static_error t at) _ (static_error-sure.sure t at) (λ s. refl) }
handler_of-sure kind.Invoke = record { sure = λ t at. then-sure (invoke t at) _ (invoke-sure.sure t at) (λ s. refl) }

known_handler-sure : (name : List ℕ) (found : Option HandlerKind) → IsSure (known_handler name found)
known_handler-sure name None = record { sure = λ t at. refl }
known_handler-sure name (Some which) = record { sure = λ t at. (handler_of-sure which).sure t at }

pub handler-sure : IsSure handler
unfolding handler
handler-sure = record { sure = λ t at. then-sure (name_of (codes "handler") t at) _ ((name_of-sure (codes "handler")).sure t at) (λ name. (known_handler-sure name (kind_named name)).sure t at) }
