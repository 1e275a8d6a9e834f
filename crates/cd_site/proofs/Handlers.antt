-- The handler of a directive is read as the settings that the directive comes to.
use Rattle.std.proofs.Common.{◌≡◌, ℕ, Bool, true, false, not, ◌&&◌, List, [], ◌∷◌, Option, Some, None, Result, Ok, Err, refl, sym, ap, ◌∙◌, subst}
use Rattle.std.specs.Prelude.{codes, if◌then◌else◌, ◌||◌, ◌++◌, nat_lt, unwrap_or}
use Rattle.std.specs.Str.{bytes_eq}
use Rattle.http_header.specs.FieldName.{is_field_name}
use Rattle.http_header.specs.Token.{lowercase, is_token_byte}
use Rattle.cd_text.specs.ByKey.{key_le}
use Rattle.cd_text.specs.Steps.{◌▷◌}
use Rattle.cd_tree.specs.Fields.{is_null}
use Rattle.cd_tree.specs.Path.{◌▸◌}
use Rattle.cd_tree.specs.declared.path.Path.{Path}
use Rattle.cd_tree.specs.declared.tree.Num.{Num}
use Rattle.cd_tree.specs.declared.tree.Tree as tree
use Rattle.cd_tree.specs.declared.tree.Tree.{Tree}
use Rattle.cd_module.specs.Faults.{refused}
use Rattle.cd_module.specs.Patterns.{pattern, pattern_of}
use Rattle.cd_module.specs.Settings.{text, truth, list_of, name_of}
use Rattle.cd_module.specs.declared.fault.LoadFault.{LoadFault}
use Rattle.cd_module.specs.declared.fault.LoadKind.TheVariants.{BadValue}
use Rattle.cd_handlers.specs.FieldValues.{field_values, field_list}
use Rattle.cd_handlers.specs.Handlers as handlers
use Rattle.cd_handlers.specs.Handlers.{known_handler}
use Rattle.cd_handlers.specs.Headers.{request_changes, response_changes, headers, no_changes}
use Rattle.cd_handlers.specs.Names.{kind_named, kind_name}
use Rattle.cd_handlers.specs.Rewrite as rewriting_read
use Rattle.cd_handlers.specs.Rewrite.{method_text, substring}
use Rattle.cd_handlers.specs.StaticResponse.{static_response}
use Rattle.cd_handlers.specs.Status.{code_of, known, status_layer, status}
use Rattle.cd_handlers.specs.Vars as variables_read
use Rattle.cd_handlers.specs.Vars.{setting, text_layer}
use Rattle.cd_handlers.specs.declared.field_values.FieldList.{FieldList}
use Rattle.cd_handlers.specs.declared.field_values.FieldValues.{FieldValues}
use Rattle.cd_handlers.specs.declared.handler.Handler.{Handler}
use Rattle.cd_handlers.specs.declared.handler.Handler.TheVariants as kind
use Rattle.cd_handlers.specs.declared.headers.ResponseChanges.{ResponseChanges}
use Rattle.cd_handlers.specs.declared.kind.HandlerKind.{HandlerKind}
use Rattle.cd_handlers.specs.declared.kind.HandlerKind.TheVariants as which
use Rattle.cd_handlers.specs.declared.status.Status.{Status}
use Rattle.cd_handlers.specs.declared.status.Status.TheVariants.{Code}
use Rattle.cd_handlers.specs.declared.vars.Setting.{Setting}
use Rattle.cd_routes.specs.Names.{subroute_name}
use Rattle.cd_caddyfile.specs.Shape as shape
use Rattle.cd_caddyfile.specs.Shape.{Entry, member, object, text_list, field, handler_of}
use Rattle.cd_caddyfile.specs.Sites.{Action, vars, set_field, add_field, delete_field, redir, rewrite, respond}
use Rattle.cd_site.specs.Answering.{answering, rewriting}
use Rattle.cd_site.specs.Settings.{one_field, answer_changes, setting_of}
use Rattle.cd_site.specs.Ids.{HasFitIds}
use Rattle.cd_site.proofs.Marks.{in_member, no_id_keys}
use Rattle.cd_site.proofs.Objects.{same_value, out_text, out_number, text_solid, truth_solid, number_solid, list_solid, object_solid, text_is, truth_is, texts_are, patterns_are, sorted, rolled, value_at, members_are, there, absent, name_is, all_set, each_entry, entries_are}
use Rattle.cd_site.specs.Variables.{is_plain}

-- ---- a handler by its name

named_is : (es : List Entry) (at : Path) (name : List ℕ) (one : HandlerKind) → value_at (codes "handler") (sorted es) ≡ Some (tree.Text name) → kind_named name ≡ Some one →
    handlers.handler (object es) at ≡ handlers.handler_of one (object es) at
unfolding handlers.handler
named_is es at name one found is = rw (name_is es at name found) (ap (λ o. known_handler name o (object es) at) is)

-- ---- one field

values_are : (name value : List ℕ) (at : Path) (b : Bool) → is_field_name name ≡ b →
    field_values name (text_list (value ∷ [])) at ≡ (if b then Ok (record { name = lowercase name; values = value ∷ [] }) else Err (refused BadValue at))
unfolding field_values
values_are name value at true is = rw (is, texts_are (value ∷ []) at) refl
values_are name value at false is = rw is refl

field_set : (name value : List ℕ) → bytes_eq name (codes "@id") ≡ false → all_set (member name (text_list (value ∷ [])) ∷ []) ≡ true
field_set name value other = rw (list_solid _, other) refl

field_is : (name value : List ℕ) (at : Path) (b : Bool) → bytes_eq name (codes "@id") ≡ false → is_field_name name ≡ b →
    field_list (field name value) at ≡ (if b then Ok (record { fields = one_field name value }) else Err (refused BadValue (at ▸ name)))
unfolding field_list
field_is name value at true other is =
    rw (entries_are field_values (member name (text_list (value ∷ [])) ∷ []) at (field_set name value other), values_are name value (at ▸ name) true is) refl
field_is name value at false other is =
    rw (entries_are field_values (member name (text_list (value ∷ [])) ∷ []) at (field_set name value other), values_are name value (at ▸ name) false is) refl

-- ---- changes of the answer

abbrev headers_entries : List Entry → List Entry
headers_entries changes = member (codes "handler") (tree.Text (codes "headers")) ∷ member (codes "response") (object changes) ∷ []

changes_by : (changes : List Entry) (at : Path) (r : Result ResponseChanges LoadFault) → response_changes (object changes) (at ▸ codes "response") ≡ r →
    handlers.handler_of which.Headers (object (headers_entries changes)) at ≡ (r ▷ λ c. Ok (kind.Headers (record { request = no_changes; response = c })))
unfolding handlers.handler_of headers
changes_by changes at (Ok c) is = rw (
  members_are (codes "handler request response") (headers_entries changes) at refl,
  absent request_changes (codes "request") (sorted (headers_entries changes)) at refl,
  there response_changes (codes "response") (sorted (headers_entries changes)) at (object changes) refl (object_solid changes),
  is,
) refl
changes_by changes at (Err fault) is = rw (
  members_are (codes "handler request response") (headers_entries changes) at refl,
  absent request_changes (codes "request") (sorted (headers_entries changes)) at refl,
  there response_changes (codes "response") (sorted (headers_entries changes)) at (object changes) refl (object_solid changes),
  is,
) refl

changes_read : (changes : List Entry) (at : Path) (r : Result ResponseChanges LoadFault) → response_changes (object changes) (at ▸ codes "response") ≡ r →
    handlers.handler (shape.response changes) at ≡ (r ▷ λ c. Ok (kind.Headers (record { request = no_changes; response = c })))
unfolding kind_named kind_name
changes_read changes at r is = named_is (headers_entries changes) at (codes "headers") which.Headers refl refl ∙ changes_by changes at r is

abbrev set_entries : List ℕ → List ℕ → List Entry
set_entries name value = member (codes "set") (field name value) ∷ []

abbrev add_entries : List ℕ → List ℕ → List Entry
add_entries name value = member (codes "add") (field name value) ∷ []

abbrev delete_entries : List ℕ → List Entry
delete_entries name = member (codes "delete") (text_list (name ∷ [])) ∷ member (codes "deferred") (tree.Bool true) ∷ []

set_changes : (name value : List ℕ) (at : Path) (r : Result FieldList LoadFault) → field_list (field name value) (at ▸ codes "set") ≡ r →
    response_changes (object (set_entries name value)) at ≡ (r ▷ λ l. Ok (record { changes = record { add = []; set = l.fields; delete = [] }; deferred = false }))
unfolding response_changes
set_changes name value at (Ok l) is = rw (
  members_are (codes "add set delete deferred") (set_entries name value) at refl,
  absent field_list (codes "add") (sorted (set_entries name value)) at refl,
  there field_list (codes "set") (sorted (set_entries name value)) at (field name value) refl (object_solid (member name (text_list (value ∷ [])) ∷ [])),
  is,
  absent (list_of pattern) (codes "delete") (sorted (set_entries name value)) at refl,
  absent truth (codes "deferred") (sorted (set_entries name value)) at refl,
) refl
set_changes name value at (Err fault) is = rw (
  members_are (codes "add set delete deferred") (set_entries name value) at refl,
  absent field_list (codes "add") (sorted (set_entries name value)) at refl,
  there field_list (codes "set") (sorted (set_entries name value)) at (field name value) refl (object_solid (member name (text_list (value ∷ [])) ∷ [])),
  is,
) refl

add_changes : (name value : List ℕ) (at : Path) (r : Result FieldList LoadFault) → field_list (field name value) (at ▸ codes "add") ≡ r →
    response_changes (object (add_entries name value)) at ≡ (r ▷ λ l. Ok (record { changes = record { add = l.fields; set = []; delete = [] }; deferred = false }))
unfolding response_changes
add_changes name value at (Ok l) is = rw (
  members_are (codes "add set delete deferred") (add_entries name value) at refl,
  there field_list (codes "add") (sorted (add_entries name value)) at (field name value) refl (object_solid (member name (text_list (value ∷ [])) ∷ [])),
  is,
  absent field_list (codes "set") (sorted (add_entries name value)) at refl,
  absent (list_of pattern) (codes "delete") (sorted (add_entries name value)) at refl,
  absent truth (codes "deferred") (sorted (add_entries name value)) at refl,
) refl
add_changes name value at (Err fault) is = rw (
  members_are (codes "add set delete deferred") (add_entries name value) at refl,
  there field_list (codes "add") (sorted (add_entries name value)) at (field name value) refl (object_solid (member name (text_list (value ∷ [])) ∷ [])),
  is,
) refl

delete_changes : (name : List ℕ) (at : Path) →
    response_changes (object (delete_entries name)) at ≡ Ok (record { changes = record { add = []; set = []; delete = pattern_of name ∷ [] }; deferred = true })
unfolding response_changes
delete_changes name at = rw (
  members_are (codes "add set delete deferred") (delete_entries name) at refl,
  absent field_list (codes "add") (sorted (delete_entries name)) at refl,
  absent field_list (codes "set") (sorted (delete_entries name)) at refl,
  there (list_of pattern) (codes "delete") (sorted (delete_entries name)) at (text_list (name ∷ [])) refl (list_solid _),
  patterns_are (name ∷ []) (at ▸ codes "delete"),
  there truth (codes "deferred") (sorted (delete_entries name)) at (tree.Bool true) refl (truth_solid true),
  truth_is true (at ▸ codes "deferred"),
) refl

-- a field whose name is no id
lone_key : (name value : List ℕ) (at : Path) → HasFitIds (field name value) at → bytes_eq name (codes "@id") ≡ false
lone_key name value at fit = by (bytes_eq name (codes "@id")) (no_id_keys (member name (text_list (value ∷ [])) ∷ []) at (_, refl, tt) fit)
  where
    by : (b : Bool) → (not b && true) ≡ true → b ≡ false
    by true is = cc
    by false is = refl

either_field : (name value : List ℕ) (b : Bool) (at : Path) (make : FieldList → ResponseChanges) (h : Handler) →
    (((if b then Ok (record { fields = one_field name value }) else Err (refused BadValue (at ▸ name))) ▷ λ l. Ok (make l)) ▷ λ c. Ok (kind.Headers (record { request = no_changes; response = c }))) ≡ Ok h →
    h ≡ kind.Headers (record { request = no_changes; response = make (record { fields = one_field name value }) })
either_field name value true at make h is = sym (same_value _ h is)
either_field name value false at make h is = cc

set_read : (name value : List ℕ) (at : Path) (h : Handler) → HasFitIds (handler_of (set_field name value)) at → handlers.handler (handler_of (set_field name value)) at ≡ Ok h → h ≡ setting_of (set_field name value)
unfolding handler_of setting_of
set_read name value at h fit is =
    let inner = in_member (codes "set") (set_entries name value) (at ▸ codes "response") (field name value) refl refl
    (in_member (codes "response") (headers_entries (set_entries name value)) at (object (set_entries name value)) refl refl fit) in
    let other = lone_key name value (at ▸ codes "response" ▸ codes "set") inner in
    either_field name value (is_field_name name) (at ▸ codes "response" ▸ codes "set") (λ l. record { changes = record { add = []; set = l.fields; delete = [] }; deferred = false }) h
    (sym (changes_read (set_entries name value) at _ (set_changes name value (at ▸ codes "response") _ (field_is name value _ (is_field_name name) other refl))) ∙ is)

add_read : (name value : List ℕ) (at : Path) (h : Handler) → HasFitIds (handler_of (add_field name value)) at → handlers.handler (handler_of (add_field name value)) at ≡ Ok h → h ≡ setting_of (add_field name value)
unfolding handler_of setting_of
add_read name value at h fit is =
    let inner = in_member (codes "add") (add_entries name value) (at ▸ codes "response") (field name value) refl refl
    (in_member (codes "response") (headers_entries (add_entries name value)) at (object (add_entries name value)) refl refl fit) in
    let other = lone_key name value (at ▸ codes "response" ▸ codes "add") inner in
    either_field name value (is_field_name name) (at ▸ codes "response" ▸ codes "add") (λ l. record { changes = record { add = l.fields; set = []; delete = [] }; deferred = false }) h
    (sym (changes_read (add_entries name value) at _ (add_changes name value (at ▸ codes "response") _ (field_is name value _ (is_field_name name) other refl))) ∙ is)

delete_read : (name : List ℕ) (at : Path) (h : Handler) → handlers.handler (handler_of (delete_field name)) at ≡ Ok h → h ≡ setting_of (delete_field name)
unfolding handler_of setting_of
delete_read name at h is = sym (same_value _ h (sym (changes_read (delete_entries name) at _ (delete_changes name (at ▸ codes "response"))) ∙ is))

-- ---- `rewrite`

abbrev rewrite_entries : List ℕ → List Entry
rewrite_entries to = member (codes "handler") (tree.Text (codes "rewrite")) ∷ member (codes "uri") (tree.Text to) ∷ []

rewrite_is : (to : List ℕ) (at : Path) → handlers.handler_of which.Rewrite (object (rewrite_entries to)) at ≡ Ok (kind.Rewrite (rewriting to))
unfolding handlers.handler_of rewriting_read.rewrite
rewrite_is to at = rw (
  members_are (codes "handler method uri strip_path_prefix strip_path_suffix uri_substring") (rewrite_entries to) at refl,
  absent method_text (codes "method") (sorted (rewrite_entries to)) at refl,
  there text (codes "uri") (sorted (rewrite_entries to)) at (tree.Text to) refl (text_solid to),
  text_is to (at ▸ codes "uri"),
  absent text (codes "strip_path_prefix") (sorted (rewrite_entries to)) at refl,
  absent text (codes "strip_path_suffix") (sorted (rewrite_entries to)) at refl,
  absent (list_of substring) (codes "uri_substring") (sorted (rewrite_entries to)) at refl,
) refl

rewrite_read : (to : List ℕ) (at : Path) (h : Handler) → handlers.handler (handler_of (rewrite to)) at ≡ Ok h → h ≡ setting_of (rewrite to)
unfolding handler_of setting_of kind_named kind_name
rewrite_read to at h is = sym (same_value _ h (sym (named_is (rewrite_entries to) at (codes "rewrite") which.Rewrite refl refl ∙ rewrite_is to at) ∙ is))

-- ---- `vars`

abbrev pair : Bool → List ℕ → List ℕ → List Entry
pair handler_first name value =
    if handler_first then member (codes "handler") (tree.Text (codes "vars")) ∷ member name (tree.Text value) ∷ []
    else member name (tree.Text value) ∷ member (codes "handler") (tree.Text (codes "vars")) ∷ []

abbrev vars_entries : List ℕ → List ℕ → List Entry
vars_entries name value = member (codes "handler") (tree.Text (codes "vars")) ∷ member name (tree.Text value) ∷ []

setting_is : (name value : List ℕ) (at : Path) → setting name (tree.Text value) at ≡ Ok (record { name = name; text = value })
setting_is name value at = ap (λ l. text_layer l at ▷ λ t. Ok (record { name = name; text = t })) (out_text value)

vars_named : (b : Bool) (name value : List ℕ) → bytes_eq name (codes "handler") ≡ false → value_at (codes "handler") (pair b name value) ≡ Some (tree.Text (codes "vars"))
vars_named true name value other = refl
vars_named false name value other = rw other refl

vars_set : (b : Bool) (name value : List ℕ) → bytes_eq name (codes "@id") ≡ false → all_set (pair b name value) ≡ true
vars_set true name value other = rw (text_solid (codes "vars"), text_solid value, other) refl
vars_set false name value other = rw (text_solid value, other, text_solid (codes "vars")) refl

vars_each : (b : Bool) (name value : List ℕ) (at : Path) → bytes_eq name (codes "handler") ≡ false →
    (each_entry setting (pair b name value) at ▷ λ all. Ok (variables_read.variables all)) ≡ Ok (record { name = name; text = value } ∷ [])
vars_each true name value at other = rw (setting_is (codes "handler") (codes "vars") (at ▸ codes "handler"), setting_is name value (at ▸ name), other) refl
vars_each false name value at other = rw (setting_is name value (at ▸ name), setting_is (codes "handler") (codes "vars") (at ▸ codes "handler"), other) refl

one_variable : (r : Result (List Setting) LoadFault) (s : Setting) (h : Handler) → (r ▷ λ all. Ok (variables_read.variables all)) ≡ Ok (s ∷ []) →
    ((r ▷ λ all. Ok (record { settings = variables_read.variables all })) ▷ λ v. Ok (kind.Vars v)) ≡ Ok h → h ≡ kind.Vars (record { settings = s ∷ [] })
one_variable (Ok all) s h one is = sym (same_value _ h is) ∙ ap (λ l. kind.Vars (record { settings = l })) (same_value _ (s ∷ []) one)
one_variable (Err fault) s h one is = cc

vars_read : (name value : List ℕ) (at : Path) (h : Handler) → bytes_eq name (codes "handler") ≡ false → bytes_eq name (codes "@id") ≡ false →
    handlers.handler (handler_of (vars name value)) at ≡ Ok h → h ≡ setting_of (vars name value)
unfolding handler_of setting_of kind_named kind_name handlers.handler_of variables_read.vars
vars_read name value at h handler_not id_not is =
    let first = key_le (λ (e : Entry). e.key) (member (codes "handler") (tree.Text (codes "vars"))) (member name (tree.Text value)) in
    one_variable (each_entry setting (sorted (vars_entries name value)) at) (record { name = name; text = value }) h (vars_each first name value at handler_not)
    (ap (λ r. (r ▷ λ all. Ok (record { settings = variables_read.variables all })) ▷ λ v. Ok (kind.Vars v)) (sym (entries_are setting (vars_entries name value) at (vars_set first name value id_not)))
    ∙ (sym (named_is (vars_entries name value) at (codes "vars") which.Vars (vars_named first name value handler_not) refl) ∙ is))

-- ---- `respond` and `redir`

code_is : (code : ℕ) (at : Path) → status (shape.status code) at ≡ known (code_of (record { negative = false; size = code })) at
unfolding status
code_is code at = ap (λ l. status_layer l at) (out_number (record { negative = false; size = code }))

code_known : (code : ℕ) (at : Path) (found : Status) → status (shape.status code) at ≡ Ok found → found ≡ Code code
code_known code at found is = by (nat_lt code 200) (nat_lt 999 code) (sym (code_is code at) ∙ is)
  where
    by : (low high : Bool) → known (if false || low || high then None else Some code) at ≡ Ok found → found ≡ Code code
    by true high is = cc
    by false true is = cc
    by false false is = sym (same_value _ found is)

abbrev respond_entries : Option (List ℕ) → Option ℕ → List Entry
respond_entries body code = member (codes "handler") (tree.Text (codes "static_response")) ∷ (shape.given (codes "body") (λ t. tree.Text t) body ++ shape.given (codes "status_code") shape.status code)

abbrev redir_entries : List ℕ → ℕ → List Entry
redir_entries to code = member (codes "handler") (tree.Text (codes "static_response")) ∷ member (codes "headers") (field (codes "Location") to) ∷ member (codes "status_code") (shape.status code) ∷ []

respond_named : (body : Option (List ℕ)) (code : Option ℕ) → value_at (codes "handler") (sorted (respond_entries body code)) ≡ Some (tree.Text (codes "static_response"))
respond_named None None = refl
respond_named None (Some code) = refl
respond_named (Some t) None = refl
respond_named (Some t) (Some code) = refl

-- without a status
respond_plain : (body : Option (List ℕ)) (at : Path) →
    handlers.handler_of which.StaticResponse (object (respond_entries body None)) at ≡ Ok (kind.StaticResponse (answering [] body None))
unfolding handlers.handler_of static_response
respond_plain None at = rw (
  members_are (codes "handler status_code headers body close") (respond_entries None None) at refl,
  absent status (codes "status_code") (sorted (respond_entries None None)) at refl,
  absent field_list (codes "headers") (sorted (respond_entries None None)) at refl,
  absent text (codes "body") (sorted (respond_entries None None)) at refl,
  absent truth (codes "close") (sorted (respond_entries None None)) at refl,
) refl
respond_plain (Some t) at = rw (
  members_are (codes "handler status_code headers body close") (respond_entries (Some t) None) at refl,
  absent status (codes "status_code") (sorted (respond_entries (Some t) None)) at refl,
  absent field_list (codes "headers") (sorted (respond_entries (Some t) None)) at refl,
  there text (codes "body") (sorted (respond_entries (Some t) None)) at (tree.Text t) refl (text_solid t),
  text_is t (at ▸ codes "body"),
  absent truth (codes "close") (sorted (respond_entries (Some t) None)) at refl,
) refl

-- with a status
respond_coded : (body : Option (List ℕ)) (code : ℕ) (at : Path) (r : Result Status LoadFault) → status (shape.status code) (at ▸ codes "status_code") ≡ r →
    handlers.handler_of which.StaticResponse (object (respond_entries body (Some code))) at
    ≡ (r ▷ λ s. Ok (kind.StaticResponse (record { status = Some s; headers = []; body = unwrap_or body []; close = false })))
unfolding handlers.handler_of static_response
respond_coded None code at (Ok s) is = rw (
  members_are (codes "handler status_code headers body close") (respond_entries None (Some code)) at refl,
  there status (codes "status_code") (sorted (respond_entries None (Some code))) at (shape.status code) refl (number_solid _),
  is,
  absent field_list (codes "headers") (sorted (respond_entries None (Some code))) at refl,
  absent text (codes "body") (sorted (respond_entries None (Some code))) at refl,
  absent truth (codes "close") (sorted (respond_entries None (Some code))) at refl,
) refl
respond_coded None code at (Err fault) is = rw (
  members_are (codes "handler status_code headers body close") (respond_entries None (Some code)) at refl,
  there status (codes "status_code") (sorted (respond_entries None (Some code))) at (shape.status code) refl (number_solid _),
  is,
) refl
respond_coded (Some t) code at (Ok s) is = rw (
  members_are (codes "handler status_code headers body close") (respond_entries (Some t) (Some code)) at refl,
  there status (codes "status_code") (sorted (respond_entries (Some t) (Some code))) at (shape.status code) refl (number_solid _),
  is,
  absent field_list (codes "headers") (sorted (respond_entries (Some t) (Some code))) at refl,
  there text (codes "body") (sorted (respond_entries (Some t) (Some code))) at (tree.Text t) refl (text_solid t),
  text_is t (at ▸ codes "body"),
  absent truth (codes "close") (sorted (respond_entries (Some t) (Some code))) at refl,
) refl
respond_coded (Some t) code at (Err fault) is = rw (
  members_are (codes "handler status_code headers body close") (respond_entries (Some t) (Some code)) at refl,
  there status (codes "status_code") (sorted (respond_entries (Some t) (Some code))) at (shape.status code) refl (number_solid _),
  is,
) refl

redir_coded : (to : List ℕ) (code : ℕ) (at : Path) (r : Result Status LoadFault) → status (shape.status code) (at ▸ codes "status_code") ≡ r →
    handlers.handler_of which.StaticResponse (object (redir_entries to code)) at
    ≡ (r ▷ λ s. Ok (kind.StaticResponse (record { status = Some s; headers = one_field (codes "Location") to; body = []; close = false })))
unfolding handlers.handler_of static_response
redir_coded to code at (Ok s) is = rw (
  members_are (codes "handler status_code headers body close") (redir_entries to code) at refl,
  there status (codes "status_code") (sorted (redir_entries to code)) at (shape.status code) refl (number_solid _),
  is,
  there field_list (codes "headers") (sorted (redir_entries to code)) at (field (codes "Location") to) refl (object_solid (member (codes "Location") (text_list (to ∷ [])) ∷ [])),
  field_is (codes "Location") to (at ▸ codes "headers") true refl refl,
  absent text (codes "body") (sorted (redir_entries to code)) at refl,
  absent truth (codes "close") (sorted (redir_entries to code)) at refl,
) refl
redir_coded to code at (Err fault) is = rw (
  members_are (codes "handler status_code headers body close") (redir_entries to code) at refl,
  there status (codes "status_code") (sorted (redir_entries to code)) at (shape.status code) refl (number_solid _),
  is,
) refl

with_code : (r : Result Status LoadFault) (code : ℕ) (make : Status → Handler) (h : Handler) → ((found : Status) → r ≡ Ok found → found ≡ Code code) →
    (r ▷ λ s. Ok (make s)) ≡ Ok h → h ≡ make (Code code)
with_code (Ok s) code make h all is = sym (same_value _ h is) ∙ ap make (all s refl)
with_code (Err fault) code make h all is = cc

respond_read : (body : Option (List ℕ)) (code : Option ℕ) (at : Path) (h : Handler) → handlers.handler (handler_of (respond body code)) at ≡ Ok h → h ≡ setting_of (respond body code)
unfolding handler_of setting_of kind_named kind_name
respond_read body None at h is = sym (same_value _ h (sym (named_is (respond_entries body None) at (codes "static_response") which.StaticResponse (respond_named body None) refl ∙ respond_plain body at) ∙ is))
respond_read body (Some code) at h is =
    with_code (status (shape.status code) (at ▸ codes "status_code")) code (λ s. kind.StaticResponse (record { status = Some s; headers = []; body = unwrap_or body []; close = false })) h
    (code_known code (at ▸ codes "status_code"))
    (sym (named_is (respond_entries body (Some code)) at (codes "static_response") which.StaticResponse (respond_named body (Some code)) refl ∙ respond_coded body code at _ refl) ∙ is)

redir_read : (to : List ℕ) (code : ℕ) (at : Path) (h : Handler) → handlers.handler (handler_of (redir to code)) at ≡ Ok h → h ≡ setting_of (redir to code)
unfolding handler_of setting_of kind_named kind_name
redir_read to code at h is =
    with_code (status (shape.status code) (at ▸ codes "status_code")) code (λ s. kind.StaticResponse (record { status = Some s; headers = one_field (codes "Location") to; body = []; close = false })) h
    (code_known code (at ▸ codes "status_code"))
    (sym (named_is (redir_entries to code) at (codes "static_response") which.StaticResponse refl refl ∙ redir_coded to code at _ refl) ∙ is)

-- ---- each directive

plain_parts : (a b : Bool) → not (a || b) ≡ true → (a ≡ false) × (b ≡ false)
plain_parts true b h = cc
plain_parts false true h = cc
plain_parts false false h = (refl, refl)

pub handlers_read : (a : Action) (at : Path) (h : Handler) → is_plain a ≡ true → HasFitIds (handler_of a) at → handlers.handler (handler_of a) at ≡ Ok h → h ≡ setting_of a
handlers_read (vars name value) at h plain fit is =
    let own = plain_parts (bytes_eq name (codes "handler")) (bytes_eq name (codes "@id")) plain in
    vars_read name value at h own.0 own.1 is
handlers_read (set_field name value) at h plain fit is = set_read name value at h fit is
handlers_read (add_field name value) at h plain fit is = add_read name value at h fit is
handlers_read (delete_field name) at h plain fit is = delete_read name at h is
handlers_read (redir to code) at h plain fit is = redir_read to code at h is
handlers_read (rewrite to) at h plain fit is = rewrite_read to at h is
handlers_read (respond body code) at h plain fit is = respond_read body code at h is

-- ---- its name

abbrev pub name_in : Action → List ℕ
name_in (vars name value) = codes "vars"
name_in (set_field name value) = codes "headers"
name_in (add_field name value) = codes "headers"
name_in (delete_field name) = codes "headers"
name_in (redir to code) = codes "static_response"
name_in (rewrite to) = codes "rewrite"
name_in (respond body code) = codes "static_response"

pub name_in_other : (a : Action) → bytes_eq (name_in a) subroute_name ≡ false
name_in_other (vars name value) = refl
name_in_other (set_field name value) = refl
name_in_other (add_field name value) = refl
name_in_other (delete_field name) = refl
name_in_other (redir to code) = refl
name_in_other (rewrite to) = refl
name_in_other (respond body code) = refl

pub name_read : (a : Action) (at : Path) → is_plain a ≡ true → name_of (codes "handler") (handler_of a) at ≡ Ok (name_in a)
unfolding handler_of
name_read (vars name value) at plain =
    name_is (vars_entries name value) at (codes "vars")
    (vars_named (key_le (λ (e : Entry). e.key) (member (codes "handler") (tree.Text (codes "vars"))) (member name (tree.Text value))) name value
    (plain_parts (bytes_eq name (codes "handler")) (bytes_eq name (codes "@id")) plain).0)
name_read (set_field name value) at plain = name_is (headers_entries (set_entries name value)) at (codes "headers") refl
name_read (add_field name value) at plain = name_is (headers_entries (add_entries name value)) at (codes "headers") refl
name_read (delete_field name) at plain = name_is (headers_entries (delete_entries name)) at (codes "headers") refl
name_read (redir to code) at plain = name_is (redir_entries to code) at (codes "static_response") refl
name_read (rewrite to) at plain = name_is (rewrite_entries to) at (codes "rewrite") refl
name_read (respond body code) at plain = name_is (respond_entries body code) at (codes "static_response") (respond_named body code)
