-- What sites answer, by their directives: no routes, no groups, no terminal ones.
use Rattle.std.specs.Prelude.{ℕ, ◌==◌, ◌&&◌, not, Bool, true, false, if◌then◌else◌, List, [], ◌∷◌, ◌++◌, map, filter, find, codes, Option, Some, None, option_map, unwrap_or, is_some}
use Rattle.std.specs.List.{list_all, list_any}
use Rattle.std.specs.Str.{bytes_eq}
use Rattle.http_header.specs.Token.{lowercase}
use Rattle.cd_wire.specs.declared.answer.Answer.{Answer}
use Rattle.cd_wire.specs.declared.fields.Field.{Field}
use Rattle.cd_wire.specs.declared.request.Request.{Request}
use Rattle.cd_module.specs.Patterns.{pattern_of, fits_in_any_case}
use Rattle.cd_module.specs.declared.pattern.Pattern.{Pattern}
use Rattle.cd_fill.specs.Scene.{scene_of}
use Rattle.cd_fill.specs.Values.{bare_host, header_values, query_values}
use Rattle.cd_fill.specs.declared.scene.Scene.{Scene}
use Rattle.cd_match.specs.Host.{host_fits}
use Rattle.cd_match.specs.Header.{values_pass}
use Rattle.cd_match.specs.Query.{is_wanted}
use Rattle.cd_handlers.specs.Changes.{is_star}
use Rattle.cd_handlers.specs.Failing.{or_failed}
use Rattle.cd_handlers.specs.Fields.{added, replaced}
use Rattle.cd_handlers.specs.Filling.{text_filled}
use Rattle.cd_handlers.specs.Rewrite.{rewrite_effect}
use Rattle.cd_handlers.specs.StaticResponse.{static_effect}
use Rattle.cd_handlers.specs.Vars.{variables_set}
use Rattle.cd_handlers.specs.declared.field_values.FieldValues.{FieldValues}
use Rattle.cd_handlers.specs.declared.fields.FilledField.{FilledField}
use Rattle.cd_handlers.specs.declared.outcome.Effect.{Effect}
use Rattle.cd_handlers.specs.declared.outcome.Effect.TheVariants as effect
use Rattle.cd_handlers.specs.declared.rewrite.Rewrite.{Rewrite}
use Rattle.cd_handlers.specs.declared.static_response.StaticResponse.{StaticResponse}
use Rattle.cd_handlers.specs.declared.status.Status.TheVariants.{Code}
use Rattle.cd_caddyfile.specs.Sites.{Wanted, Tests, Action, vars, set_field, add_field, delete_field, redir, rewrite, respond, Block, done, act, handle, Site}
use Rattle.cd_caddyfile.specs.Shape.{is_rewrite, sites_at}

-- ---- matchers

-- a test that is not given holds
abbrev pub where_given : {A : Type 0} → (A → Bool) → Option A → Bool
where_given test None = true
where_given test (Some value) = test value

abbrev pub field_holds : Scene → Wanted → Bool
field_holds x w = values_pass (Some (map pattern_of w.values)) (header_values w.name x.fields)

abbrev pub key_holds : Scene → Wanted → Bool
key_holds x w = list_any (is_wanted w.values) (query_values w.name (unwrap_or x.current.query []))

-- all that is given holds
abbrev pub all_hold : Tests → Scene → Bool
all_hold t x =
    list_all (field_holds x) t.header
    && (where_given (list_any (λ text. host_fits text (bare_host x.host))) t.host
    && (where_given (list_any (bytes_eq x.current.method)) t.method
    && (where_given (list_any (λ text. fits_in_any_case (pattern_of text) x.current.path)) t.path
    && list_all (key_holds x) t.query)))

abbrev pub holds : Option Tests → Scene → Bool
holds matcher x = where_given (λ t. all_hold t x) matcher

-- ---- directives

abbrev pub filled_field : List ℕ → List ℕ → FilledField
filled_field name value = record { name = lowercase name; values = value ∷ [] }

abbrev pub answering : List FieldValues → Option (List ℕ) → Option ℕ → StaticResponse
answering headers body code =
    record { status = option_map (λ n. Code n) code; headers = headers; body = unwrap_or body []; close = false }

abbrev pub rewriting : List ℕ → Rewrite
rewriting to = record { method = None; uri = Some to; strip_path_prefix = None; strip_path_suffix = None; uri_substring = None }

-- what a directive does to a scene; a deletion waits for the answer
unfoldable pub does_action : Action → Scene → Effect
does_action (vars name value) x = variables_set (record { name = name; text = value } ∷ []) x
does_action (set_field name value) x =
    or_failed x (text_filled x value) (λ v. effect.Next (record x { response = replaced (filled_field name v ∷ []) x.response }))
does_action (add_field name value) x =
    or_failed x (text_filled x value) (λ v. effect.Next (record x { response = added (filled_field name v ∷ []) x.response }))
does_action (delete_field name) x = effect.Next x
does_action (redir to code) x = static_effect (answering (record { name = codes "location"; values = to ∷ [] } ∷ []) None (Some code)) x
does_action (rewrite to) x = rewrite_effect (rewriting to) x
does_action (respond body code) x = static_effect (answering [] body code) x

-- the deletion that a directive leaves
abbrev pub deletion : Action → List Pattern
deletion (vars name value) = []
deletion (set_field name value) = []
deletion (add_field name value) = []
deletion (delete_field name) = pattern_of name ∷ []
deletion (redir to code) = []
deletion (rewrite to) = []
deletion (respond body code) = []

-- `*` deletes all fields, and another pattern those whose names fit
abbrev pub without_fitting : Pattern → List Field → List Field
without_fitting pattern fields = if is_star pattern then [] else filter (λ field. not (fits_in_any_case pattern field.name)) fields

-- the deletions, the last first
unfoldable pub deleted : List Pattern → List Field → List Field
deleted [] fields = fields
deleted (pattern ∷ patterns) fields = deleted patterns (without_fitting pattern fields)

abbrev pub with_deletions : List Pattern → Answer → Answer
with_deletions patterns a = record a { fields = deleted patterns a.fields }

-- ---- blocks

-- what becomes of a request in a block: it goes on with the deletions met so far, the last first, or it is answered or fails
pub data Course : Type 0 where
  on : Scene → List Pattern → Course
  ends : Answer → Course
  fails : Scene → ℕ → Course

-- the deletion that a directive leaves comes after those met before, and an answer meets these
abbrev pub went : Effect → List Pattern → List Pattern → (Scene → List Pattern → Course) → Course
went (effect.Next x) left patterns next = next x (left ++ patterns)
went (effect.Answered a) left patterns next = ends (with_deletions patterns a)
went (effect.Failed x status message) left patterns next = fails x status

abbrev pub then_on : Course → (Scene → List Pattern → Course) → Course
then_on (on x patterns) next = next x patterns
then_on (ends a) next = ends a
then_on (fails x status) next = fails x status

-- the directives in order; `rewritten` and `handled` say whether a `rewrite` and a `handle` of this block were done
unfoldable pub does : Block → Bool → Bool → Scene → List Pattern → Course
does done rewritten handled x patterns = on x patterns
does (act m a b) rewritten handled x patterns =
    if holds m x && not (is_rewrite a && rewritten)
    then went (does_action a x) (deletion a) patterns (does b (if is_rewrite a then true else rewritten) handled)
    else does b rewritten handled x patterns
does (handle m inside b) rewritten handled x patterns =
    if holds m x && not handled
    then then_on (does inside false false x patterns) (does b rewritten true)
    else does b rewritten handled x patterns

-- ---- sites

abbrev pub bare : ℕ → Scene → Answer
bare status x = record { status = status; fields = x.response; body = []; close = false }

-- a block that ends without an answer gives a bare one, and a failure its status; no deletion is made there
abbrev pub settled : Course → Answer
settled (on x patterns) = with_deletions patterns (bare 200 x)
settled (ends a) = a
settled (fails x status) = bare status x

abbrev pub host_is : Option (List ℕ) → Scene → Bool
host_is host x = where_given (λ h. host_fits h (bare_host x.host)) host

abbrev pub answered_by : Option Site → Scene → Answer
answered_by None x = bare 200 x
answered_by (Some s) x = settled (does s.block false false x [])

-- what the sites of a port answer to a request
abbrev pub site_answer : List Site → ℕ → Request → Answer
site_answer sites port q =
    answered_by (find (λ s. host_is s.address.host (scene_of q)) (sites_at port sites)) (scene_of q)
