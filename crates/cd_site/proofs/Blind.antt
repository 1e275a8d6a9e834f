-- No handler and no matcher sees the groups of a scene.
use Rattle.std.proofs.Common.{◌≡◌, ℕ, Bool, List, [], ◌∷◌, ◌++◌, Option, Some, None, refl, ap, ap₂, ◌∙◌, ◌&&◌}
use Rattle.std.specs.Prelude.{Result, Ok, Err, ⊤}
use Rattle.std.specs.List.{list_any, list_all, before_first, after_last}
use Rattle.cd_wire.specs.Targets.{is_question_mark, query_of}
use Rattle.cd_fill.specs.Filling.{open_brace, named, placeholder, encoded_placeholder, closed_piece, pieces_filled, filled_as, fill_as, bounded}
use Rattle.cd_fill.specs.Values.{value, request_value, kept_value}
use Rattle.cd_fill.specs.declared.form.Form.{Form}
use Rattle.cd_fill.specs.declared.form.Form.TheVariants.{Plain, Path, Query}
use Rattle.cd_fill.specs.declared.scene.Scene.{Scene}
use Rattle.cd_handlers.specs.Changes.{values_filled, changes_filled}
use Rattle.cd_handlers.specs.Effect as handlers
use Rattle.cd_handlers.specs.Effect.{deferred}
use Rattle.cd_handlers.specs.Error.{failure_filled, error_effect}
use Rattle.cd_handlers.specs.Failing.{or_failed}
use Rattle.cd_handlers.specs.Filling.{or_unable, text_filled, all_filled, fields_filled}
use Rattle.cd_handlers.specs.Invoke.{invoked}
use Rattle.cd_handlers.specs.Headers.{both_filled, goes_on, headers_effect, headers_deferred}
use Rattle.cd_handlers.specs.Rewrite.{method_filled, path_filled, query_filled, target_filled, suffix_filled, prefix_filled, substring_filled, each_filled, substrings_filled, rewrite_filled, line_rewritten, asking, rewrite_effect}
use Rattle.cd_handlers.specs.StaticResponse.{parts_filled, answered, static_effect}
use Rattle.cd_handlers.specs.Status.{status_given, usual_status}
use Rattle.cd_handlers.specs.Vars.{variables_set, with_variable}
use Rattle.cd_handlers.specs.declared.changes.Changes.{Changes}
use Rattle.cd_handlers.specs.declared.error.StaticError.{StaticError}
use Rattle.cd_handlers.specs.declared.field_values.FieldValues.{FieldValues}
use Rattle.cd_handlers.specs.declared.handler.Handler.{Handler}
use Rattle.cd_handlers.specs.declared.handler.Handler.TheVariants as kind
use Rattle.cd_handlers.specs.declared.headers.Headers.{Headers}
use Rattle.cd_handlers.specs.declared.outcome.Effect.{Effect}
use Rattle.cd_handlers.specs.declared.outcome.Effect.TheVariants as effect
use Rattle.cd_handlers.specs.declared.rewrite.MethodText.{MethodText}
use Rattle.cd_handlers.specs.declared.rewrite.Rewrite.{Rewrite}
use Rattle.cd_handlers.specs.declared.rewrite.Substring.{Substring}
use Rattle.cd_handlers.specs.declared.static_response.StaticResponse.{StaticResponse}
use Rattle.cd_handlers.specs.declared.status.Status.{Status}
use Rattle.cd_handlers.specs.declared.status.Status.TheVariants.{Code, Template}
use Rattle.cd_handlers.specs.declared.vars.Setting.{Setting}
use Rattle.cd_match.specs.Header.{field_passes}
use Rattle.cd_match.specs.Holds.{matches, matcher_holds, some_set_holds, holds}
use Rattle.cd_match.specs.Not.{none_holds}
use Rattle.cd_match.specs.Vars.{variable_passes}
use Rattle.cd_match.specs.declared.matcher.Matcher.{fold-Matcher}
use Rattle.cd_match.specs.declared.matcher.Matcher.TheOpen.{Matcher-F}
use Rattle.cd_match.specs.declared.matcher.MatcherSet.{MatcherSet, out-MatcherSet}
use Rattle.cd_match.specs.declared.sets.Sets.{Sets}
use Rattle.cd_match.specs.declared.vars.VariableTest.{VariableTest}
use Rattle.cd_site.specs.Sequences.{Sequence, done, act, once, inside, HasNoInvoke}

-- ---- what doesn't see groups

abbrev pub regrouped : List (List ℕ) → Scene → Scene
regrouped gs x = record x { groups = gs }

abbrev pub effect_regrouped : List (List ℕ) → Effect → Effect
effect_regrouped gs (effect.Next x) = effect.Next (regrouped gs x)
effect_regrouped gs (effect.Answered a) = effect.Answered a
effect_regrouped gs (effect.Failed x status message) = effect.Failed (regrouped gs x) status message

pub record IsBlindSets (m : Sets) : Type 0 where
  pub same : (gs : List (List ℕ)) (x : Scene) → holds m (regrouped gs x) ≡ holds m x

-- a handler that is no `invoke`
pub record IsBlindHandler (h : Handler) : Type 0 where
  pub itself : invoked h ≡ None
  pub effects : (gs : List (List ℕ)) (x : Scene) → handlers.effect h (regrouped gs x) ≡ effect_regrouped gs (handlers.effect h x)
  pub leaves : (gs : List (List ℕ)) (x : Scene) → deferred h (regrouped gs x) ≡ deferred h x

-- all matchers and handlers of a sequence
abbrev pub AreBlind : Sequence → Type 0
AreBlind done = ⊤
AreBlind (act m h p) = IsBlindSets m × IsBlindHandler h × AreBlind p
AreBlind (once m h p) = IsBlindSets m × IsBlindHandler h × AreBlind p
AreBlind (inside m i p) = IsBlindSets m × AreBlind i × AreBlind p

-- ---- filling

value_blind : (gs : List (List ℕ)) (x : Scene) (name : List ℕ) → value (regrouped gs x) name ≡ value x name
unfolding value request_value kept_value
value_blind gs x name = refl

named_blind : (form : Form) (gs : List (List ℕ)) (x : Scene) (name : List ℕ) → named form (regrouped gs x) name ≡ named form x name
unfolding named placeholder encoded_placeholder value request_value kept_value
named_blind Plain gs x name = refl
named_blind Path gs x name = refl
named_blind Query gs x name = refl

closed_blind : (form : Form) (gs : List (List ℕ)) (x : Scene) (piece : List ℕ) → closed_piece form (regrouped gs x) piece ≡ closed_piece form x piece
unfolding closed_piece
closed_blind form gs x piece = rw (named_blind form gs x (after_last open_brace piece)) refl

pieces_blind : (form : Form) (gs : List (List ℕ)) (x : Scene) (pieces : List (List ℕ)) → pieces_filled form (regrouped gs x) pieces ≡ pieces_filled form x pieces
unfolding pieces_filled
pieces_blind form gs x [] = refl
pieces_blind form gs x (piece ∷ []) = refl
pieces_blind form gs x (piece ∷ (next ∷ pieces)) = ap₂ (λ a b. a ++ b) (closed_blind form gs x piece) (pieces_blind form gs x (next ∷ pieces))

pub fill_blind : (form : Form) (gs : List (List ℕ)) (x : Scene) (text : List ℕ) → fill_as form (regrouped gs x) text ≡ fill_as form x text
unfolding filled_as
fill_blind form gs x text = ap bounded (pieces_blind form gs x _)

pub text_blind : (gs : List (List ℕ)) (x : Scene) (text : List ℕ) → text_filled (regrouped gs x) text ≡ text_filled x text
unfolding text_filled
text_blind gs x text = ap or_unable (fill_blind Plain gs x text)

all_blind : (gs : List (List ℕ)) (x : Scene) (texts : List (List ℕ)) → all_filled (regrouped gs x) texts ≡ all_filled x texts
unfolding all_filled
all_blind gs x [] = refl
all_blind gs x (text ∷ texts) = rw (text_blind gs x text, all_blind gs x texts) refl

fields_blind : (gs : List (List ℕ)) (x : Scene) (fields : List FieldValues) → fields_filled (regrouped gs x) fields ≡ fields_filled x fields
unfolding fields_filled
fields_blind gs x [] = refl
fields_blind gs x (field ∷ fields) = rw (all_blind gs x field.values, fields_blind gs x fields) refl

values_blind : (gs : List (List ℕ)) (x : Scene) (c : Changes) → values_filled (regrouped gs x) c ≡ values_filled x c
unfolding values_filled
values_blind gs x c = rw (fields_blind gs x c.add, fields_blind gs x c.set) refl

changes_blind : (gs : List (List ℕ)) (x : Scene) (c : Changes) → changes_filled (regrouped gs x) c ≡ changes_filled x c
unfolding changes_filled
changes_blind gs x c = rw (values_blind gs x c) refl

-- ---- handlers

or_failed_blind : {A : Type 0} (gs : List (List ℕ)) (x : Scene) (r : Result A _) (seen blind : A → Effect) →
    ((a : A) → seen a ≡ effect_regrouped gs (blind a)) → or_failed (regrouped gs x) r seen ≡ effect_regrouped gs (or_failed x r blind)
or_failed_blind gs x (Ok value) seen blind same = same value
or_failed_blind gs x (Err fault) seen blind same = refl

both_blind : (s : Headers) (gs : List (List ℕ)) (x : Scene) → both_filled s (regrouped gs x) ≡ both_filled s x
unfolding both_filled
both_blind s gs x = rw (values_blind gs x s.request, values_blind gs x s.response.changes) refl

headers_blind : (s : Headers) (gs : List (List ℕ)) (x : Scene) → headers_effect s (regrouped gs x) ≡ effect_regrouped gs (headers_effect s x)
unfolding headers_effect goes_on
headers_blind s gs x = ap (λ r. or_failed (regrouped gs x) r (λ both. effect.Next (goes_on s (regrouped gs x) both))) (both_blind s gs x)
    ∙ or_failed_blind gs x (both_filled s x) (λ both. effect.Next (goes_on s (regrouped gs x) both)) (λ both. effect.Next (goes_on s x both)) (λ both. refl)

deferred_blind : (s : Headers) (gs : List (List ℕ)) (x : Scene) → headers_deferred s (regrouped gs x) ≡ headers_deferred s x
unfolding headers_deferred
deferred_blind s gs x = rw (changes_blind gs x s.response.changes) refl

status_blind : (s : Option Status) (usual : ℕ) (gs : List (List ℕ)) (x : Scene) → status_given s usual (regrouped gs x) ≡ status_given s usual x
unfolding status_given
status_blind None usual gs x = refl
status_blind (Some (Code code)) usual gs x = refl
status_blind (Some (Template text)) usual gs x = rw (text_blind gs x text) refl

parts_blind : (s : StaticResponse) (gs : List (List ℕ)) (x : Scene) → parts_filled s (regrouped gs x) ≡ parts_filled s x
unfolding parts_filled
parts_blind s gs x = rw (status_blind s.status (usual_status x.error) gs x, fields_blind gs x s.headers, text_blind gs x s.body) refl

static_blind : (s : StaticResponse) (gs : List (List ℕ)) (x : Scene) → static_effect s (regrouped gs x) ≡ effect_regrouped gs (static_effect s x)
unfolding static_effect
static_blind s gs x = ap (λ r. or_failed (regrouped gs x) r (λ parts. effect.Answered (answered s x.response parts))) (parts_blind s gs x)
    ∙ or_failed_blind gs x (parts_filled s x) (λ parts. effect.Answered (answered s x.response parts)) (λ parts. effect.Answered (answered s x.response parts)) (λ parts. refl)

vars_blind : (settings : List Setting) (gs : List (List ℕ)) (x : Scene) → variables_set settings (regrouped gs x) ≡ effect_regrouped gs (variables_set settings x)
unfolding variables_set
vars_blind [] gs x = refl
vars_blind (s ∷ settings) gs x = ap (λ r. or_failed (regrouped gs x) r (λ v. variables_set settings (with_variable s.name v (regrouped gs x)))) (text_blind gs x s.text)
    ∙ or_failed_blind gs x (text_filled x s.text) (λ v. variables_set settings (with_variable s.name v (regrouped gs x))) (λ v. variables_set settings (with_variable s.name v x))
    (λ v. vars_blind settings gs (with_variable s.name v x))

failure_blind : (s : StaticError) (gs : List (List ℕ)) (x : Scene) → failure_filled s (regrouped gs x) ≡ failure_filled s x
unfolding failure_filled
failure_blind s gs x = rw (status_blind s.status 500 gs x, text_blind gs x s.message) refl

error_blind : (s : StaticError) (gs : List (List ℕ)) (x : Scene) → error_effect s (regrouped gs x) ≡ effect_regrouped gs (error_effect s x)
unfolding error_effect
error_blind s gs x = ap (λ r. or_failed (regrouped gs x) r (λ failure. effect.Failed (regrouped gs x) failure.status failure.message)) (failure_blind s gs x)
    ∙ or_failed_blind gs x (failure_filled s x) _ (λ failure. effect.Failed x failure.status failure.message) (λ failure. refl)

-- ---- rewrite

method_blind : (gs : List (List ℕ)) (x : Scene) (m : Option MethodText) → method_filled (regrouped gs x) m ≡ method_filled x m
unfolding method_filled
method_blind gs x None = refl
method_blind gs x (Some method) = rw (text_blind gs x method.text) refl

path_blind : (gs : List (List ℕ)) (x : Scene) (path : List ℕ) → path_filled (regrouped gs x) path ≡ path_filled x path
unfolding path_filled
path_blind gs x [] = refl
path_blind gs x (byte ∷ text) = rw (fill_blind Path gs x (byte ∷ text)) refl

query_blind : (gs : List (List ℕ)) (x : Scene) (query : Option (List ℕ)) → query_filled (regrouped gs x) query ≡ query_filled x query
unfolding query_filled
query_blind gs x None = refl
query_blind gs x (Some text) = rw (fill_blind Query gs x text) refl

target_blind : (gs : List (List ℕ)) (x : Scene) (uri : Option (List ℕ)) → target_filled (regrouped gs x) uri ≡ target_filled x uri
unfolding target_filled
target_blind gs x None = refl
target_blind gs x (Some uri) = rw (path_blind gs x (before_first is_question_mark uri), query_blind gs x (query_of uri)) refl

prefix_blind : (gs : List (List ℕ)) (x : Scene) (text : Option (List ℕ)) → prefix_filled (regrouped gs x) text ≡ prefix_filled x text
unfolding prefix_filled
prefix_blind gs x None = refl
prefix_blind gs x (Some text) = rw (text_blind gs x text) refl

suffix_blind : (gs : List (List ℕ)) (x : Scene) (text : Option (List ℕ)) → suffix_filled (regrouped gs x) text ≡ suffix_filled x text
unfolding suffix_filled
suffix_blind gs x None = refl
suffix_blind gs x (Some text) = rw (text_blind gs x text) refl

substring_blind : (gs : List (List ℕ)) (x : Scene) (s : Substring) → substring_filled (regrouped gs x) s ≡ substring_filled x s
unfolding substring_filled
substring_blind gs x s = rw (text_blind gs x s.find, text_blind gs x s.replace) refl

each_blind : (gs : List (List ℕ)) (x : Scene) (ss : List Substring) → each_filled (regrouped gs x) ss ≡ each_filled x ss
unfolding each_filled
each_blind gs x [] = refl
each_blind gs x (s ∷ ss) = rw (substring_blind gs x s, each_blind gs x ss) refl

substrings_blind : (gs : List (List ℕ)) (x : Scene) (ss : Option (List Substring)) → substrings_filled (regrouped gs x) ss ≡ substrings_filled x ss
unfolding substrings_filled
substrings_blind gs x None = refl
substrings_blind gs x (Some ss) = rw (each_blind gs x ss) refl

rewriting_blind : (s : Rewrite) (gs : List (List ℕ)) (x : Scene) → rewrite_filled s (regrouped gs x) ≡ rewrite_filled s x
unfolding rewrite_filled
rewriting_blind s gs x = rw (method_blind gs x s.method, target_blind gs x s.uri, prefix_blind gs x s.strip_path_prefix, suffix_blind gs x s.strip_path_suffix, substrings_blind gs x s.uri_substring) refl

line_blind : (s : Rewrite) (gs : List (List ℕ)) (x : Scene) → line_rewritten s (regrouped gs x) ≡ line_rewritten s x
unfolding line_rewritten
line_blind s gs x = rw (rewriting_blind s gs x) refl

rewrite_blind : (s : Rewrite) (gs : List (List ℕ)) (x : Scene) → rewrite_effect s (regrouped gs x) ≡ effect_regrouped gs (rewrite_effect s x)
unfolding rewrite_effect
rewrite_blind s gs x = ap (λ r. or_failed (regrouped gs x) r (λ line. effect.Next (asking line (regrouped gs x)))) (line_blind s gs x)
    ∙ or_failed_blind gs x (line_rewritten s x) (λ line. effect.Next (asking line (regrouped gs x))) (λ line. effect.Next (asking line x)) (λ line. refl)

-- ---- the law

effects_blind : (h : Handler) (gs : List (List ℕ)) (x : Scene) → handlers.effect h (regrouped gs x) ≡ effect_regrouped gs (handlers.effect h x)
unfolding handlers.effect
effects_blind (kind.StaticResponse s) gs x = static_blind s gs x
effects_blind (kind.Headers s) gs x = headers_blind s gs x
effects_blind (kind.Rewrite s) gs x = rewrite_blind s gs x
effects_blind (kind.Vars s) gs x = vars_blind s.settings gs x
effects_blind (kind.Error s) gs x = error_blind s gs x
effects_blind (kind.Invoke s) gs x = refl

leaves_blind : (h : Handler) (gs : List (List ℕ)) (x : Scene) → deferred h (regrouped gs x) ≡ deferred h x
unfolding deferred
leaves_blind (kind.StaticResponse s) gs x = refl
leaves_blind (kind.Headers s) gs x = deferred_blind s gs x
leaves_blind (kind.Rewrite s) gs x = refl
leaves_blind (kind.Vars s) gs x = refl
leaves_blind (kind.Error s) gs x = refl
leaves_blind (kind.Invoke s) gs x = refl

pub handlers_are_blind : (h : Handler) → invoked h ≡ None → IsBlindHandler h
handlers_are_blind h itself = record { itself = itself; effects = effects_blind h; leaves = leaves_blind h }

-- ---- matchers

variable_blind : (gs : List (List ℕ)) (x : Scene) (t : VariableTest) → variable_passes (regrouped gs x) t ≡ variable_passes x t
unfolding variable_passes
variable_blind gs x t = rw (fill_blind Plain gs x t.key) refl

tests_blind : (gs : List (List ℕ)) (x : Scene) (ts : List VariableTest) → list_all (variable_passes (regrouped gs x)) ts ≡ list_all (variable_passes x) ts
tests_blind gs x [] = refl
tests_blind gs x (t ∷ ts) = ap₂ (λ a b. a && b) (variable_blind gs x t) (tests_blind gs x ts)

matches_blind : (gs : List (List ℕ)) (x : Scene) (m : Matcher-F Bool Bool Bool) → matches (regrouped gs x) m ≡ matches x m
unfolding field_passes
matches_blind gs x (Matcher-F.Host matcher) = refl
matches_blind gs x (Matcher-F.Path matcher) = refl
matches_blind gs x (Matcher-F.Method matcher) = refl
matches_blind gs x (Matcher-F.Header matcher) = refl
matches_blind gs x (Matcher-F.Query matcher) = refl
matches_blind gs x (Matcher-F.Vars matcher) = tests_blind gs x matcher.tests
matches_blind gs x (Matcher-F.Not holds) = refl

same_matches : (gs : List (List ℕ)) (x : Scene) → matches (regrouped gs x) ≡ matches x
same_matches gs x = λ i m. matches_blind gs x m i

matcher_blind : (gs : List (List ℕ)) (x : Scene) → matcher_holds (regrouped gs x) ≡ matcher_holds x
unfolding matcher_holds
matcher_blind gs x = ap (λ f. fold-Matcher Bool Bool Bool f (λ set. list_all (λ holds. holds) set.matchers) (λ none. none_holds none.sets)) (same_matches gs x)

some_blind : (gs : List (List ℕ)) (x : Scene) (sets : List MatcherSet) → some_set_holds (regrouped gs x) sets ≡ some_set_holds x sets
some_blind gs x [] = refl
some_blind gs x (first ∷ others) = ap (λ f. list_any (λ set. list_all f (out-MatcherSet set).matchers) (first ∷ others)) (matcher_blind gs x)

pub sets_are_blind : (m : Sets) → IsBlindSets m
unfolding holds
sets_are_blind m = record { same = λ gs x. some_blind gs x m.sets }

pub sequences_are_blind : (p : Sequence) → HasNoInvoke p → AreBlind p
sequences_are_blind done own = tt
sequences_are_blind (act m h p) own = (sets_are_blind m, handlers_are_blind h own.0, sequences_are_blind p own.1)
sequences_are_blind (once m h p) own = (sets_are_blind m, handlers_are_blind h own.0, sequences_are_blind p own.1)
sequences_are_blind (inside m i p) own = (sets_are_blind m, sequences_are_blind i own.0, sequences_are_blind p own.1)
