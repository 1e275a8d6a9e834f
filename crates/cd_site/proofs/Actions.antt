-- A directive does what the handler does that it comes to.
use Rattle.std.proofs.Common.{◌≡◌, ℕ, Bool, true, false, ◌||◌, List, [], ◌∷◌, refl, ap, ap₂, filter}
use Rattle.std.specs.Prelude.{codes, Result, Ok, Err}
use Rattle.cd_wire.specs.Fields.{is_named}
use Rattle.cd_wire.specs.declared.fields.Field.{Field}
use Rattle.cd_fill.specs.declared.scene.Scene.{Scene}
use Rattle.cd_handlers.specs.Changes.{changed_by, values_filled}
use Rattle.cd_handlers.specs.Effect as handlers
use Rattle.cd_handlers.specs.Effect.{deferred}
use Rattle.cd_handlers.specs.Fields.{added, replaced}
use Rattle.cd_handlers.specs.Filling.{text_filled, all_filled, fields_filled}
use Rattle.cd_handlers.specs.Headers.{both_filled, goes_on, headers_effect}
use Rattle.cd_handlers.specs.declared.outcome.Effect.TheVariants as effect
use Rattle.cd_caddyfile.specs.Sites.{Action, vars, set_field, add_field, delete_field, redir, rewrite, respond}
use Rattle.cd_site.specs.Answering.{does_action, filled_field}
use Rattle.cd_site.specs.Settings.{setting_of}

filter_true : {A : Type 0} (p : A → Bool) (xs : List A) → ((a : A) → p a ≡ true) → filter p xs ≡ xs
filter_true p [] all = refl
filter_true p (x ∷ xs) all = rw (all x) (ap (λ l. x ∷ l) (filter_true p xs all))

or_true : (b : Bool) → (b || true) ≡ true
or_true true = refl
or_true false = refl

request_stays : (fields : List Field) → filter (λ field. is_named (codes "host") field || true) fields ≡ fields
request_stays fields = filter_true (λ field. is_named (codes "host") field || true) fields (λ field. or_true (is_named (codes "host") field))

answer_stays : (fields : List Field) → filter (λ field. true) fields ≡ fields
answer_stays fields = filter_true (λ field. true) fields (λ field. refl)

set_is : (name value : List ℕ) (x : Scene) → handlers.effect (setting_of (set_field name value)) x ≡ does_action (set_field name value) x
unfolding handlers.effect setting_of does_action headers_effect both_filled values_filled fields_filled all_filled goes_on changed_by added replaced
set_is name value x = by (text_filled x value) refl
  where
    by : (r : Result (List ℕ) _) → text_filled x value ≡ r → handlers.effect (setting_of (set_field name value)) x ≡ does_action (set_field name value) x
    by (Ok v) is = rw is (ap₂ (λ f a. effect.Next (record x { fields = f; response = a })) (request_stays x.fields) (answer_stays (replaced (filled_field name v ∷ []) x.response)))
    by (Err fault) is = rw is refl

add_is : (name value : List ℕ) (x : Scene) → handlers.effect (setting_of (add_field name value)) x ≡ does_action (add_field name value) x
unfolding handlers.effect setting_of does_action headers_effect both_filled values_filled fields_filled all_filled goes_on changed_by added replaced
add_is name value x = by (text_filled x value) refl
  where
    by : (r : Result (List ℕ) _) → text_filled x value ≡ r → handlers.effect (setting_of (add_field name value)) x ≡ does_action (add_field name value) x
    by (Ok v) is = rw is (ap₂ (λ f a. effect.Next (record x { fields = f; response = a })) (request_stays x.fields) (answer_stays (added (filled_field name v ∷ []) x.response)))
    by (Err fault) is = rw is refl

delete_is : (name : List ℕ) (x : Scene) → handlers.effect (setting_of (delete_field name)) x ≡ does_action (delete_field name) x
unfolding handlers.effect setting_of does_action headers_effect both_filled values_filled fields_filled all_filled goes_on changed_by added replaced
delete_is name x = ap (λ f. effect.Next (record x { fields = f })) (request_stays x.fields)

pub action_is : (a : Action) (x : Scene) → handlers.effect (setting_of a) x ≡ does_action a x
unfolding handlers.effect setting_of does_action
action_is (vars name value) x = refl
action_is (set_field name value) x = set_is name value x
action_is (add_field name value) x = add_is name value x
action_is (delete_field name) x = delete_is name x
action_is (redir to code) x = refl
action_is (rewrite to) x = refl
action_is (respond body code) x = refl
