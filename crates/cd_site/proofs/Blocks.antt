-- A block means what its sequence means.
use Rattle.std.proofs.Common.{◌≡◌, Bool, true, false, not, ◌&&◌, ◌||◌, if◌then◌else◌, List, [], ◌∷◌, ◌++◌, map, Option, Some, None, refl, sym, ap, ap₂, ◌∙◌, subst, filter}
use Rattle.cd_wire.specs.declared.answer.Answer.{Answer}
use Rattle.cd_wire.specs.declared.fields.Field.{Field}
use Rattle.cd_fill.specs.declared.scene.Scene.{Scene}
use Rattle.cd_match.specs.declared.sets.Sets.{Sets}
use Rattle.cd_module.specs.Patterns.{fits_in_any_case}
use Rattle.cd_module.specs.declared.pattern.Pattern.{Pattern}
use Rattle.cd_handlers.specs.Changes.{changed, changed_by, is_star, values_filled, changes_filled}
use Rattle.cd_handlers.specs.Effect as handlers
use Rattle.cd_handlers.specs.Effect.{deferred}
use Rattle.cd_handlers.specs.Fields.{added, replaced}
use Rattle.cd_handlers.specs.Filling.{fields_filled}
use Rattle.cd_handlers.specs.Invoke.{invoked}
use Rattle.cd_handlers.specs.Headers.{headers_deferred}
use Rattle.cd_handlers.specs.declared.changes.FilledChanges.{FilledChanges}
use Rattle.cd_handlers.specs.declared.outcome.Effect.{Effect}
use Rattle.cd_handlers.specs.declared.outcome.Effect.TheVariants as effect
use Rattle.cd_caddyfile.specs.Sites.{Tests, Action, vars, set_field, add_field, delete_field, redir, rewrite, respond, Block, done, act, handle}
use Rattle.cd_site.specs.Sequences as sequences
use Rattle.cd_site.specs.Sequences.{HasNoInvoke, all_changed, push}
use Rattle.cd_caddyfile.specs.Shape.{is_rewrite}
use Rattle.cd_site.specs.Answering.{holds, does_action, deletion, without_fitting, deleted, with_deletions, Course, on, ends, fails, went, then_on, does}
use Rattle.cd_site.specs.Settings.{setting_of, sets_of, sequence_of}
use Rattle.cd_site.proofs.Actions.{action_is}
use Rattle.cd_site.proofs.Matchers.{sets_hold}

-- ---- deletions

abbrev pub change_of : Pattern → FilledChanges
change_of pattern = record { values = record { add = []; set = [] }; delete = pattern ∷ [] }

abbrev pub first_change : List Pattern → Option FilledChanges
first_change [] = None
first_change (pattern ∷ patterns) = Some (change_of pattern)

leaves_are : (a : Action) (x : Scene) → deferred (setting_of a) x ≡ first_change (deletion a)
unfolding deferred setting_of headers_deferred changes_filled values_filled fields_filled
leaves_are (vars name value) x = refl
leaves_are (set_field name value) x = refl
leaves_are (add_field name value) x = refl
leaves_are (delete_field name) x = refl
leaves_are (redir to code) x = refl
leaves_are (rewrite to) x = refl
leaves_are (respond body code) x = refl

pushed : (a : Action) (ps : List Pattern) → push (first_change (deletion a)) (map change_of ps) ≡ map change_of (deletion a ++ ps)
pushed (vars name value) ps = refl
pushed (set_field name value) ps = refl
pushed (add_field name value) ps = refl
pushed (delete_field name) ps = refl
pushed (redir to code) ps = refl
pushed (rewrite to) ps = refl
pushed (respond body code) ps = refl

filter_none : {A : Type 0} (xs : List A) → filter (λ x. false) xs ≡ []
filter_none [] = refl
filter_none (x ∷ xs) = filter_none xs

filter_same : {A : Type 0} (p q : A → Bool) (xs : List A) → ((a : A) → p a ≡ q a) → filter p xs ≡ filter q xs
filter_same p q [] same = refl
filter_same p q (x ∷ xs) same = ap₂ (λ t l. if t then x ∷ l else l) (same x) (filter_same p q xs same)

or_false : (b : Bool) → (b || false) ≡ b
or_false true = refl
or_false false = refl

changed_is : (p : Pattern) (fields : List Field) → changed (change_of p) fields ≡ without_fitting p fields
unfolding changed_by added replaced
changed_is p fields = go (is_star p) refl
  where
    go : (t : Bool) → is_star p ≡ t → changed (change_of p) fields ≡ without_fitting p fields
    go true is = rw is (ap (λ l. filter (λ (field : Field). true) l) (filter_none fields))
    go false is = rw is (filter_same (λ field. not (fits_in_any_case p field.name || false)) (λ field. not (fits_in_any_case p field.name)) fields
        (λ field. ap not (or_false (fits_in_any_case p field.name))))

pub all_changed_is : (ps : List Pattern) (a : Answer) → all_changed (map change_of ps) a ≡ with_deletions ps a
unfolding all_changed deleted
all_changed_is [] a = refl
all_changed_is (p ∷ ps) a = ap (λ f. all_changed (map change_of ps) (record a { fields = f })) (changed_is p a.fields)
    ∙ all_changed_is ps (record a { fields = without_fitting p a.fields })

-- ---- courses

-- the same course, with a message that a directive's failure does not show
abbrev pub Same : sequences.Course → Course → Type 0
Same (sequences.on x cs) (on y ps) = (x ≡ y) × (cs ≡ map change_of ps)
Same (sequences.on x cs) (ends a) = ⊥
Same (sequences.on x cs) (fails y status) = ⊥
Same (sequences.ends a) (on y ps) = ⊥
Same (sequences.ends a) (ends b) = a ≡ b
Same (sequences.ends a) (fails y status) = ⊥
Same (sequences.breaks x code message) (on y ps) = ⊥
Same (sequences.breaks x code message) (ends a) = ⊥
Same (sequences.breaks x code message) (fails y status) = (x ≡ y) × (code ≡ status)

chosen : (s t : Bool) (a b : sequences.Course) (c d : Course) → s ≡ t → Same a c → Same b d → Same (if s then a else b) (if t then c else d)
chosen s t a b c d same one other = subst (λ u. Same (if u then a else b) (if t then c else d)) (sym same) (by t)
  where
    by : (u : Bool) → Same (if u then a else b) (if u then c else d)
    by true = one
    by false = other

acted : (a : Action) (e : Effect) (ps : List Pattern) (next : Scene → List FilledChanges → sequences.Course) (next' : Scene → List Pattern → Course) →
    ((y : Scene) → Same (next y (map change_of (deletion a ++ ps))) (next' y (deletion a ++ ps))) →
    Same (sequences.went e (first_change (deletion a)) (map change_of ps) next) (went e (deletion a) ps next')
acted a (effect.Next y) ps next next' further = subst (λ cs. Same (next y cs) (next' y (deletion a ++ ps))) (sym (pushed a ps)) (further y)
acted a (effect.Answered b) ps next next' further = all_changed_is ps b
acted a (effect.Failed y status message) ps next next' further = (refl, refl)

chained : (c : sequences.Course) (d : Course) (next : Scene → List FilledChanges → sequences.Course) (next' : Scene → List Pattern → Course) → Same c d →
    ((y : Scene) (ps : List Pattern) → Same (next y (map change_of ps)) (next' y ps)) → Same (sequences.then_on c next) (then_on d next')
chained (sequences.on x cs) (on y ps) next next' same further =
    subst (λ z. Same (next z cs) (next' y ps)) (sym same.0) (subst (λ l. Same (next y l) (next' y ps)) (sym same.1) (further y ps))
chained (sequences.on x cs) (ends a) next next' same further = elim same [ ]
chained (sequences.on x cs) (fails y status) next next' same further = elim same [ ]
chained (sequences.ends a) (on y ps) next next' same further = elim same [ ]
chained (sequences.ends a) (ends b) next next' same further = same
chained (sequences.ends a) (fails y status) next next' same further = elim same [ ]
chained (sequences.breaks x code message) (on y ps) next next' same further = elim same [ ]
chained (sequences.breaks x code message) (ends a) next next' same further = elim same [ ]
chained (sequences.breaks x code message) (fails y status) next next' same further = same

-- ---- blocks

acted_in : (a : Action) (x : Scene) (ps : List Pattern) (next : Scene → List FilledChanges → sequences.Course) (next' : Scene → List Pattern → Course) →
    ((y : Scene) (more : List Pattern) → Same (next y (map change_of more)) (next' y more)) →
    Same (sequences.went (handlers.effect (setting_of a) x) (deferred (setting_of a) x) (map change_of ps) next) (went (does_action a x) (deletion a) ps next')
acted_in a x ps next next' further =
    subst (λ e. Same (sequences.went e (deferred (setting_of a) x) (map change_of ps) next) (went (does_action a x) (deletion a) ps next')) (sym (action_is a x))
    (subst (λ left. Same (sequences.went (does_action a x) left (map change_of ps) next) (went (does_action a x) (deletion a) ps next')) (sym (leaves_are a x))
    (acted a (does_action a x) ps next next' (λ y. further y (deletion a ++ ps))))

and_true : (b : Bool) → b ≡ (b && true)
and_true true = refl
and_true false = refl

act_case : (m : Option Tests) (a : Action) (b : Block) (r h : Bool) (x : Scene) (ps : List Pattern) (t : Bool) → is_rewrite a ≡ t →
    ((r' h' : Bool) (y : Scene) (more : List Pattern) → Same (sequences.does (sequence_of b) r' h' y (map change_of more)) (does b r' h' y more)) →
    Same (sequences.does (sequence_of (act m a b)) r h x (map change_of ps)) (does (act m a b) r h x ps)
unfolding sequences.does does sequence_of
act_case m a b r h x ps true is known = rw is (chosen _ _ _ _ _ _ (ap (λ t. t && not r) (sets_hold m x))
    (acted_in a x ps (sequences.does (sequence_of b) true h) (does b true h) (λ y more. known true h y more)) (known r h x ps))
act_case m a b r h x ps false is known = rw is (chosen _ _ _ _ _ _ (sets_hold m x ∙ and_true (holds m x))
    (acted_in a x ps (sequences.does (sequence_of b) r h) (does b r h) (λ y more. known r h y more)) (known r h x ps))

pub blocks_are_sequences : (b : Block) (r h : Bool) (x : Scene) (ps : List Pattern) → Same (sequences.does (sequence_of b) r h x (map change_of ps)) (does b r h x ps)
unfolding sequences.does does sequence_of
blocks_are_sequences done r h x ps = (refl, refl)
blocks_are_sequences (act m a b) r h x ps = act_case m a b r h x ps (is_rewrite a) refl (λ r' h' y more. blocks_are_sequences b r' h' y more)
blocks_are_sequences (handle m inside b) r h x ps =
    chosen _ _ _ _ _ _ (ap (λ t. t && not h) (sets_hold m x))
    (chained (sequences.does (sequence_of inside) false false x (map change_of ps)) (does inside false false x ps) (sequences.does (sequence_of b) r true) (does b r true)
    (blocks_are_sequences inside false false x ps) (λ y more. blocks_are_sequences b r true y more)) (blocks_are_sequences b r h x ps)

-- ---- no directive is an `invoke`

own_setting : (a : Action) → invoked (setting_of a) ≡ None
unfolding setting_of
own_setting (vars name value) = refl
own_setting (set_field name value) = refl
own_setting (add_field name value) = refl
own_setting (delete_field name) = refl
own_setting (redir to code) = refl
own_setting (rewrite to) = refl
own_setting (respond body code) = refl

either_own : (m : Option Tests) (a : Action) (b : Block) (t : Bool) → HasNoInvoke (sequence_of b) →
    HasNoInvoke (if t then sequences.once (sets_of m) (setting_of a) (sequence_of b) else sequences.act (sets_of m) (setting_of a) (sequence_of b))
either_own m a b true own = (own_setting a, own)
either_own m a b false own = (own_setting a, own)

pub blocks_have_no_invoke : (b : Block) → HasNoInvoke (sequence_of b)
unfolding sequence_of
blocks_have_no_invoke done = tt
blocks_have_no_invoke (act m a b) = either_own m a b (is_rewrite a) (blocks_have_no_invoke b)
blocks_have_no_invoke (handle m inside b) = (blocks_have_no_invoke inside, blocks_have_no_invoke b)
