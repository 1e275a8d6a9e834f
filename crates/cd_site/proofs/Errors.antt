-- No directive sets the error of a scene.
use Rattle.std.proofs.Common.{◌≡◌, Bool, true, false, not, ◌&&◌, if◌then◌else◌, List, [], ◌∷◌, ◌++◌, Option, None, refl, ap, ap₂, ◌∙◌, subst}
use Rattle.std.specs.Prelude.{Result, Ok, Err}
use Rattle.cd_fill.specs.declared.failure.Failure.{Failure}
use Rattle.cd_fill.specs.declared.scene.Scene.{Scene}
use Rattle.cd_module.specs.declared.pattern.Pattern.{Pattern}
use Rattle.cd_handlers.specs.Failing.{or_failed}
use Rattle.cd_handlers.specs.Fields.{added, replaced}
use Rattle.cd_handlers.specs.Filling.{text_filled}
use Rattle.cd_handlers.specs.Rewrite.{line_rewritten, asking, rewrite_effect}
use Rattle.cd_handlers.specs.StaticResponse.{parts_filled, answered, static_effect}
use Rattle.cd_handlers.specs.Status.{usual_status}
use Rattle.cd_handlers.specs.Vars.{variables_set, with_variable}
use Rattle.cd_handlers.specs.declared.static_response.StaticResponse.{StaticResponse}
use Rattle.cd_handlers.specs.declared.outcome.Effect.{Effect}
use Rattle.cd_handlers.specs.declared.outcome.Effect.TheVariants as effect
use Rattle.cd_routes.specs.Running.{bare_answer}
use Rattle.cd_caddyfile.specs.Sites.{Action, vars, set_field, add_field, delete_field, redir, rewrite, respond, Block, done, act, handle}
use Rattle.cd_site.specs.Sequences as sequences
use Rattle.cd_site.specs.Sequences.{all_changed}
use Rattle.cd_caddyfile.specs.Shape.{is_rewrite}
use Rattle.cd_site.specs.Answering.{holds, filled_field, rewriting, does_action, deletion, with_deletions, Course, on, ends, fails, went, then_on, does, settled}
use Rattle.cd_site.proofs.Blocks.{Same, all_changed_is}

abbrev pub Keeps : Option Failure → Effect → Type 0
Keeps e (effect.Next y) = y.error ≡ e
Keeps e (effect.Answered a) = Unit {0}
Keeps e (effect.Failed y status message) = Unit {0}

or_failed_keeps : {A : Type 0} (e : Option Failure) (x : Scene) (r : Result A _) (f : A → Effect) → ((a : A) → Keeps e (f a)) → Keeps e (or_failed x r f)
or_failed_keeps e x (Ok a) f all = all a
or_failed_keeps e x (Err fault) f all = tt

static_keeps : (e : Option Failure) (s : StaticResponse) (x : Scene) → Keeps e (static_effect s x)
unfolding static_effect
static_keeps e s x = or_failed_keeps e x (parts_filled s x) (λ parts. effect.Answered (answered s x.response parts)) (λ parts. tt)

keeps : (a : Action) (x : Scene) → Keeps x.error (does_action a x)
unfolding does_action variables_set rewrite_effect
keeps (vars name value) x = or_failed_keeps x.error x (text_filled x value) (λ v. effect.Next (with_variable name v x)) (λ v. refl)
keeps (set_field name value) x = or_failed_keeps x.error x (text_filled x value) (λ v. effect.Next (record x { response = replaced (filled_field name v ∷ []) x.response })) (λ v. refl)
keeps (add_field name value) x = or_failed_keeps x.error x (text_filled x value) (λ v. effect.Next (record x { response = added (filled_field name v ∷ []) x.response })) (λ v. refl)
keeps (delete_field name) x = refl
keeps (redir to code) x = static_keeps x.error _ x
keeps (rewrite to) x = or_failed_keeps x.error x (line_rewritten (rewriting to) x) (λ line. effect.Next (asking line x)) (λ line. refl)
keeps (respond body code) x = static_keeps x.error _ x

abbrev pub Stays : Option Failure → Course → Type 0
Stays e (on y ps) = y.error ≡ e
Stays e (ends a) = Unit {0}
Stays e (fails y status) = Unit {0}

went_stays : (e : Option Failure) (eff : Effect) (left ps : List Pattern) (next : Scene → List Pattern → Course) → Keeps e eff →
    ((y : Scene) (more : List Pattern) → y.error ≡ e → Stays e (next y more)) → Stays e (went eff left ps next)
went_stays e (effect.Next y) left ps next kept further = further y (left ++ ps) kept
went_stays e (effect.Answered a) left ps next kept further = tt
went_stays e (effect.Failed y status message) left ps next kept further = tt

then_stays : (e : Option Failure) (c : Course) (next : Scene → List Pattern → Course) → Stays e c →
    ((y : Scene) (more : List Pattern) → y.error ≡ e → Stays e (next y more)) → Stays e (then_on c next)
then_stays e (on y ps) next kept further = further y ps kept
then_stays e (ends a) next kept further = tt
then_stays e (fails y status) next kept further = tt

either_stays : (e : Option Failure) (t : Bool) (c d : Course) → Stays e c → Stays e d → Stays e (if t then c else d)
either_stays e true c d one other = one
either_stays e false c d one other = other

pub errors_stay : (b : Block) (r h : Bool) (e : Option Failure) (x : Scene) (ps : List Pattern) → x.error ≡ e → Stays e (does b r h x ps)
unfolding does
errors_stay done r h e x ps is = is
errors_stay (act m a b) r h e x ps is =
    let go : (r' : Bool) (y : Scene) (more : List Pattern) → y.error ≡ e → Stays e (does b r' h y more) = λ r' y more same. errors_stay b r' h e y more same in
    either_stays e (holds m x && not (is_rewrite a && r)) _ _
    (went_stays e (does_action a x) (deletion a) ps (does b (if is_rewrite a then true else r) h) (subst (λ f. Keeps f (does_action a x)) is (keeps a x)) (λ y more same. go (if is_rewrite a then true else r) y more same))
    (go r x ps is)
errors_stay (handle m inside b) r h e x ps is =
    either_stays e (holds m x && not h) _ _
    (then_stays e (does inside false false x ps) (does b r true) (errors_stay inside false false e x ps is) (λ y more same. errors_stay b r true e y more same))
    (errors_stay b r h e x ps is)

pub settled_same : (c : sequences.Course) (d : Course) → Same c d → Stays None d → sequences.settled c ≡ settled d
settled_same (sequences.on x cs) (on y ps) s st =
    ap (λ z. all_changed cs (bare_answer (usual_status z.error) z)) s.0
    ∙ (ap (λ l. all_changed l (bare_answer (usual_status y.error) y)) s.1
    ∙ (all_changed_is ps (bare_answer (usual_status y.error) y)
    ∙ ap (λ e. with_deletions ps (bare_answer (usual_status e) y)) st))
settled_same (sequences.on x cs) (ends a) s st = elim s [ ]
settled_same (sequences.on x cs) (fails y status) s st = elim s [ ]
settled_same (sequences.ends a) (on y ps) s st = elim s [ ]
settled_same (sequences.ends a) (ends b) s st = s
settled_same (sequences.ends a) (fails y status) s st = elim s [ ]
settled_same (sequences.breaks x code message) (on y ps) s st = elim s [ ]
settled_same (sequences.breaks x code message) (ends a) s st = elim s [ ]
settled_same (sequences.breaks x code message) (fails y status) s st = ap₂ (λ n z. bare_answer n z) s.1 s.0
