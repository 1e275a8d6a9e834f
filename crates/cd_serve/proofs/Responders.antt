-- What the responder at an address comes to, by what its set of modules answers.
use Rattle.std.proofs.Common.{◌≡◌, ◌∙◌, sym, refl, subst, ap, Option, None, Some, List, map}
use Rattle.cd_outside.specs.declared.address.Address.{Address}
use Rattle.cd_outside.specs.declared.past.Logged.{Logged}
use Rattle.cd_wire.specs.declared.answer.Answer.{Answer}
use Rattle.cd_wire.specs.declared.request.Request.{Request}
use Rattle.cd_legal.specs.State.{Conf}
use Rattle.cd_module_set.specs.Acts.{Acts, DoAlike, answer_at, by_app, conf_acts}
use Rattle.cd_module_set.specs.declared.target.Line.{Line}
use Rattle.cd_module_set.specs.declared.target.Target.{Target}
use Rattle.cd_module_set.specs.declared.target.Target.TheVariants as who
use Rattle.cd_serve.specs.Meanings.{AppAnswers, Meaning, logged}

-- what is there by an app is of an app
app_there : {A : Type 0} (t : Target) (v w : A) → Some w ≡ by_app t v → (t ≡ who.App) × (w ≡ v)
app_there who.App v w is = (refl, let h : Some w ≡ Some v = is in cc)
app_there who.Admin v w is = absurd (let h : Some w ≡ None = is in cc)
app_there who.Nobody v w is = absurd (let h : Some w ≡ None = is in cc)

-- where nothing is there no app is
no_app_there : {A : Type 0} (t : Target) (v : A) → None ≡ by_app t v → t ≡ who.App → ⊥
no_app_there who.App v is there = let h : None ≡ Some v = is in cc
no_app_there who.Admin v is there = let h : who.Admin ≡ who.App = there in cc
no_app_there who.Nobody v is there = let h : who.Nobody ≡ who.App = there in cc

-- who is neither an app nor the admin API is nobody
pub neither-is-nobody : (t : Target) → (t ≡ who.App → ⊥) → (t ≡ who.Admin → ⊥) → t ≡ who.Nobody
neither-is-nobody who.App not_app not_admin = absurd (not_app refl)
neither-is-nobody who.Admin not_app not_admin = absurd (not_admin refl)
neither-is-nobody who.Nobody not_app not_admin = refl

module _ (m : Meaning) (conf : Conf) (form : Acts) (at : Address) (q : Request) (alike : DoAlike form (conf_acts m.acts conf)) where
  -- no app answers where the responder answers nothing
  pub responds-none : None ≡ answer_at form at q → (conf_acts m.acts conf).target at ≡ who.App → ⊥
  responds-none is = no_app_there ((conf_acts m.acts conf).target at) ((conf_acts m.acts conf).answer at q) (is ∙ alike.answers at q)

  -- what it answers is the answer of an app, and the lines too
  pub responds-some : (r : Answer) (lines : List Line) → Some r ≡ answer_at (conf_acts m.acts conf) at q → lines ≡ form.lines at q r → AppAnswers m conf at q r (map logged lines)
  responds-some r lines is made =
      let there = app_there ((conf_acts m.acts conf).target at) ((conf_acts m.acts conf).answer at q) r is in
      record {
        there = there.0;
        answer = there.1;
        logs = ap (map logged) (made ∙ (app_there ((conf_acts m.acts conf).target at) ((conf_acts m.acts conf).lines at q r) (form.lines at q r)
            (subst (λ (t : Target). by_app t (form.lines at q r) ≡ by_app ((conf_acts m.acts conf).target at) ((conf_acts m.acts conf).lines at q r)) (alike.targets at ∙ there.0) (alike.lines at q r))).1);
      }
