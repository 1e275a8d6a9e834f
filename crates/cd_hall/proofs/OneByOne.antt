-- What is left of a draft is ended one after another.
use Rattle.std.proofs.Common.{◌≡◌, ◌<◌, ◌≤◌, ℕ, zero, suc, ◌-◌, List, [], ◌∷◌, ◌++◌, refl, sym, ap, ◌∙◌, subst, arith}
use Rattle.std.proofs.lemmas.List.{append-nil, append_assoc}
use Rattle.cd_legal.specs.declared.entry.Entry.{Entry}
use Rattle.cd_legal.specs.declared.entry.Entry.TheVariants.{Stopped, Cleaned}
use Rattle.cd_legal.specs.Runs.{stopped_all, cleaned_all}
use Rattle.cd_gate.specs.declared.view.View.{View}
use Rattle.cd_gate.specs.Knowing.{Knows}
use Rattle.cd_desk.specs.declared.closing.Closing.{Closing}
use Rattle.cd_hall.specs.GoesOn.{GoesOn}
use Rattle.cd_hall.proofs.Goes.{goes_none, goes_both}

one_stopped : (d a : ℕ) → 0 < a → Stopped d (a - 1) ∷ stopped_all d (a - 1) ≡ stopped_all d a
one_stopped d zero more = absurd (omega arith)
one_stopped d (suc n) more = ap (λ (m : ℕ). Stopped d m ∷ stopped_all d m) (let e : suc n - 1 ≡ n = omega arith in e)

one_cleaned : (d a : ℕ) → 0 < a → Cleaned d (a - 1) ∷ cleaned_all d (a - 1) ≡ cleaned_all d a
one_cleaned d zero more = absurd (omega arith)
one_cleaned d (suc n) more = ap (λ (m : ℕ). Cleaned d m ∷ cleaned_all d m) (let e : suc n - 1 ≡ n = omega arith in e)

module _ {T : Type 0} where
  -- the pass has gone on by some of these entries, and the rest is left
  abbrev pub GoesSoFar : View T → View T → List Entry → List Entry → Type 0
  GoesSoFar v w all rest = (done : List Entry) × GoesOn v w done × (done ++ rest ≡ all)

  pub far_none : (v : View T) (all : List Entry) → Knows v → GoesSoFar v v all all
  far_none v all knows = ([], goes_none v knows, refl)

  far_more : (v w x : View T) (all rest left : List Entry) (e : Entry) → GoesSoFar v w all rest → GoesOn w x (e ∷ []) → e ∷ left ≡ rest → GoesSoFar v x all left
  far_more v w x all rest left e f g is = (
    f.0 ++ e ∷ [],
    goes_both v w x f.0 (e ∷ []) f.1 g,
    append_assoc f.0 (e ∷ []) left ∙ (ap (λ (l : List Entry). f.0 ++ l) is ∙ f.2),
  )

  far_all : (v w : View T) (all rest : List Entry) → GoesSoFar v w all rest → rest ≡ [] → GoesOn v w all
  far_all v w all rest f none = subst (λ (l : List Entry). GoesOn v w l) (sym (append-nil f.0) ∙ (ap (λ (l : List Entry). f.0 ++ l) (sym none) ∙ f.2)) f.1

  -- with one of them the others make the whole
  pub stops_on : (v w x : View T) (all : List Entry) (c k : Closing) → 0 < c.apps → GoesSoFar v w all (stopped_all c.number c.apps) → GoesOn w x (Stopped c.number (c.apps - 1) ∷ []) → k ≡ record c { apps = c.apps - 1 } → GoesSoFar v x all (stopped_all k.number k.apps)
  stops_on v w x all c k more f g is =
      subst (λ (z : Closing). GoesSoFar v x all (stopped_all z.number z.apps)) (sym is)
      (far_more v w x all (stopped_all c.number c.apps) (stopped_all c.number (c.apps - 1)) (Stopped c.number (c.apps - 1)) f g (one_stopped c.number c.apps more))

  pub cleans_on : (v w x : View T) (all : List Entry) (c k : Closing) → 0 < c.instances → GoesSoFar v w all (cleaned_all c.number c.instances) → GoesOn w x (Cleaned c.number (c.instances - 1) ∷ []) → k ≡ record c { instances = c.instances - 1 } → GoesSoFar v x all (cleaned_all k.number k.instances)
  cleans_on v w x all c k more f g is =
      subst (λ (z : Closing). GoesSoFar v x all (cleaned_all z.number z.instances)) (sym is)
      (far_more v w x all (cleaned_all c.number c.instances) (cleaned_all c.number (c.instances - 1)) (Cleaned c.number (c.instances - 1)) f g (one_cleaned c.number c.instances more))

  -- none is left
  pub stops_over : (v w : View T) (all : List Entry) (c : Closing) → c.apps ≡ 0 → GoesSoFar v w all (stopped_all c.number c.apps) → GoesOn v w all
  stops_over v w all c none f = far_all v w all (stopped_all c.number c.apps) f (ap (λ (n : ℕ). stopped_all c.number n) none)

  pub cleans_over : (v w : View T) (all : List Entry) (c : Closing) → c.instances ≡ 0 → GoesSoFar v w all (cleaned_all c.number c.instances) → GoesOn v w all
  cleans_over v w all c none f = far_all v w all (cleaned_all c.number c.instances) f (ap (λ (n : ℕ). cleaned_all c.number n) none)

pub no_app : (c : Closing) → c.apps ≡ 0 → c ≡ record c { apps = 0 }
no_app c none = λ i. record c { apps = none i }

pub no_instance : (c : Closing) → c.instances ≡ 0 → c ≡ record c { instances = 0 }
no_instance c none = λ i. record c { instances = none i }

-- all but the apps is the same, or all but the instances
pub same_stopped : (c k z : Closing) → z ≡ record c { apps = c.apps - 1 } → record c { apps = 0 } ≡ record k { apps = 0 } → record z { apps = 0 } ≡ record k { apps = 0 }
same_stopped c k z is was = ap (λ (y : Closing). record y { apps = 0 }) is ∙ was

pub same_cleaned : (c k z : Closing) → z ≡ record c { instances = c.instances - 1 } → record c { instances = 0 } ≡ record k { instances = 0 } → record z { instances = 0 } ≡ record k { instances = 0 }
same_cleaned c k z is was = ap (λ (y : Closing). record y { instances = 0 }) is ∙ was

pub none_left : (left n : ℕ) → left ≡ n → left ≤ 0 → n ≡ 0
none_left left n is none = omega arith

pub some_left : (left n : ℕ) → left ≡ n → 0 < left → 0 < n
some_left left n is more = omega arith
