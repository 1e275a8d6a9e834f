-- What opens and ends drafts publishes nothing.
use Rattle.std.proofs.Common.{◌≡◌, ◌∙◌, ℕ, zero, suc, ◌+◌, List, [], ◌∷◌, ◌++◌, length, take, Option, Some, None, refl, ap}
use Rattle.cd_outside.specs.declared.key.Key.{Key}
use Rattle.cd_legal.specs.declared.plan.Plan.{Plan}
use Rattle.cd_legal.specs.declared.plan.PlanModule.{PlanModule}
use Rattle.cd_legal.specs.declared.plan.PlanApp.{PlanApp}
use Rattle.cd_legal.specs.declared.entry.Entry.{Entry}
use Rattle.cd_legal.specs.declared.entry.Entry.TheVariants as entry
use Rattle.cd_legal.specs.Runs.{Failure, made_from, started_from, opened_until, stopped_all, cleaned_all, undone_after, entries_for}
use Rattle.cd_legal.specs.Serials.{publishings}

-- more that publishes nothing leaves the count
pub more-none : (xs ys : List Entry) → publishings ys ≡ 0 → publishings (xs ++ ys) ≡ publishings xs
more-none [] ys none = none
more-none (entry.Publish d n from change ∷ xs) ys none = ap (λ (n : ℕ). suc n) (more-none xs ys none)
more-none (entry.Draft d tree plan ∷ xs) ys none = more-none xs ys none
more-none (entry.Made d i taken failed ∷ xs) ys none = more-none xs ys none
more-none (entry.Started d a taken failed ∷ xs) ys none = more-none xs ys none
more-none (entry.Stopped d a ∷ xs) ys none = more-none xs ys none
more-none (entry.Cleaned d i ∷ xs) ys none = more-none xs ys none
more-none (entry.Abandon d ∷ xs) ys none = more-none xs ys none
more-none (entry.Begin k n ∷ xs) ys none = more-none xs ys none
more-none (entry.Finish k ∷ xs) ys none = more-none xs ys none
more-none (entry.Retire n ∷ xs) ys none = more-none xs ys none
more-none (entry.Halt n ∷ xs) ys none = more-none xs ys none

-- two lists that publish nothing
pub none-both : (xs ys : List Entry) → publishings xs ≡ 0 → publishings ys ≡ 0 → publishings (xs ++ ys) ≡ 0
none-both xs ys one two = more-none xs ys two ∙ one

-- ---- what opens and ends publishes nothing

pub made-none : (d i : ℕ) (xs : List PlanModule) → publishings (made_from d i xs) ≡ 0
made-none d i [] = refl
made-none d i (x ∷ xs) = made-none d (i + 1) xs

pub started-none : (d a : ℕ) (xs : List PlanApp) → publishings (started_from d a xs) ≡ 0
started-none d a [] = refl
started-none d a (x ∷ xs) = started-none d (a + 1) xs

pub stopped-none : (d n : ℕ) → publishings (stopped_all d n) ≡ 0
stopped-none d zero = refl
stopped-none d (suc n) = stopped-none d n

pub cleaned-none : (d n : ℕ) → publishings (cleaned_all d n) ≡ 0
cleaned-none d zero = refl
cleaned-none d (suc n) = cleaned-none d n

pub until-none : (d : ℕ) (plan : Plan) (failure : Failure) (key : Key) → publishings (opened_until d plan failure key) ≡ 0
until-none d plan (Failure.InModule i taken) key =
    none-both (made_from d 0 (take i plan.modules)) (entry.Made d i taken (Some key) ∷ []) (made-none d 0 (take i plan.modules)) refl
until-none d plan (Failure.InApp a taken) key =
    none-both (made_from d 0 plan.modules) (started_from d 0 (take a plan.apps) ++ entry.Started d a taken (Some key) ∷ []) (made-none d 0 plan.modules)
    (none-both (started_from d 0 (take a plan.apps)) (entry.Started d a taken (Some key) ∷ []) (started-none d 0 (take a plan.apps)) refl)

pub undone-none : (d : ℕ) (plan : Plan) (failure : Failure) → publishings (undone_after d plan failure) ≡ 0
undone-none d plan (Failure.InModule i taken) = none-both (stopped_all d 0) (cleaned_all d (i + 1)) (stopped-none d 0) (cleaned-none d (i + 1))
undone-none d plan (Failure.InApp a taken) = none-both (stopped_all d (a + 1)) (cleaned_all d (length plan.modules)) (stopped-none d (a + 1)) (cleaned-none d (length plan.modules))

pub for-none : (f : ℕ → List Entry) → ((d : ℕ) → publishings (f d) ≡ 0) → (o : Option ℕ) → publishings (entries_for f o) ≡ 0
for-none f none None = refl
for-none f none (Some d) = none d
