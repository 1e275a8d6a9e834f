-- Entries of instances and apps alone, among which there is neither a halt nor a publishing.
use Rattle.std.proofs.Common.{◌≡◌, ℕ, zero, suc, ◌+◌, ◌||◌, Bool, true, false, List, [], ◌∷◌, ◌++◌, take, length, Some, refl, ap, sym, ◌∙◌}
use Rattle.std.specs.List.{list_any}
use Rattle.cd_outside.specs.declared.key.Key.{Key}
use Rattle.cd_tree.specs.declared.tree.Tree.{Tree}
use Rattle.cd_legal.specs.declared.plan.Plan.{Plan}
use Rattle.cd_legal.specs.declared.plan.PlanModule.{PlanModule}
use Rattle.cd_legal.specs.declared.plan.PlanApp.{PlanApp}
use Rattle.cd_legal.specs.declared.entry.Change.TheVariants as change
use Rattle.cd_legal.specs.declared.entry.Entry.{Entry}
use Rattle.cd_legal.specs.declared.entry.Entry.TheVariants.{Made, Started, Publish, Abandon, Stopped, Finish, Retire, Cleaned, Halt}
use Rattle.cd_legal.specs.Runs.{Failure, made_from, started_from, all_made, all_started, opened, opened_until, stopped_all, cleaned_all, ended_all, undone_after}
use Rattle.cd_serve.specs.Episodes.{is_halt}
use Rattle.cd_host.specs.Program.{Start, start_entries}

-- it is of an instance or an app
abbrev pub is_part : Entry → Bool
is_part (Made d i taken failed) = true
is_part (Started d a taken failed) = true
is_part (Stopped d a) = true
is_part (Cleaned d i) = true
is_part e = false

-- so each of these
abbrev pub Parts : List Entry → Type 0
Parts [] = Unit {0}
Parts (e ∷ es) = (is_part e ≡ true) × Parts es

pub parts-append : (xs ys : List Entry) → Parts xs → Parts ys → Parts (xs ++ ys)
parts-append [] ys one two = two
parts-append (x ∷ xs) ys one two = (one.0, parts-append xs ys one.1 two)

pub made-parts : (d i : ℕ) (ms : List PlanModule) → Parts (made_from d i ms)
made-parts d i [] = tt
made-parts d i (m ∷ ms) = (refl, made-parts d (i + 1) ms)

pub started-parts : (d a : ℕ) (xs : List PlanApp) → Parts (started_from d a xs)
started-parts d a [] = tt
started-parts d a (x ∷ xs) = (refl, started-parts d (a + 1) xs)

pub stopped-parts : (d n : ℕ) → Parts (stopped_all d n)
stopped-parts d zero = tt
stopped-parts d (suc n) = (refl, stopped-parts d n)

pub cleaned-parts : (d n : ℕ) → Parts (cleaned_all d n)
cleaned-parts d zero = tt
cleaned-parts d (suc n) = (refl, cleaned-parts d n)

pub opened-parts : (d : ℕ) (plan : Plan) → Parts (opened d plan)
opened-parts d plan = parts-append (all_made d plan) (all_started d plan) (made-parts d 0 plan.modules) (started-parts d 0 plan.apps)

pub until-parts : (d : ℕ) (plan : Plan) (failure : Failure) (key : Key) → Parts (opened_until d plan failure key)
until-parts d plan (Failure.InModule i taken) key =
    parts-append (made_from d 0 (take i plan.modules)) (Made d i taken (Some key) ∷ []) (made-parts d 0 (take i plan.modules)) (refl, tt)
until-parts d plan (Failure.InApp a taken) key =
    parts-append (all_made d plan) (started_from d 0 (take a plan.apps) ++ Started d a taken (Some key) ∷ []) (made-parts d 0 plan.modules)
    (parts-append (started_from d 0 (take a plan.apps)) (Started d a taken (Some key) ∷ []) (started-parts d 0 (take a plan.apps)) (refl, tt))

pub ended-parts : (d made started : ℕ) → Parts (ended_all d made started)
ended-parts d made started = parts-append (stopped_all d started) (cleaned_all d made) (stopped-parts d started) (cleaned-parts d made)

pub undone-parts : (d : ℕ) (plan : Plan) (failure : Failure) → Parts (undone_after d plan failure)
undone-parts d plan (Failure.InModule i taken) = ended-parts d (i + 1) 0
undone-parts d plan (Failure.InApp a taken) = ended-parts d (length plan.modules) (a + 1)

-- ---- no halt

not-a-halt : (e : Entry) → is_part e ≡ true → is_halt e ≡ false
not-a-halt (Halt n) is = sym is
not-a-halt e is = refl

-- what follows these halts where all of it does
pub no-halt-then : (xs ys : List Entry) → Parts xs → list_any is_halt (xs ++ ys) ≡ list_any is_halt ys
no-halt-then [] ys all = refl
no-halt-then (x ∷ xs) ys all = ap (λ (b : Bool). b || list_any is_halt (xs ++ ys)) (not-a-halt x all.0) ∙ no-halt-then xs ys all.1

-- the program starts without a halt
pub no-halt-at-start : (first : Tree) (plan : Plan) (start : Start) → list_any is_halt (start_entries first plan start) ≡ false
no-halt-at-start first plan Start.published = no-halt-then (opened 0 plan) (Publish 0 1 0 change.First ∷ Finish 0 ∷ Retire 0 ∷ []) (opened-parts 0 plan)
no-halt-at-start first plan (Start.refused failure key) =
    no-halt-then (opened_until 0 plan failure key) (Abandon 0 ∷ (undone_after 0 plan failure ++ Finish 0 ∷ [])) (until-parts 0 plan failure key)
    ∙ no-halt-then (undone_after 0 plan failure) (Finish 0 ∷ []) (undone-parts 0 plan failure)
no-halt-at-start first plan Start.undrafted = refl
no-halt-at-start first plan Start.unbegun = refl
