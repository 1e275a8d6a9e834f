-- A run whose first configuration was refused has published none.
use Rattle.std.proofs.Common.{◌≡◌, ◌≤◌, ℕ, zero, suc, ◌+◌, Bool, true, false, cond, List, [], ◌∷◌, ◌++◌, length, take, Option, Some, None, refl, ap, sym, ◌∙◌, eq-eqb, arith}
use Rattle.cd_outside.specs.declared.key.Key.{Key}
use Rattle.cd_tree.specs.declared.tree.Tree.{Tree}
use Rattle.cd_legal.specs.declared.plan.Plan.{Plan}
use Rattle.cd_legal.specs.declared.plan.PlanModule.{PlanModule}
use Rattle.cd_legal.specs.declared.plan.PlanApp.{PlanApp}
use Rattle.cd_legal.specs.declared.entry.Entry.{Entry}
use Rattle.cd_legal.specs.declared.entry.Entry.TheVariants as entry
use Rattle.cd_legal.specs.declared.entry.Signed.{Signed}
use Rattle.cd_legal.specs.declared.state.State.{State}
use Rattle.cd_legal.specs.Entry.{entries, mine}
use Rattle.cd_legal.specs.Legal.{state_at}
use Rattle.cd_legal.specs.Runs.{Failure, made_from, started_from, opened_until, stopped_all, cleaned_all, undone_after, entries_for, made_in, started_in}
use Rattle.cd_legal.specs.Serials.{publishings}
use Rattle.cd_legal.specs.State.{draft_of}
use Rattle.cd_legal.proofs.Logs.{entries-append, mine-append}
use Rattle.cd_gate.specs.Growing.{all_signed}
use Rattle.cd_serve.specs.Episodes.{another_halted}
use Rattle.cd_serve.specs.Meanings.{Meaning}
use Rattle.cd_host.specs.Parts.{HasParts, IsAlone, end_entries}
use Rattle.cd_host.specs.Program.{Start, start_entries, halt_entries}
use Rattle.cd_host.specs.Runs.{Observed, Ran}

-- two lists that publish nothing
none-both : (xs ys : List Entry) → publishings xs ≡ 0 → publishings ys ≡ 0 → publishings (xs ++ ys) ≡ 0
none-both [] ys one two = two
none-both (entry.Publish d n from change ∷ xs) ys one two = absurd (omega (arith, one))
none-both (entry.Draft d tree plan ∷ xs) ys one two = none-both xs ys one two
none-both (entry.Made d i taken failed ∷ xs) ys one two = none-both xs ys one two
none-both (entry.Started d a taken failed ∷ xs) ys one two = none-both xs ys one two
none-both (entry.Stopped d a ∷ xs) ys one two = none-both xs ys one two
none-both (entry.Cleaned d i ∷ xs) ys one two = none-both xs ys one two
none-both (entry.Abandon d ∷ xs) ys one two = none-both xs ys one two
none-both (entry.Begin k n ∷ xs) ys one two = none-both xs ys one two
none-both (entry.Finish k ∷ xs) ys one two = none-both xs ys one two
none-both (entry.Retire n ∷ xs) ys one two = none-both xs ys one two
none-both (entry.Halt n ∷ xs) ys one two = none-both xs ys one two

-- ---- what opens and ends publishes nothing

made-none : (d i : ℕ) (xs : List PlanModule) → publishings (made_from d i xs) ≡ 0
made-none d i [] = refl
made-none d i (x ∷ xs) = made-none d (i + 1) xs

started-none : (d a : ℕ) (xs : List PlanApp) → publishings (started_from d a xs) ≡ 0
started-none d a [] = refl
started-none d a (x ∷ xs) = started-none d (a + 1) xs

stopped-none : (d n : ℕ) → publishings (stopped_all d n) ≡ 0
stopped-none d zero = refl
stopped-none d (suc n) = stopped-none d n

cleaned-none : (d n : ℕ) → publishings (cleaned_all d n) ≡ 0
cleaned-none d zero = refl
cleaned-none d (suc n) = cleaned-none d n

until-none : (d : ℕ) (plan : Plan) (failure : Failure) (key : Key) → publishings (opened_until d plan failure key) ≡ 0
until-none d plan (Failure.InModule i taken) key =
    none-both (made_from d 0 (take i plan.modules)) (entry.Made d i taken (Some key) ∷ []) (made-none d 0 (take i plan.modules)) refl
until-none d plan (Failure.InApp a taken) key =
    none-both (made_from d 0 plan.modules) (started_from d 0 (take a plan.apps) ++ entry.Started d a taken (Some key) ∷ []) (made-none d 0 plan.modules)
    (none-both (started_from d 0 (take a plan.apps)) (entry.Started d a taken (Some key) ∷ []) (started-none d 0 (take a plan.apps)) refl)

undone-none : (d : ℕ) (plan : Plan) (failure : Failure) → publishings (undone_after d plan failure) ≡ 0
undone-none d plan (Failure.InModule i taken) = none-both (stopped_all d 0) (cleaned_all d (i + 1)) (stopped-none d 0) (cleaned-none d (i + 1))
undone-none d plan (Failure.InApp a taken) = none-both (stopped_all d (a + 1)) (cleaned_all d (length plan.modules)) (stopped-none d (a + 1)) (cleaned-none d (length plan.modules))

for-none : (f : ℕ → List Entry) → ((d : ℕ) → publishings (f d) ≡ 0) → (o : Option ℕ) → publishings (entries_for f o) ≡ 0
for-none f none None = refl
for-none f none (Some d) = none d

-- ---- the start and the end

start-none : (first : Tree) (plan : Plan) (failure : Failure) (key : Key) → publishings (start_entries first plan (Start.refused failure key)) ≡ 0
start-none first plan failure key =
    none-both (opened_until 0 plan failure key) (entry.Abandon 0 ∷ (undone_after 0 plan failure ++ entry.Finish 0 ∷ [])) (until-none 0 plan failure key)
    (none-both (undone_after 0 plan failure) (entry.Finish 0 ∷ []) (undone-none 0 plan failure) refl)

halt-none : (s : State) → publishings (halt_entries s) ≡ 0
halt-none s =
    let stopped = λ (d : ℕ). stopped_all d (started_in s d) in
    let cleaned = λ (d : ℕ). cleaned_all d (made_in s d) in
    none-both (entries_for stopped (draft_of s.serial s.published)) (entry.Retire s.serial ∷ entries_for cleaned (draft_of s.serial s.published))
    (for-none stopped (λ d. stopped-none d (started_in s d)) (draft_of s.serial s.published))
    (for-none cleaned (λ d. cleaned-none d (made_in s d)) (draft_of s.serial s.published))

end-none : (log : List Signed) → publishings (end_entries log) ≡ 0
end-none log = here (another_halted 0 log)
  where
    here : (b : Bool) → publishings (cond b [] (halt_entries (state_at log))) ≡ 0
    here true = refl
    here false = halt-none (state_at log)

-- ---- who has signed

none-left : {A : Type 0} (xs ys : List A) → xs ++ ys ≡ [] → xs ≡ []
none-left [] ys is = refl
none-left (x ∷ xs) ys is = absurd (let e : x ∷ (xs ++ ys) ≡ [] = is in cc)

none-right : {A : Type 0} (xs ys : List A) → xs ++ ys ≡ [] → ys ≡ []
none-right [] ys is = is
none-right (x ∷ xs) ys is = absurd (let e : x ∷ (xs ++ ys) ≡ [] = is in cc)

entries-all : (k : ℕ) (es : List Entry) → entries (all_signed k es) ≡ es
entries-all k [] = refl
entries-all k (e ∷ es) = ap (λ (l : List Entry). e ∷ l) (entries-all k es)

-- what nobody has signed is empty
signed-by-none : (log : List Signed) → ((k : ℕ) → mine k log ≡ []) → log ≡ []
signed-by-none [] none = refl
signed-by-none (x ∷ xs) none =
    let here : x ∷ mine x.by xs ≡ [] = sym (ap (λ (b : Bool). cond b (x ∷ mine x.by xs) (mine x.by xs)) (eq-eqb x.by x.by refl)) ∙ none x.by in
    absurd (let e = here in cc)

-- the lanes have signed nothing
lanes-none : (first : Tree) (plan : Plan) (start : Start) (history : List Signed) (parts : HasParts first plan start history) → IsAlone history → parts.lanes ≡ []
lanes-none first plan start history parts alone =
    let front : List Signed = all_signed 0 (start_entries first plan start) in
    let end : List Signed = all_signed 0 (end_entries (front ++ parts.lanes)) in
    let other : (k : ℕ) → 1 ≤ k → mine k parts.lanes ≡ [] = λ k pos.
    none-right (mine k front) (mine k parts.lanes) (sym (mine-append k front parts.lanes)
    ∙ none-left (mine k (front ++ parts.lanes)) (mine k end) (sym (mine-append k (front ++ parts.lanes) end) ∙ (ap (mine k) (sym parts.whole) ∙ alone k pos))) in
    signed-by-none parts.lanes (each parts.others other)
  where
    each : mine 0 parts.lanes ≡ [] → ((k : ℕ) → 1 ≤ k → mine k parts.lanes ≡ []) → (k : ℕ) → mine k parts.lanes ≡ []
    each own other zero = own
    each own other (suc k) = other (suc k) (omega arith)

pub refused-publishes-nothing : (m : Meaning) (first : Tree) (failure : Failure) (key : Key) (given : Observed) → Ran m first (Start.refused failure key) false given → given.published ≡ 0
refused-publishes-nothing m first failure key given ran =
    let parts = ran.parts in
    let start : List Entry = start_entries first ran.plan (Start.refused failure key) in
    let front : List Signed = all_signed 0 start in
    let end : List Entry = end_entries (front ++ parts.lanes) in
    let lanes : entries parts.lanes ≡ [] = ap entries (lanes-none first ran.plan (Start.refused failure key) ran.history parts (ran.alone refl)) in
    let are : entries ran.history ≡ (start ++ entries parts.lanes) ++ end =
    ap entries parts.whole ∙ (entries-append (front ++ parts.lanes) (all_signed 0 end)
    ∙ (ap (λ (es : List Entry). entries (front ++ parts.lanes) ++ es) (entries-all 0 end)
    ∙ ap (λ (es : List Entry). es ++ end) (entries-append front parts.lanes ∙ ap (λ (es : List Entry). es ++ entries parts.lanes) (entries-all 0 start)))) in
    ran.published ∙ (ap publishings are
    ∙ none-both (start ++ entries parts.lanes) end (none-both start (entries parts.lanes) (start-none first ran.plan failure key) (ap publishings lanes)) (end-none (front ++ parts.lanes)))
