-- Part of the main theorem.
-- Entries that follow one another: a draft is opened, given up, superseded and retired.
use Rattle.std.specs.Prelude.{ℕ, zero, suc, ◌+◌, List, [], ◌∷◌, ◌++◌, length, take, slice_get, Option, Some, None}
use Rattle.cd_outside.specs.declared.key.Key.{Key}
use Rattle.cd_legal.specs.declared.plan.Plan.{Plan}
use Rattle.cd_legal.specs.declared.plan.PlanModule.{PlanModule}
use Rattle.cd_legal.specs.declared.plan.PlanApp.{PlanApp}
use Rattle.cd_legal.specs.declared.entry.Entry.{Entry}
use Rattle.cd_legal.specs.declared.entry.Entry.TheVariants.{Made, Started, Stopped, Retire, Cleaned}
use Rattle.cd_legal.specs.declared.state.State.{State}
use Rattle.cd_legal.specs.declared.state.Drafted.{Drafted}
use Rattle.cd_legal.specs.State.{draft_of}

-- ---- opening

-- the instances of these modules are made, each with all its keys, from place i on
abbrev pub made_from : ℕ → ℕ → List PlanModule → List Entry
made_from d i [] = []
made_from d i (x ∷ xs) = Made d i (length x.keys) None ∷ made_from d (i + 1) xs

-- these apps are started, each with all its keys, from place a on
abbrev pub started_from : ℕ → ℕ → List PlanApp → List Entry
started_from d a [] = []
started_from d a (x ∷ xs) = Started d a (length x.keys) None ∷ started_from d (a + 1) xs

-- all instances of the draft are made
abbrev pub all_made : ℕ → Plan → List Entry
all_made d plan = made_from d 0 plan.modules

-- all its apps are started
abbrev pub all_started : ℕ → Plan → List Entry
all_started d plan = started_from d 0 plan.apps

-- both
abbrev pub opened : ℕ → Plan → List Entry
opened d plan = all_made d plan ++ all_started d plan

-- where opening came to a key that could not be opened: at a module or an app, by its place, after so many of its keys
pub data Failure : Type 0 where
  InModule InApp : ℕ → ℕ → Failure

-- what came before has all its keys, and what has failed those before the key
abbrev pub opened_until : ℕ → Plan → Failure → Key → List Entry
opened_until d plan (Failure.InModule i taken) key = made_from d 0 (take i plan.modules) ++ Made d i taken (Some key) ∷ []
opened_until d plan (Failure.InApp a taken) key =
    all_made d plan ++ (started_from d 0 (take a plan.apps) ++ Started d a taken (Some key) ∷ [])

-- ---- ending

-- so many apps are stopped, the last one first
abbrev pub stopped_all : ℕ → ℕ → List Entry
stopped_all d zero = []
stopped_all d (suc n) = Stopped d n ∷ stopped_all d n

-- so many instances are cleaned, the last one first
abbrev pub cleaned_all : ℕ → ℕ → List Entry
cleaned_all d zero = []
cleaned_all d (suc n) = Cleaned d n ∷ cleaned_all d n

-- the apps that were started are stopped, and then the instances that were made are cleaned
abbrev pub ended_all : ℕ → ℕ → ℕ → List Entry
ended_all d made started = stopped_all d started ++ cleaned_all d made

-- so for a draft whose opening has failed
abbrev pub undone_after : ℕ → Plan → Failure → List Entry
undone_after d plan (Failure.InModule i taken) = ended_all d (i + 1) 0
undone_after d plan (Failure.InApp a taken) = ended_all d (length plan.modules) (a + 1)

-- ---- a serial

-- a count of a draft, 0 where there is none
abbrev pub count_in : (Drafted → ℕ) → Option Drafted → ℕ
count_in f None = 0
count_in f (Some x) = f x

-- how many instances are made of the draft
abbrev pub made_in : State → ℕ → ℕ
made_in s d = count_in (λ x. x.made) (slice_get s.drafts d)

-- how many apps of it are started
abbrev pub started_in : State → ℕ → ℕ
started_in s d = count_in (λ x. x.started) (slice_get s.drafts d)

-- the entries for a draft, none where none is named
abbrev pub entries_for : (ℕ → List Entry) → Option ℕ → List Entry
entries_for f None = []
entries_for f (Some d) = f d

-- the apps of the configuration with the serial are stopped
abbrev pub stopped_of : State → ℕ → List Entry
stopped_of s n = entries_for (λ d. stopped_all d (started_in s d)) (draft_of n s.published)

-- its instances are cleaned
abbrev pub cleaned_of : State → ℕ → List Entry
cleaned_of s n = entries_for (λ d. cleaned_all d (made_in s d)) (draft_of n s.published)

-- the block of a serial: it is retired, and its instances are cleaned
abbrev pub block_of : State → ℕ → List Entry
block_of s n = Retire n ∷ cleaned_of s n
