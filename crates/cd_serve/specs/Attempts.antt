-- What a pass does for a change, call by call, and what an attempt to make one comes to.
use Rattle.std.specs.Prelude.{◌≡◌, ◌⊎◌, ℕ, ◌+◌, false, true, List, [], ◌∷◌, ◌++◌, length, take, Option, Some, None}
use Rattle.cd_outside.specs.declared.key.Key.{Key}
use Rattle.cd_tree.specs.declared.tree.Tree.{Tree}
use Rattle.cd_wire.specs.declared.request.Request.{Request}
use Rattle.cd_legal.specs.declared.entry.Entry.{Entry}
use Rattle.cd_legal.specs.declared.entry.Entry.TheVariants.{Draft, Started, Publish, Abandon}
use Rattle.cd_legal.specs.declared.entry.Change.{Change}
use Rattle.cd_legal.specs.declared.entry.Signed.{Signed}
use Rattle.cd_legal.specs.declared.limits.TheConstants.{MAX_DRAFTS}
use Rattle.cd_legal.specs.declared.state.State.{State}
use Rattle.cd_legal.specs.State.{Conf}
use Rattle.cd_legal.specs.Legal.{state_at}
use Rattle.cd_legal.specs.Placed.{Placed, placed_entries}
use Rattle.cd_legal.specs.Runs.{Failure, opened, opened_until, all_made, all_started, started_from, ended_all, stopped_of}
use Rattle.cd_gate.specs.declared.pass.Pass.{Pass}
use Rattle.cd_gate.specs.declared.view.View.{View}
use Rattle.cd_gate.specs.Growing.{Places}
use Rattle.cd_gate.specs.Passes.{view}
use Rattle.cd_desk.specs.declared.drafts.DraftFault.{DraftFault}
use Rattle.cd_desk.specs.declared.drafts.DraftFault.TheVariants as undrafted
use Rattle.cd_life.specs.declared.board.Board.{Board}
use Rattle.cd_life.specs.declared.board.Draft.{Draft as HeldDraft}
use Rattle.cd_hall.specs.declared.hall.Hall.{Hall}
use Rattle.cd_hall.specs.Calls.{IsPassOf}
use Rattle.cd_hall.specs.Drafts.{Held, IsDraftOf, held}
use Rattle.cd_hall.specs.Publishing.{Refusal, refusal}
use Rattle.cd_hall.specs.Spread.{Spread}
use Rattle.cd_hall.specs.Turned.{Turned}
use Rattle.cd_serve.specs.declared.attempting.Attempt.{Attempt}
use Rattle.cd_serve.specs.declared.attempting.Attempt.TheVariants.{Published, Superseded, Refused, Lacking}
use Rattle.cd_serve.specs.declared.fault.ChangeFault.TheVariants.{CannotOpen, StillInUse, NoSerialLeft, NoDraftLeft}
use Rattle.cd_serve.specs.Meanings.{Meaning}
use Rattle.cd_serve.specs.Changes.{IsPublished, IsUndone, IsKept, IsSuperseded}

module _ {T : Type 0} where
  -- between two moments a pass made these entries, each where it stands; its ticket and its duties are as before
  pub record Works (v w : View T) (work : List Placed) : Type 0 where
    pub places : Places v w work
    pub ticket : w.ticket ≡ v.ticket
    pub duties : w.duties ≡ v.duties

  -- the same without their places
  pub record HasMade (v w : View T) (entries : List Entry) : Type 0 where
    pub work : List Placed
    pub works : Works v w work
    pub are : placed_entries work ≡ entries

-- ---- opening

-- a draft that is so far was made, and nothing else
pub record IsDrafted {T : Type 0} (v w : View T) (found : List Signed) (h : Held) : Type 0 where
  pub made : Turned v w found (Draft h.number h.tree h.plan ∷ [])
  pub duties : w.duties ≡ v.duties

-- nothing of the draft is made
pub record IsNewDraft (h : Held) : Type 0 where
  pub made : h.made ≡ 0
  pub started : h.started ≡ 0
  pub unfailed : h.failed ≡ false

-- more of the draft may be made and started: it is the one of this pass of the hall, and no key failed
pub record MayOpen {A F B : Type 0} {g : _} (h : Hall A F B g) (p : Pass (Board A F B g)) (d : HeldDraft A B g) : Type 0 where
  pub pass : IsPassOf h p
  pub draft : IsDraftOf (view p) d
  pub unfailed : (held d).failed ≡ false

-- a draft that was opened up to a key that could not be
abbrev pub failed_held : Held → Failure → Held
failed_held h (Failure.InModule i taken) = record h { made = i + 1; failed = true }
failed_held h (Failure.InApp a taken) = record h { made = length h.plan.modules; started = a + 1; failed = true }

-- how its instances were made: what the draft was before and is after, the entries, and the key that could not be opened, where one
-- could not; then they were made up to it
abbrev pub MakesAll : Held → Held → List Entry → Option Key → Type 0
MakesAll h g entries None = (entries ≡ all_made h.number h.plan) × (g ≡ record h { made = length h.plan.modules })
MakesAll h g entries (Some key) =
    (i : ℕ) × (taken : ℕ) × (entries ≡ opened_until h.number h.plan (Failure.InModule i taken) key) × (g ≡ failed_held h (Failure.InModule i taken))

-- how its apps were started
abbrev pub StartsAll : Held → Held → List Entry → Option Key → Type 0
StartsAll h g entries None = (entries ≡ all_started h.number h.plan) × (g ≡ record h { started = length h.plan.apps })
StartsAll h g entries (Some key) =
    (a : ℕ) × (taken : ℕ) × (entries ≡ started_from h.number 0 (take a h.plan.apps) ++ Started h.number a taken (Some key) ∷ []) × (g ≡ record h { started = a + 1; failed = true })

-- how it was opened
abbrev pub Opens : Held → Held → List Entry → Option Key → Type 0
Opens h g entries None = (entries ≡ opened h.number h.plan) × (g ≡ record h { made = length h.plan.modules; started = length h.plan.apps })
Opens h g entries (Some key) = (f : Failure) × (entries ≡ opened_until h.number h.plan f key) × (g ≡ failed_held h f)

-- ---- publishing

-- what an attempt comes to where nothing may follow the configuration of its serial
abbrev pub refused_by : Refusal → Attempt
refused_by (Refusal.superseded n) = Superseded
refused_by (Refusal.full n) = Refused (StillInUse n)
refused_by Refusal.exhausted = Refused NoSerialLeft

module _ {T : Type 0} where
  -- the draft was published as the serial after this one by the change, and the apps of this one were stopped
  abbrev pub Publishes : View T → View T → ℕ → ℕ → Change → Type 0
  Publishes v w d serial change = (found : List Signed) × Spread v w found (Publish d (serial + 1) serial change ∷ stopped_of (state_at found) serial)

  -- it was given up, with so many instances and apps, once nothing could follow this serial
  pub record GivesUp (v w : View T) (d made started serial : ℕ) (a : Attempt) : Type 0 where
    pub between : View T
    pub asked : List Signed
    pub turned : Turned v between asked []
    pub same : between.duties ≡ v.duties
    pub why : Refusal
    pub refused : Some why ≡ refusal (state_at between.seen) serial
    pub is : a ≡ refused_by why
    pub found : List Signed
    pub gave_up : Spread between w found (Abandon d ∷ ended_all d made started)
    pub later : w.duties ≡ between.duties

  -- one of the two
  abbrev pub Concludes : View T → View T → Held → ℕ → Change → Attempt → Type 0
  Concludes v w h serial change a = ((a ≡ Published) × Publishes v w h.number serial change × (w.duties ≡ v.duties)) ⊎ GivesUp v w h.number h.made h.started serial a

-- ---- an attempt

-- the request asks for this tree under the configuration of a serial
abbrev pub Asks : (Tree → Request → Option Tree) → Conf → Request → Tree → Type 0
Asks makes conf q tree = (before : Tree) × (conf ≡ Conf.Of before) × (makes before q ≡ Some tree)

-- what it comes to where no draft was made
abbrev pub undrafted_by : DraftFault → Attempt
undrafted_by undrafted.Spent = Refused NoDraftLeft
undrafted_by undrafted.NoMemory = Lacking

-- what pass k did for a change to this tree, which a request under the serial asks for, and the state that it saw at the end
abbrev pub Attempted : Meaning → Tree → Request → ℕ → ℕ → State → List Placed → Attempt → Type 0
Attempted m tree q k serial s work Published = IsPublished m tree q serial work
Attempted m tree q k serial s work Superseded = IsSuperseded m tree serial work
Attempted m tree q k serial s work (Refused (CannotOpen key)) = IsUndone m tree key work
Attempted m tree q k serial s work (Refused (StillInUse n)) = IsKept m tree k serial (StillInUse n) work
Attempted m tree q k serial s work (Refused NoSerialLeft) = IsKept m tree k serial NoSerialLeft work
Attempted m tree q k serial s work (Refused NoDraftLeft) = (work ≡ []) × (length s.drafts ≡ MAX_DRAFTS)
Attempted m tree q k serial s work Lacking = work ≡ []
