-- What one save does, and what a crash leaves of many.
use Rattle.std.specs.Prelude.{◌≡◌, ◌⊎◌, ℕ, ◌<◌, ◌≤◌, ◌^◌, List, [], ◌∷◌, Option, Some, All}
use Rattle.cd_tree.specs.declared.tree.Tree.{Tree}
use Rattle.cd_outside.specs.declared.given.Given.{Given}
use Rattle.cd_outside.specs.declared.given.Given.TheVariants as given
use Rattle.cd_autosave.specs.Image.{Saved, recovered, rank}
use Rattle.cd_autosave.specs.Disk.{IsDurable, Throughout}
use Rattle.cd_autosave.specs.Saving.{MidSave, StaysTold, held_of, held_after}
use Rattle.cd_autosave.specs.Opening.{IsDamaged, IsOpened, IsTreeText}
use Rattle.cd_autosave.specs.declared.slots.Slots.{Slots}

-- an image that opening takes
abbrev pub IsUndamaged : List ℕ → Type 0
IsUndamaged image = IsDamaged image → ⊥

-- a save that was begun: what it was to save, and what it answered
pub record Attempt : Type 0 where
  pub saved : Saved
  pub answer : Given

-- One save.
pub record IsSave {D : Type 0} (seen : D → Option (List ℕ)) (left_now : D → List ℕ → Type 0) (clock : D → ℕ) (left_at : D → ℕ → List ℕ → Type 0) (attempt : Attempt) (old new : Slots D) : Type 0 where
  -- at each moment of the call each image is one in the middle of it
  pub meanwhile : Throughout clock left_at old.disk new.disk (MidSave (left_now old.disk) (held_of seen old) attempt.saved)
  -- none is damaged, where none was, and a tree's text was to be saved
  pub undamaged : old.found ≤ 2 ^ 62 → IsTreeText attempt.saved.text → ((image : List ℕ) → left_now old.disk image → IsUndamaged image) → Throughout clock left_at old.disk new.disk IsUndamaged
  -- after it each image has a number that is not below this save's
  pub acknowledged : attempt.answer ≡ given.All → (image : List ℕ) → left_now new.disk image → attempt.saved.number < rank (recovered image)
  -- the record that is held then, where the disk tells its bytes
  pub held : (image : List ℕ) → seen new.disk ≡ Some image → held_of seen new ≡ held_after attempt.answer (held_of seen old) attempt.saved
  pub found : new.found ≡ old.found
  pub told : StaysTold (seen old.disk) (seen new.disk)

-- these saves, the last one first, lead from slots to slots
abbrev pub Saves : {D : Type 0} → (Attempt → Slots D → Slots D → Type 0) → List Attempt → Slots D → Slots D → Type 0
Saves {D = D} save [] first now = now ≡ first
Saves {D = D} save (attempt ∷ earlier) first now = (before : Slots D) × Saves save earlier first before × save attempt before now

-- the slots as a disk that tells its bytes is opened
pub record IsBegun {D : Type 0} (seen : D → Option (List ℕ)) (left_now : D → List ℕ → Type 0) (slots : Slots D) : Type 0 where
  pub image : List ℕ
  pub tree : Option Tree
  pub seen_is : seen slots.disk ≡ Some image
  pub durable : IsDurable (seen slots.disk) (left_now slots.disk)
  pub opened : IsOpened (held_of seen slots) slots.found tree image

-- this is the record of one of these saves
abbrev pub IsOneOf : List Attempt → Option Saved → Type 0
IsOneOf [] found = ⊥
IsOneOf (attempt ∷ earlier) found = (found ≡ Some attempt.saved) ⊎ IsOneOf earlier found

-- What is recovered after a crash: the record found at opening or that of a save that was begun, with a number that is not below
-- that of any save among these others that had answered All.
pub record Survives (first : Option Saved) (begun earlier : List Attempt) (found : Option Saved) : Type 0 where
  pub known : (found ≡ first) ⊎ IsOneOf begun found
  pub not_older : All (λ attempt. attempt.answer ≡ given.All → attempt.saved.number < rank found) earlier
