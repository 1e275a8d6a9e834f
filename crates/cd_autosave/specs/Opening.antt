-- What is found as a file is opened, and when a file is damaged.
use Rattle.std.specs.Prelude.{◌≡◌, ◌⊎◌, ◌<◌, ℕ, true, List, length, Option, Some, None, nat_lt, if◌then◌else◌, Ok}
use Rattle.cd_outside.specs.declared.limits.TheConstants.{MAX_KEPT_BYTES}
use Rattle.cd_tree.specs.Reading.{tree_of}
use Rattle.cd_tree.specs.declared.tree.Tree.{Tree}
use Rattle.cd_autosave.specs.Places.{start_of, other}
use Rattle.cd_autosave.specs.Image.{Saved, slot_at, gate_at, recovered}
use Rattle.cd_autosave.specs.Saving.{IsWhole}
use Rattle.cd_autosave.specs.declared.limits.TheConstants.{MAX_NUMBER}
use Rattle.cd_autosave.specs.declared.slot.Slot.{Slot}
use Rattle.cd_autosave.specs.declared.slot.Slot.TheVariants.{First, Second}
use Rattle.cd_autosave.specs.declared.slot.Gate.{Gate}
use Rattle.cd_autosave.specs.declared.slots.Slots.{Slots}
use Rattle.cd_autosave.specs.declared.found.Record.{Record}
use Rattle.cd_autosave.specs.declared.found.Found.{Found}

-- ---- damage

-- these bytes are the text of a tree, or of none
abbrev pub IsTreeText : List ℕ → Type 0
IsTreeText text = (tree : Tree) × (tree_of text ≡ Ok tree)

abbrev pub IsNoTree : List ℕ → Type 0
IsNoTree text = (tree : Tree) → tree_of text ≡ Ok tree → ⊥

-- what an open slot holds is no saved configuration: its text is too long, its number too great, or its text is no tree
abbrev pub IsInvalid : Saved → Type 0
IsInvalid saved = (MAX_KEPT_BYTES < length saved.text) ⊎ ((MAX_NUMBER < saved.number) ⊎ IsNoTree saved.text)

-- a slot is open, and what it holds is no saved configuration
pub record IsDamagedAt (slot : Slot) (image : List ℕ) : Type 0 where
  pub saved : Saved
  pub open_slot : slot_at image (start_of slot) ≡ Some saved
  pub invalid : IsInvalid saved

abbrev pub IsDamaged : List ℕ → Type 0
IsDamaged image = IsDamagedAt First image ⊎ IsDamagedAt Second image

-- ---- what is read

-- what was read is what was saved
pub record IsRecord (slot : Slot) (image : List ℕ) (saved : Saved) (found : Record) : Type 0 where
  pub number : saved.number ≡ found.number
  pub whole : IsWhole slot image saved
  pub tree : tree_of saved.text ≡ Ok found.tree

-- what a slot holds was read: a record where it is open
abbrev pub Holds : Slot → List ℕ → Option Saved → Option Record → Type 0
Holds slot image None None = Unit {0}
Holds slot image None (Some found) = ⊥
Holds slot image (Some saved) None = ⊥
Holds slot image (Some saved) (Some found) = IsRecord slot image saved found

pub record IsFound (slot : Slot) (image : List ℕ) (found : Found) : Type 0 where
  pub gate : gate_at image (start_of slot) ≡ found.gate
  pub holds : Holds slot image (slot_at image (start_of slot)) found.held

-- ---- what opening gives

-- the number of a record, or 0
abbrev pub number_or : Option Saved → ℕ
number_or None = 0
number_or (Some saved) = saved.number

-- the tree of a record
abbrev pub IsTreeOf : Option Saved → Option Tree → Type 0
IsTreeOf None None = Unit {0}
IsTreeOf None (Some tree) = ⊥
IsTreeOf (Some saved) None = ⊥
IsTreeOf (Some saved) (Some tree) = tree_of saved.text ≡ Ok tree

-- The record that is held, its number, or 0, and its tree are those that are recovered from the file, and the file is not
-- damaged.
pub record IsOpened (held : Option Saved) (number : ℕ) (tree : Option Tree) (image : List ℕ) : Type 0 where
  pub held_is : held ≡ recovered image
  pub number_is : number ≡ number_or (recovered image)
  pub tree_is : IsTreeOf (recovered image) tree
  pub sound : IsDamaged image → ⊥

-- ---- which slot is kept

-- that with the greater number, the first where both are equal; the second where neither is open
abbrev pub kept_of : Option Record → Option Record → Slot
kept_of None b = Second
kept_of (Some a) None = First
kept_of (Some a) (Some b) = if nat_lt a.number b.number then Second else First

-- and what it holds
abbrev pub record_of : Option Record → Option Record → Option Record
record_of None b = b
record_of (Some a) None = Some a
record_of (Some a) (Some b) = if nat_lt a.number b.number then Some b else Some a

-- the gate of a slot, of the two
abbrev pub gate_for : Slot → Gate → Gate → Gate
gate_for First first second = first
gate_for Second first second = second

abbrev pub count_or : Option ℕ → ℕ
count_or None = 0
count_or (Some n) = n

-- the slots as they are opened
abbrev pub slots_over : {D : Type 0} → D → Slot → Option ℕ → Gate → Gate → Slots D
slots_over disk kept held first second = record {
  disk = disk;
  found = count_or held;
  held = held;
  next = other kept;
  gate = gate_for (other kept) first second;
  kept_gate = gate_for kept first second;
  settled = true;
}
