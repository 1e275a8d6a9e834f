-- What a saver keeps, and what a crash during a save may leave.
use Rattle.std.specs.Prelude.{◌≡◌, ◌⊎◌, ℕ, ◌+◌, ◌<◌, ◌≤◌, true, List, length, Option, Some, None, IfSome, option_map, option_and_then}
use Rattle.cd_outside.specs.declared.given.Given.{Given}
use Rattle.cd_outside.specs.declared.given.Given.TheVariants as given
use Rattle.cd_outside.specs.declared.limits.TheConstants.{MAX_KEPT_BYTES}
use Rattle.cd_autosave.specs.Places.{start_of, other}
use Rattle.cd_autosave.specs.Image.{Saved, slot_at, gate_at, newer, recovered, rank}
use Rattle.cd_autosave.specs.Disk.{IsDurable}
use Rattle.cd_autosave.specs.declared.limits.TheConstants.{MAX_NUMBER}
use Rattle.cd_autosave.specs.declared.slot.Slot.{Slot}
use Rattle.cd_autosave.specs.declared.slot.Slot.TheVariants.{First}
use Rattle.cd_autosave.specs.declared.slots.Slots.{Slots}

-- ---- an image

-- the text of a record ends within the file, and within the room of its slot
pub record IsWhole (slot : Slot) (image : List ℕ) (saved : Saved) : Type 0 where
  pub within : start_of slot + 13 + length saved.text ≤ length image
  pub short : length saved.text ≤ MAX_KEPT_BYTES

-- The slot that is kept holds the record that is held, whole, or nothing. The first slot is kept only for a record.
pub record Keeps (slot : Slot) (held : Option Saved) (image : List ℕ) : Type 0 where
  pub same : slot_at image (start_of slot) ≡ held
  pub whole : IfSome held (IsWhole slot image)
  pub some : slot ≡ First → 0 < rank held

-- the slot holds nothing, or the record of the save, or what it held in one of the images before
abbrev pub IsKnownAt : (List ℕ → Type 0) → Saved → List ℕ → Slot → Type 0
IsKnownAt before saved image slot =
    (slot_at image (start_of slot) ≡ None)
    ⊎ ((slot_at image (start_of slot) ≡ Some saved) ⊎ ((d : List ℕ) × before d × (slot_at image (start_of slot) ≡ slot_at d (start_of slot))))

-- An image that a crash in a save may leave: what is recovered from it was recovered from one of the images before, or is the
-- record that was held, or the record of the save. It is not older than the record that was held. No slot holds anything new
-- but the record of the save.
pub record MidSave (before : List ℕ → Type 0) (held : Option Saved) (saved : Saved) (image : List ℕ) : Type 0 where
  pub known : ((d : List ℕ) × before d × (recovered image ≡ recovered d)) ⊎ ((recovered image ≡ held) ⊎ (recovered image ≡ Some saved))
  pub not_below : rank held ≤ rank (recovered image)
  pub each_slot : (slot : Slot) → IsKnownAt before saved image slot

-- ---- the slots of a disk

-- the record that is held, as the bytes of the disk tell it
abbrev pub held_of : {D : Type 0} → (D → Option (List ℕ)) → Slots D → Option Saved
held_of seen slots = option_and_then (λ image. slot_at image (start_of (other slots.next))) (seen slots.disk)

-- the record that is held after a save: the one with the greater number, where the save did not fail
abbrev pub held_after : Given → Option Saved → Saved → Option Saved
held_after given.All held saved = newer held (Some saved)
held_after given.Failed held saved = held

-- where the bytes were told they still are
abbrev pub StaysTold : Option (List ℕ) → Option (List ℕ) → Type 0
StaysTold before now = (image : List ℕ) → before ≡ Some image → (new : List ℕ) × (now ≡ Some new)

-- what is known of the bytes that reads give
pub record Notes {D : Type 0} (slots : Slots D) (held : Option Saved) (image : List ℕ) : Type 0 where
  pub keeps : Keeps (other slots.next) held image
  pub number : option_map (λ saved. saved.number) held ≡ slots.held
  pub kept_gate : gate_at image (start_of (other slots.next)) ≡ slots.kept_gate
  pub gate : slots.settled ≡ true → gate_at image (start_of slots.next) ≡ slots.gate

-- what holds between two calls of a saver
pub record IsKept {D : Type 0} (seen : D → Option (List ℕ)) (left_now : D → List ℕ → Type 0) (slots : Slots D) : Type 0 where
  pub images : (image : List ℕ) → left_now slots.disk image → Keeps (other slots.next) (held_of seen slots) image
  pub notes : (image : List ℕ) → seen slots.disk ≡ Some image → Notes slots (held_of seen slots) image
  pub settled : slots.settled ≡ true → IsDurable (seen slots.disk) (left_now slots.disk)
  pub found : slots.found ≤ MAX_NUMBER

-- the record that is held, the slots and the number found stay
pub record Stays {D : Type 0} (seen : D → Option (List ℕ)) (old new : Slots D) : Type 0 where
  pub found : new.found ≡ old.found
  pub held : new.held ≡ old.held
  pub next : new.next ≡ old.next
  pub record_is : held_of seen new ≡ held_of seen old
  pub told : StaysTold (seen old.disk) (seen new.disk)
