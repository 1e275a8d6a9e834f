-- What the bytes of the file stand for.
use Rattle.std.specs.Prelude.{◌≡◌, ◌<◌, ◌≤◌, ◌++◌, ℕ, zero, suc, ◌+◌, ◌==◌, ◌&&◌, Bool, nat_lt, if◌then◌else◌, List, [], ◌∷◌, length, slice_index, Option, Some, None}
use Rattle.std.specs.Int.{w32, w64, from_be_bytes, to_be_bytes}
use Rattle.cd_autosave.specs.declared.slot.Gate.{Gate}
use Rattle.cd_autosave.specs.declared.slot.Gate.TheVariants.{Missing, One, Other}
use Rattle.cd_autosave.specs.declared.limits.TheConstants.{SECOND_START}

-- the byte at a place; bytes past the end count as 0
abbrev pub byte_at : List ℕ → ℕ → ℕ
byte_at image at = slice_index image at

-- so many bytes from a place on
abbrev pub bytes_at : List ℕ → ℕ → ℕ → List ℕ
bytes_at image at zero = []
bytes_at image at (suc count) = byte_at image at ∷ bytes_at image (suc at) count

-- a number and a text that were saved
pub record Saved : Type 0 where
  pub number : ℕ
  pub text : List ℕ

-- the gate is 1, and is not the last byte of the file
abbrev pub is_open : List ℕ → ℕ → Bool
is_open image start = (byte_at image start == 1) && nat_lt (start + 1) (length image)

-- the length that a slot names for its text
abbrev pub length_at : List ℕ → ℕ → ℕ
length_at image start = from_be_bytes w32 (bytes_at image (start + 9) 4)

-- what a slot holds where it is open
abbrev pub saved_at : List ℕ → ℕ → Saved
saved_at image start = record {
  number = from_be_bytes w64 (bytes_at image (start + 1) 8);
  text = bytes_at image (start + 13) (length_at image start);
}

-- what a slot holds, if it is open
abbrev pub slot_at : List ℕ → ℕ → Option Saved
slot_at image start = if is_open image start then Some (saved_at image start) else None

-- the one with the greater number, the first where both are equal
abbrev pub newer : Option Saved → Option Saved → Option Saved
newer None b = b
newer (Some a) None = Some a
newer (Some a) (Some b) = if nat_lt a.number b.number then Some b else Some a

-- what is recovered from the file
abbrev pub recovered : List ℕ → Option Saved
recovered image = newer (slot_at image 0) (slot_at image SECOND_START)

-- one more than its number, and 0 for nothing: nothing is below every number
abbrev pub rank : Option Saved → ℕ
rank None = 0
rank (Some saved) = suc saved.number

-- what is at the gate of a slot
abbrev pub gate_at : List ℕ → ℕ → Gate
gate_at image start = if nat_lt start (length image) then (if byte_at image start == 1 then One else Other) else Missing

-- a number, a length and a text, as a slot has them after its gate
abbrev pub rest_of : Saved → List ℕ
rest_of saved = to_be_bytes w64 saved.number ++ to_be_bytes w32 (length saved.text) ++ saved.text

-- the file reaches the gate, and the gate is not 1
pub record IsShut (start : ℕ) (image : List ℕ) : Type 0 where
  pub reaches : start < length image
  pub not_one : byte_at image start ≡ 1 → ⊥

-- the slot has this after its gate, whole
pub record IsFilled (start : ℕ) (saved : Saved) (image : List ℕ) : Type 0 where
  pub within : start + 13 + length saved.text ≤ length image
  pub is : saved_at image start ≡ saved
