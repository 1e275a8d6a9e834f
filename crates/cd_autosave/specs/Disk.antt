-- The bytes of a disk, what its calls make of them, and which images a crash leaves.
use Rattle.std.specs.Prelude.{◌≡◌, ◌⊎◌, ℕ, ◌+◌, ◌-◌, ◌<◌, ◌≤◌, max, List, length, Option, Some, None}
use Rattle.cd_outside.specs.declared.taken.Taken.{Taken}
use Rattle.cd_outside.specs.declared.taken.Taken.TheVariants as taken
use Rattle.cd_autosave.specs.Image.{byte_at}

-- a place before a range of so many bytes, or after it
abbrev pub IsOutside : ℕ → ℕ → ℕ → Type 0
IsOutside at count i = (i < at) ⊎ (at + count ≤ i)

-- A range may have been written in part. The file has grown at most as far as the range goes, and what it had outside the range
-- it has still. Nothing is said of the bytes in the range, nor of those by which the file has grown.
pub record PartWritten (at count : ℕ) (was is : List ℕ) : Type 0 where
  pub growth : ℕ
  pub end : length is ≡ length was + growth
  pub reach : growth ≤ (at + count) - length was
  pub others : (i : ℕ) → i < length was → IsOutside at count i → byte_at is i ≡ byte_at was i

-- after a whole write: the piece is at this place, with zeros between the old end and it
pub record Written (at : ℕ) (piece was is : List ℕ) : Type 0 where
  pub long : length is ≡ max (length was) (at + length piece)
  pub piece_is : (i : ℕ) → i < length piece → byte_at is (at + i) ≡ byte_at piece i
  pub others : (i : ℕ) → IsOutside at (length piece) i → byte_at is i ≡ byte_at was i

-- a read gives bytes of the file, and answers the end only at or past it
abbrev pub ReadsAt : Taken → ℕ → List ℕ → List ℕ → Type 0
ReadsAt (taken.Bytes count) at into image = (at + count ≤ length image) × ((i : ℕ) → i < count → byte_at into i ≡ byte_at image (at + i))
ReadsAt taken.End at into image = length image ≤ at
ReadsAt taken.Failed at into image = Unit {0}

-- where the bytes were told they are told after a step, and nowhere else
abbrev pub Steps : (List ℕ → List ℕ → Type 0) → Option (List ℕ) → Option (List ℕ) → Type 0
Steps step None now = now ≡ None
Steps step (Some old) now = (new : List ℕ) × (now ≡ Some new) × step old new

-- such a step makes this image of one of these
pub record MadeOf (step : List ℕ → List ℕ → Type 0) (images : List ℕ → Type 0) (image : List ℕ) : Type 0 where
  pub source : List ℕ
  pub is_one : images source
  pub made : step source image

-- each of the first images is one of the second
abbrev pub IsAmong : (List ℕ → Type 0) → (List ℕ → Type 0) → Type 0
IsAmong one two = (image : List ℕ) → one image → two image

-- each image has just the bytes that reads give
abbrev pub IsDurable : Option (List ℕ) → (List ℕ → Type 0) → Type 0
IsDurable seen images = IsAmong images (λ image. seen ≡ Some image)

-- the same images
abbrev pub SameImages : (List ℕ → Type 0) → (List ℕ → Type 0) → Type 0
SameImages one two = (image : List ℕ) → (one image → two image) × (two image → one image)

-- what a crash may leave is what one leaves at the moment that the clock shows
abbrev pub IsPresent : {D : Type 0} → (D → List ℕ → Type 0) → (D → ℕ) → (D → ℕ → List ℕ → Type 0) → D → Type 0
IsPresent left_now clock left_at disk = SameImages (left_at disk (clock disk)) (left_now disk)

-- From one state of a disk to a later one: each moment that has been stays, with what a crash at it leaves. At each moment from
-- the one state's to the other's a crash leaves an image that has P.
pub record Throughout {D : Type 0} (clock : D → ℕ) (left_at : D → ℕ → List ℕ → Type 0) (old new : D) (P : List ℕ → Type 0) : Type 0 where
  pub past : (n : ℕ) → n ≤ clock old → (n ≤ clock new) × SameImages (left_at old n) (left_at new n)
  pub in_between : (n : ℕ) (image : List ℕ) → clock old ≤ n → n ≤ clock new → left_at new n image → P image

-- Reads and syncs: what reads give stays, and a crash at any moment leaves what one might have left before.
pub record IsUnchanged {D : Type 0} (seen : D → Option (List ℕ)) (left_now : D → List ℕ → Type 0) (clock : D → ℕ) (left_at : D → ℕ → List ℕ → Type 0) (old new : D) : Type 0 where
  pub reads : seen new ≡ seen old
  pub fewer : IsAmong (left_now new) (left_now old)
  pub meanwhile : Throughout clock left_at old new (left_now old)

-- The room holds the bytes from a place on, and zeros past the end; the file had so many of them.
pub record IsRead (at : ℕ) (into : List ℕ) (count : ℕ) (image : List ℕ) : Type 0 where
  pub each : (i : ℕ) → i < length into → byte_at into i ≡ byte_at image (at + i)
  pub few : count ≤ length into
  pub there : 0 < count → at + count ≤ length image
  pub short : count < length into → length image ≤ at + count
