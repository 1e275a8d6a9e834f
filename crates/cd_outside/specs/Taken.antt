-- Part of the main theorem.
-- What a read answers.
use Rattle.std.specs.Prelude.{◌≡◌, ◌≤◌, ℕ, List, [], take, Option, Some, None}
use Rattle.cd_outside.specs.declared.taken.Taken.{Taken}
use Rattle.cd_outside.specs.declared.taken.Taken.TheVariants as taken

-- a read gives one byte at least, and no more than there is room for
abbrev pub IsTakenWithin : Taken → ℕ → Type 0
IsTakenWithin (taken.Bytes count) room = (1 ≤ count) × (count ≤ room)
IsTakenWithin taken.End room = Unit {0}
IsTakenWithin taken.Failed room = Unit {0}

-- the bytes that a read gave, from the room that it was handed
abbrev pub bytes_of : Taken → List ℕ → List ℕ
bytes_of (taken.Bytes count) into = take count into
bytes_of taken.End into = []
bytes_of taken.Failed into = []

-- the end is answered only where nothing is left
abbrev pub EndsOnly : Taken → Option (List ℕ) → Type 0
EndsOnly taken.End (Some left) = left ≡ []
EndsOnly taken.End None = Unit {0}
EndsOnly (taken.Bytes count) left = Unit {0}
EndsOnly taken.Failed left = Unit {0}
