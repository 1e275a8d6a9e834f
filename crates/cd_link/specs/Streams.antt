-- What calls of a stream answer.
use Rattle.std.specs.Prelude.{◌≡◌, ◌≤◌, ℕ, List, [], take, Option}
use Rattle.std.specs.Io.KnownBytes.{IsAtEnd}
use Rattle.cd_link.specs.declared.stream.Got.{Got}
use Rattle.cd_link.specs.declared.stream.Got.TheVariants as got
use Rattle.cd_link.specs.declared.stream.Sent.{Sent}
use Rattle.cd_link.specs.declared.stream.Sent.TheVariants as sent

-- at least one byte came, and no more than there is room for
abbrev pub IsGotWithin : Got → ℕ → Type 0
IsGotWithin (got.Bytes count) room = (1 ≤ count) × (count ≤ room)
IsGotWithin got.End room = Unit {0}
IsGotWithin got.Later room = Unit {0}
IsGotWithin got.Failed room = Unit {0}

-- the bytes that came
abbrev pub got_bytes : Got → List ℕ → List ℕ
got_bytes (got.Bytes count) into = take count into
got_bytes got.End into = []
got_bytes got.Later into = []
got_bytes got.Failed into = []

-- the end is answered only where no known byte is left
abbrev pub EndsOnly : Got → Option (List ℕ) → Type 0
EndsOnly got.End left = IsAtEnd left
EndsOnly (got.Bytes count) left = Unit {0}
EndsOnly got.Later left = Unit {0}
EndsOnly got.Failed left = Unit {0}

-- at least one byte was taken, and no more than there were
abbrev pub IsSentWithin : Sent → ℕ → Type 0
IsSentWithin (sent.Bytes count) len = (1 ≤ count) × (count ≤ len)
IsSentWithin sent.Later len = Unit {0}
IsSentWithin sent.Failed len = Unit {0}

-- the bytes that were taken
abbrev pub sent_bytes : Sent → List ℕ → List ℕ
sent_bytes (sent.Bytes count) piece = take count piece
sent_bytes sent.Later piece = []
sent_bytes sent.Failed piece = []
