-- What one read of a stream answers.
use Rattle.std.specs.Prelude.{◌≤◌, ℕ, List, [], take, Option}
use Rattle.std.specs.Io.KnownBytes.{Consumes, IsAtEnd}
use Rattle.cd_tcp.specs.declared.stream.Got.{Got}
use Rattle.cd_tcp.specs.declared.stream.Got.TheVariants as got

-- a read gives one byte at least, and no more than there is room for
abbrev pub IsGotWithin : Got → ℕ → Type 0
IsGotWithin (got.Bytes count) room = (1 ≤ count) × (count ≤ room)
IsGotWithin got.End room = Unit {0}
IsGotWithin got.Late room = Unit {0}
IsGotWithin got.Failed room = Unit {0}

-- of a stream that tells what is left: the bytes are the next ones, the end comes only where none is left, and else nothing is
-- taken
abbrev pub GetsBytes : Got → Option (List ℕ) → Option (List ℕ) → List ℕ → Type 0
GetsBytes (got.Bytes count) before now into = Consumes before now (take count into)
GetsBytes got.End before now into = Consumes before now [] × IsAtEnd now
GetsBytes got.Late before now into = Consumes before now []
GetsBytes got.Failed before now into = Consumes before now []
