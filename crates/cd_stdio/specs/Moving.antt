-- What is taken from a reader, and given to a writer.
use Rattle.std.specs.Prelude.{ℕ, ◌≤◌, List, [], length, take, Option}
use Rattle.std.specs.Io.KnownBytes.{Consumes, Appends, IsAtEnd}
use Rattle.cd_outside.specs.declared.taken.Taken.{Taken}
use Rattle.cd_outside.specs.declared.taken.Taken.TheVariants as taken

-- of a reader that tells what is left: the bytes are the next ones, the end comes only where none is left, and a failure takes
-- nothing
abbrev pub Takes : Taken → Option (List ℕ) → Option (List ℕ) → List ℕ → Type 0
Takes (taken.Bytes count) before now into = Consumes before now (take count into)
Takes taken.End before now into = Consumes before now [] × IsAtEnd now
Takes taken.Failed before now into = Consumes before now []

-- of a writer that tells its bytes: so many of the piece were written at least, from its front, and nothing else
abbrev pub GivesFront : ℕ → List ℕ → Option (List ℕ) → Option (List ℕ) → Type 0
GivesFront count piece before now = (written : ℕ) × (count ≤ written) × (written ≤ length piece) × Appends before now (take written piece)
