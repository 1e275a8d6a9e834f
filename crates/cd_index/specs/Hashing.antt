-- A hash of bytes.
use Rattle.std.specs.Prelude.{ℕ, ◌+◌, ◌*◌, ◌%◌, List, fold}

abbrev pub mixed : ℕ → ℕ → ℕ
mixed hash byte = (hash * 31 + byte) % 4294967296

unfoldable pub hash : List ℕ → ℕ
hash bytes = fold mixed 0 bytes
