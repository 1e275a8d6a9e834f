use Rattle.std.proofs.Common.{◌≡◌, ◌+◌, ℕ, List, ◌++◌, length}
use Rattle.cd_disk.specs.RawFile.{Writes}
use Rattle.cd_disk.proofs.file_disk.write_whole.Given as goal

-- what was written and what is left make the piece
abbrev pub invariant-loop : goal.invariant-loop
invariant-loop g l = (written : List ℕ) × (l.fn.piece ≡ written ++ l.rest) × (l.next ≡ l.fn.at + length written) × Writes l.fn.at written (g.F.RawFile.bytes l.initial.file) (g.F.RawFile.bytes l.file)
