use Rattle.std.proofs.Common.{◌≤◌, length, take}
use Rattle.std.specs.Io.KnownBytes.{Appends}
use Rattle.cd_stdio.proofs.moving.write_front.Given as goal

-- so much of the piece was written
abbrev pub invariant-loop : goal.invariant-loop
invariant-loop g l = (l.count ≤ length l.fn.piece) × Appends (g.W.Write.contents l.initial.writer) (g.W.Write.contents l.writer) (take l.count l.fn.piece)
