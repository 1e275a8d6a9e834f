use Rattle.std.proofs.Common.{◌≤◌, length, take}
use Rattle.std.specs.Io.KnownBytes.{Appends}
use Rattle.cd_tcp.proofs.stream.write_whole.Given as goal

-- so much of the piece was written
abbrev pub invariant-loop : goal.invariant-loop
invariant-loop g l = (l.count ≤ length l.fn.piece) × Appends (g.S.Write.contents l.initial.stream) (g.S.Write.contents l.stream) (take l.count l.fn.piece)
