use Rattle.std.proofs.Common.{length, ◌-◌}
use Rattle.cd_wire.proofs.ReadingLemmas.{IsReadTo}
use Rattle.cd_wire.proofs.bodies.read_chunks.Given as goal

-- the chunks so far
abbrev pub invariant-chunks : goal.invariant-chunks
invariant-chunks l = IsReadTo l.fn.found l.text l.at l.found

abbrev pub decreases-chunks : goal.decreases-chunks
decreases-chunks l = length l.text - l.at
