use Rattle.std.proofs.Common.{All}
use Rattle.cd_desk.specs.Waiting.{IsEmpty}
use Rattle.cd_desk.proofs.drafting.end_all.Given as goal

abbrev pub invariant-loop-part : goal.invariant-loop-part
invariant-loop-part l = All IsEmpty l.parts.items

abbrev pub decreases-loop-part : goal.decreases-loop-part
decreases-loop-part l = goal.left-loop-part l
