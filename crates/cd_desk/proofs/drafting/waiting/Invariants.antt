use Rattle.std.proofs.Common.{◌≡◌, take, sum_by}
use Rattle.cd_desk.specs.Waiting.{waits}
use Rattle.cd_desk.proofs.drafting.waiting.Given as goal

abbrev pub invariant-loop-part : goal.invariant-loop-part
invariant-loop-part l = l.keys ≡ sum_by waits (take l.part-index l.parts)
