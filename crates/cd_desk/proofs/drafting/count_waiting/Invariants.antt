use Rattle.std.proofs.Common.{◌≡◌, ◌+◌, drop, sum_by}
use Rattle.cd_desk.specs.Waiting.{waits}
use Rattle.cd_desk.proofs.drafting.count_waiting.Given as goal

abbrev pub invariant-loop-part : goal.invariant-loop-part
invariant-loop-part l = l.keys + sum_by waits (drop l.part-index l.parts) ≡ sum_by waits l.parts
