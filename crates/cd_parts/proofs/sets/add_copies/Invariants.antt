use Rattle.std.proofs.Common.{◌≡◌, ◌++◌, take}
use Rattle.cd_parts.proofs.sets.add_copies.Given as goal

abbrev pub invariant-loop-arg : goal.invariant-loop-arg
invariant-loop-arg l = l.all ≡ l.fn.all ++ take l.arg-index l.args
