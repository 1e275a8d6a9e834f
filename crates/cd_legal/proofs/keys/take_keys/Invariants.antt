use Rattle.std.proofs.Common.{◌≡◌, ◌++◌, take}
use Rattle.cd_outside.specs.Keys.{pairs_for}
use Rattle.cd_legal.proofs.keys.take_keys.Given as goal

abbrev pub invariant-loop-key : goal.invariant-loop-key
invariant-loop-key l = l.pairs ≡ l.fn.pairs ++ pairs_for l.holder (take l.key-index l.key-items)
