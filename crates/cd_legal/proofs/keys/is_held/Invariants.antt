use Rattle.std.proofs.Common.{◌≡◌, drop}
use Rattle.cd_outside.specs.Keys.{has_key, keys_in}
use Rattle.cd_legal.proofs.keys.is_held.Given as goal

abbrev pub invariant-loop-pair : goal.invariant-loop-pair
invariant-loop-pair l = has_key l.key (keys_in (drop l.pair-index l.pairs)) ≡ has_key l.key (keys_in l.pairs)
