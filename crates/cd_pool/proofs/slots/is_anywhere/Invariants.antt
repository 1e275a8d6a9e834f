use Rattle.std.proofs.Common.{◌≡◌, drop}
use Rattle.cd_outside.specs.Keys.{keys_in, has_key}
use Rattle.cd_pool.specs.Pairs.{pairs}
use Rattle.cd_pool.specs.Slots.{leases}
use Rattle.cd_pool.proofs.slots.is_anywhere.Given as goal

abbrev pub invariant-loop-slot : goal.invariant-loop-slot
invariant-loop-slot l = has_key l.key (keys_in (pairs (leases l.slots))) ≡ has_key l.key (keys_in (pairs (leases (drop l.slot-index l.slots))))
