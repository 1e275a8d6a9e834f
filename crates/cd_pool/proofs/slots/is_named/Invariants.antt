use Rattle.std.proofs.Common.{◌≡◌, drop}
use Rattle.cd_pool.specs.Pairs.{pair_at}
use Rattle.cd_pool.specs.Slots.{leases}
use Rattle.cd_pool.proofs.slots.is_named.Given as goal

abbrev pub invariant-loop-slot : goal.invariant-loop-slot
invariant-loop-slot l = pair_at l.number (leases l.slots) ≡ pair_at l.number (leases (drop l.slot-index l.slots))
