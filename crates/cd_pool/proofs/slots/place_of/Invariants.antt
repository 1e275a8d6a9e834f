use Rattle.std.proofs.Common.{◌≡◌, drop}
use Rattle.cd_pool.specs.Pairs.{pair_at}
use Rattle.cd_pool.specs.Slots.{leases}
use Rattle.cd_pool.proofs.slots.place_of.Given as goal

abbrev pub invariant-loop-at : goal.invariant-loop-at
invariant-loop-at l = pair_at l.number (leases l.slots) ≡ pair_at l.number (leases (drop l.at l.slots))
