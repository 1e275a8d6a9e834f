use Rattle.std.specs.Vec.{vec_len}
use Rattle.cd_cases.specs.Leases.{AreLeases}
use Rattle.cd_cases.proofs.pools.give_all.Given as goal

abbrev pub invariant-giving : goal.invariant-giving
invariant-giving l = AreLeases l.leases.items l.pool.held

abbrev pub decreases-giving : goal.decreases-giving
decreases-giving l = vec_len l.leases
