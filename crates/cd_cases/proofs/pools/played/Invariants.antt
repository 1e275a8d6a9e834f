use Rattle.cd_cases.specs.Leases.{AreLeases}
use Rattle.cd_cases.proofs.pools.played.Given as goal

abbrev pub invariant-steps : goal.invariant-steps
invariant-steps l = AreLeases l.leases.items l.pool.held
