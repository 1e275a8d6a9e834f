use Rattle.cd_cases.proofs.LeaseLemmas.{taken}
use Rattle.cd_cases.proofs.pools.take.Goals as goal

pub returns : goal.returns
returns c = taken _ _ _ _ _ c.take-lease.ensures.held c.push_reserved.ensures.items c.requires.fit
