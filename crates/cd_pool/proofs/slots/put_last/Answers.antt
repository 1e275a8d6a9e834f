use Rattle.std.proofs.Common.{ap, ◌∙◌}
use Rattle.cd_pool.specs.Slots.{leases}
use Rattle.cd_pool.proofs.Gaps.{leases-push}
use Rattle.cd_pool.proofs.slots.put_last.Goals as goal

pub returns-clause-leases : goal.returns-clause-leases
returns-clause-leases c = ap leases c.push_reserved.ensures.items ∙ leases-push c.args.slots.now.items (record { leased = c.args.leased; earlier = c.args.earlier })
