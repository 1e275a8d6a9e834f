use Rattle.std.proofs.Common.{arith}
use Rattle.cd_cases.proofs.LeaseLemmas.{named, given}
use Rattle.cd_cases.proofs.pools.give.Goals as goal

pub give-requires : goal.give-requires
give-requires c =
    let len = c.args.leases.now.ok.0 in
    named _ c.args.leases.now.items c.args.at _ (omega (arith, c.requires.within, len)) c.remove-lease.ensures.value c.requires.fit

pub returns-clause-fit : goal.returns-clause-fit
returns-clause-fit c =
    let len = c.args.leases.now.ok.0 in
    given _ _ c.args.leases.now.items _ c.args.at _ (omega (arith, c.requires.within, len)) c.remove-lease.ensures.value c.give.ensures.held c.remove-lease.ensures.items c.requires.fit
