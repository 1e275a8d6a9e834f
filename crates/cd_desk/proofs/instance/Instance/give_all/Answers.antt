use Rattle.std.proofs.Common.{arith, ◌∷◌, rules}
use Rattle.cd_desk.proofs.Keeping.{last_lease, give_more, given_all, releases_at, last_named}
use Rattle.cd_desk.proofs.instance.Instance.give_all.Goals as goal

pub release-requires : goal.release-requires
release-requires g c =
    let t = c.loop-lease.invariant.given in
    let pool = c.loop-lease.pool in
    last_named c.args.holder c.in-Some.lease pool.held c.pop.new.self.items (last_lease c.args.holder pool.held c.loop-lease.self.leases.items c.pop.new.self.items c.in-Some.lease c.in-Some.ensures.items t.1.leases)

pub loop-lease-preserved : goal.loop-lease-preserved
loop-lease-preserved g c =
    let t = c.loop-lease.invariant.given in
    let pool = c.loop-lease.pool in
    let its = c.release.ensures.last c.args.holder c.pop.new.self.items (last_lease c.args.holder pool.held c.loop-lease.self.leases.items c.pop.new.self.items c.in-Some.lease c.in-Some.ensures.items t.1.leases) in
    record {
      given = (its.key ∷ t.0, give_more c.args.holder t.0 c.args.pool.now.held pool.held c.release.new.pool.held _ (g.F.Fixtures.calls c.loop-lease.fixtures) _ c.loop-lease.self.leases.items c.pop.new.self.items c.in-Some.lease t.1 its (releases_at _ _ _ _ _ its.pair c.release.ensures.releases));
      waiting = c.loop-lease.invariant.waiting;
      faults = search (rules, c.release.ensures.faults, c.loop-lease.invariant.faults);
      spare = omega arith;
    }

pub returns-clause-gives : goal.returns-clause-gives
returns-clause-gives g c =
    let t = c.loop-lease.invariant.given in
    given_all c.args.holder t.0 _ _ _ _ c.loop-lease.self.leases.items (search rules) t.1
