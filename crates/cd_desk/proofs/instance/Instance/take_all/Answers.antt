use Rattle.std.proofs.Common.{arith, [], ◌∷◌, ◌++◌, rules}
use Rattle.cd_desk.proofs.Keeping.{popped, popped_on, take_more, take_fails}
use Rattle.cd_desk.proofs.instance.Instance.take_all.Goals as goal

pub loop-key-preserved : goal.loop-key-preserved
loop-key-preserved g c =
    let t = c.loop-key.invariant.taken in
    record {
      taken = (
        t.0 ++ c.in-Some.key ∷ [],
        popped_on _ t.0 c.loop-key.self.waiting.items c.pop.new.self.items c.in-Some.key t.1 c.in-Some.ensures.items,
        take_more c.args.holder t.0 c.args.pool.now.held c.loop-key.pool.held c.acquire.new.pool.held (g.F.Fixtures.calls c.args.fixtures.now) (g.F.Fixtures.calls c.loop-key.fixtures) (g.F.Fixtures.calls c.acquire.new.fixtures) c.loop-key.self.leases.items c.push_reserved.new.self.items c.in-Some.key c.in-Ok.lease (search rules) t.2 c.in-Ok.ensures.acquires,
      );
      spare = omega (arith, c.in-Ok.ensures.spare, c.in-Some.ensures.cases);
      room = omega (arith, c.in-Ok.ensures.spare, c.in-Some.ensures.cases);
      later = omega arith;
    }

pub returns-in-Err-clause-takes : goal.returns-in-Err-clause-takes
returns-in-Err-clause-takes g c =
    let t = c.loop-key.invariant.taken in
    take_fails c.args.holder t.0 _ _ c.args.pool.now.held c.loop-key.pool.held c.acquire.new.pool.held (g.F.Fixtures.calls c.args.fixtures.now) (g.F.Fixtures.calls c.loop-key.fixtures) (g.F.Fixtures.calls c.acquire.new.fixtures) c.loop-key.self.leases.items c.in-Some.key c.in-Err.key
    (popped _ t.0 c.loop-key.self.waiting.items c.pop.new.self.items c.in-Some.key t.1 c.in-Some.ensures.items) t.2 c.in-Err.ensures.acquires

pub returns-in-Err-clause-spare : goal.returns-in-Err-clause-spare
returns-in-Err-clause-spare g c = omega (arith, c.in-Err.ensures.spare, c.in-Some.ensures.cases)
