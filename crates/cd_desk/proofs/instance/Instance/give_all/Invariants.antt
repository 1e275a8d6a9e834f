use Rattle.std.proofs.Common.{◌≡◌, ◌≤◌, List}
use Rattle.cd_outside.specs.declared.key.Key.{Key}
use Rattle.cd_desk.specs.Instances.{Given}
use Rattle.cd_desk.proofs.instance.Instance.give_all.Given as goal

abbrev pub invariant-loop-lease : goal.invariant-loop-lease
invariant-loop-lease g l = record {
  given : (back : List Key) × Given l.fn.holder back l.fn.pool.held l.pool.held (g.F.Fixtures.calls l.fn.fixtures) (g.F.Fixtures.calls l.fixtures) l.self.leases.items;
  waiting : l.self.waiting.items ≡ l.fn.self.waiting.items;
  faults : g.F.Fixtures.faults l.fixtures ≡ g.F.Fixtures.faults l.fn.fixtures;
  spare : l.fn.pool.spare ≤ l.pool.spare;
}

abbrev pub decreases-loop-lease : goal.decreases-loop-lease
decreases-loop-lease g l = goal.left-loop-lease g l
