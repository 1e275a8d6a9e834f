use Rattle.std.proofs.Common.{◌≡◌, ◌≤◌, ◌+◌, List, [], ◌++◌, length, reverse}
use Rattle.cd_outside.specs.declared.key.Key.{Key}
use Rattle.cd_desk.specs.Instances.{Taken}
use Rattle.cd_desk.proofs.instance.Instance.take_all.Given as goal

abbrev pub invariant-loop-key : goal.invariant-loop-key
invariant-loop-key g l = record {
  taken : (done : List Key) × (reverse l.fn.self.waiting.items ≡ done ++ reverse l.self.waiting.items) × Taken l.fn.holder done l.fn.pool.held l.pool.held [] (g.F.Fixtures.calls l.fn.fixtures) (g.F.Fixtures.calls l.fixtures) l.self.leases.items;
  spare : l.pool.spare + length l.fn.self.waiting.items ≡ l.fn.pool.spare + length l.self.waiting.items;
  room : length l.self.waiting.items ≤ l.pool.spare;
  later : g.F.Fixtures.faults l.fn.fixtures ≤ g.F.Fixtures.faults l.fixtures;
}

abbrev pub decreases-loop-key : goal.decreases-loop-key
decreases-loop-key g l = length l.self.waiting.items
