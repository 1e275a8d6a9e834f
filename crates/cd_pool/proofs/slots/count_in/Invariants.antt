use Rattle.std.proofs.Common.{◌≡◌, ◌≤◌, ◌+◌, drop}
use Rattle.cd_outside.specs.Keys.{key_count}
use Rattle.cd_pool.specs.Pairs.{pairs}
use Rattle.cd_pool.specs.Slots.{leases}
use Rattle.cd_pool.proofs.slots.count_in.Given as goal

abbrev pub invariant-loop-slot : goal.invariant-loop-slot
invariant-loop-slot l = record {
  within : l.count ≤ l.slot-index;
  so_far : l.count + key_count l.key (pairs (leases (drop l.slot-index l.slots))) ≡ key_count l.key (pairs (leases l.slots));
}
