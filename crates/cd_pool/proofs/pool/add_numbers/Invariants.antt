use Rattle.std.proofs.Common.{◌≡◌, ◌-◌, ◌+◌, ◌++◌}
use Rattle.std.specs.Vec.{vec_len, vec_capacity}
use Rattle.cd_pool.specs.Numbers.{numbers_from}
use Rattle.cd_pool.proofs.pool.add_numbers.Given as goal

abbrev pub invariant-loop-number : goal.invariant-loop-number
invariant-loop-number l = record {
  items : l.free.items ≡ l.initial.free.items ++ numbers_from l.from (l.number - l.from);
  len : vec_len l.free ≡ vec_len l.initial.free + (l.number - l.from);
  capacity : vec_capacity l.free ≡ vec_capacity l.initial.free;
}
