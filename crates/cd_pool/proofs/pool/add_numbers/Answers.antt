use Rattle.std.proofs.Common.{arith, ◌∙◌}
use Rattle.cd_pool.proofs.Numbers.{one_further}
use Rattle.cd_pool.proofs.pool.add_numbers.Goals as goal

pub loop-number-preserved : goal.loop-number-preserved
loop-number-preserved c = record {
  items = one_further _ _ c.args.free.now.items _ _ c.loop-number.auto.number c.loop-number.invariant.items c.push_reserved.ensures.items;
  len = omega (arith, c.push_reserved.ensures.len, c.loop-number.invariant.len, c.loop-number.auto.number);
  capacity = c.push_reserved.ensures.capacity ∙ c.loop-number.invariant.capacity;
}
