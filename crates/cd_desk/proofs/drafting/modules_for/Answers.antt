use Rattle.std.proofs.Common.{arith, rules}
use Rattle.cd_desk.proofs.Planned.{all_empty, one_waits}
use Rattle.cd_desk.proofs.drafting.modules_for.Goals as goal

pub end_all-requires : goal.end_all-requires
end_all-requires c = all_empty c.loop-module.parts.items _ c.loop-module.invariant.waits

pub loop-module-preserved : goal.loop-module-preserved
loop-module-preserved c = record {
  waits = one_waits (λ m. m.keys) c.args.modules.now c.loop-module.module-index c.module-item.result c.loop-module.parts.items c.push_reserved.new.self.items c.in-Ok.part (search rules) c.module-item.is (search rules) c.loop-module.invariant.waits (search rules) (search rules);
  len = omega arith;
  room = omega arith;
}
