use Rattle.std.proofs.Common.{arith, rules}
use Rattle.cd_desk.proofs.Planned.{all_empty, one_waits}
use Rattle.cd_desk.proofs.drafting.apps_for.Goals as goal

pub end_all-requires : goal.end_all-requires
end_all-requires c = all_empty c.loop-app.parts.items _ c.loop-app.invariant.waits

pub loop-app-preserved : goal.loop-app-preserved
loop-app-preserved c = record {
  waits = one_waits (λ m. m.keys) c.args.apps.now c.loop-app.app-index c.app-item.result c.loop-app.parts.items c.push_reserved.new.self.items c.in-Ok.part (search rules) c.app-item.is (search rules) c.loop-app.invariant.waits (search rules) (search rules);
  len = omega arith;
  room = omega arith;
}
