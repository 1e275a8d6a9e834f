use Rattle.std.proofs.Common.{arith, get_or}
use Rattle.std.specs.Prelude.{None}
use Rattle.cd_chain.proofs.LaidOut.{one_keeps, step_lays, all_lie}
use Rattle.cd_chain.proofs.naming.lay_named.Goals as goal

pub loop-n-preserved : goal.loop-n-preserved
loop-n-preserved c =
    let n = get_or c.args.order.now c.loop-n.n-index 0 in
    let made = c.in_ok-lay_one.ensures.laid in
    let kept = one_keeps c.args.names.now c.loop-n.plan.places.items c.lay_one.new.plan.places.items c.loop-n.entries c.lay_one.new.entries n (get_or c.loop-n.slots n None) c.loop-n.invariant.some c.loop-n.invariant.laid made.1 in
    record {
      some = kept.0;
      laid = kept.1;
      sound = c.in_ok-lay_one.ensures.sound;
      lays = λ named none same is first. step_lays named c.args.names.now c.loop-n.plan.places.items c.lay_one.new.plan.places.items c.loop-n.entries c.lay_one.new.entries c.args.order.now c.loop-n.slots c.lay_one.new.slots c.loop-n.n-index
          none same is (omega (arith, c.loop-n-test.true)) (c.loop-n.invariant.lays named none same is first) made;
    }

pub returns-clause-stand : goal.returns-clause-stand
returns-clause-stand c named none same is first =
    all_lie named c.loop-n.plan.places.items c.loop-n.entries c.args.order.now c.loop-n.slots c.loop-n.n-index none is (omega (arith, c.loop-n-test.false)) (c.loop-n.invariant.lays named none same is first)
