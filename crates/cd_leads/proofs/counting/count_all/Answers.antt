use Rattle.std.proofs.Common.{arith}
use Rattle.cd_leads.proofs.Totalling.{all_right}
use Rattle.cd_leads.proofs.counting.count_all.Goals as goal

pub returns : goal.returns
returns c = all_right c.args.lists.now c.args.own.now c.args.order.now c.loop-n.counts c.loop-n.n-index c.requires.order c.loop-n.invariant.size (omega (arith, c.loop-n-test.false)) c.loop-n.invariant.right
