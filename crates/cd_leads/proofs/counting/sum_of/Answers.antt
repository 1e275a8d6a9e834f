use Rattle.std.proofs.Common.{arith}
use Rattle.cd_leads.specs.Totals.{count_of}
use Rattle.cd_leads.proofs.Totalling.{all_counted}
use Rattle.cd_leads.proofs.counting.sum_of.Goals as goal

pub returns : goal.returns
returns c = all_counted (count_of c.args.counts.now) c.args.numbers.now c.loop-n.n-index c.loop-n.found _ c.loop-n.invariant.0 (omega (arith, c.loop-n-test.false)) c.loop-n.invariant.1
