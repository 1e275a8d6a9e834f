use Rattle.std.proofs.Common.{◌≡◌, length}
use Rattle.cd_leads.proofs.Totalling.{RightTo}
use Rattle.cd_leads.proofs.counting.count_all.Given as goal

abbrev pub invariant-loop-n : goal.invariant-loop-n
invariant-loop-n l = record {
  size : length l.counts ≡ length l.lists;
  right : RightTo l.lists l.own l.order l.counts l.n-index;
}
