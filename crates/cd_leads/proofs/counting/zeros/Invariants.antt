use Rattle.std.proofs.Common.{◌≡◌, length}
use Rattle.cd_leads.proofs.counting.zeros.Given as goal

abbrev pub invariant-loop-place : goal.invariant-loop-place
invariant-loop-place l = length l.values.items ≡ l._place
