use Rattle.std.proofs.Common.{ℕ, ◌<◌, ◌≤◌, ◌-◌, length, get_or}
use Rattle.cd_index.proofs.run.greatest_to.Given as goal

abbrev pub invariant-loop-low : goal.invariant-loop-low
invariant-loop-low l = record {
  order : l.low ≤ l.high;
  within : l.high ≤ length l.run;
  small : (i : ℕ) → i < l.low → get_or l.run i 0 ≤ l.limit;
  great : (i : ℕ) → l.high ≤ i → i < length l.run → l.limit < get_or l.run i 0;
}

abbrev pub decreases-loop-low : goal.decreases-loop-low
decreases-loop-low l = l.high - l.low
