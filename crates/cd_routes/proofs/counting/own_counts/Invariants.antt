use Rattle.std.proofs.Common.{◌≡◌, ℕ, ◌<◌, ◌-◌, ◌^◌, length, get_or}
use Rattle.std.specs.Prelude.{min}
use Rattle.std.specs.List.{slice_get}
use Rattle.cd_routes.specs.Counting.{own_count}
use Rattle.cd_routes.proofs.counting.own_counts.Given as goal

abbrev pub invariant-loop-one : goal.invariant-loop-one
invariant-loop-one l = record {
  size : length l.counts.items ≡ l.one-index;
  right : (n : ℕ) → n < l.one-index → get_or l.counts.items n 0 ≡ min (own_count l.rates (slice_get l.named n)) (2 ^ 64 - 1);
}
