use Rattle.std.proofs.Common.{◌≡◌, ◌<◌, ℕ, [], length, get_or}
use Rattle.cd_index.proofs.buckets.empty_buckets.Given as goal

abbrev pub invariant-loop-more : goal.invariant-loop-more
invariant-loop-more l = record {
  some : 0 < length l.buckets.items;
  empty : (b : ℕ) → get_or l.buckets.items b [] ≡ [];
}
