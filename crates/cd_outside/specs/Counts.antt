-- Part of the main theorem.
-- Counts that rise, and stay at their end once they have come so far.
use Rattle.std.specs.Prelude.{ℕ, ◌+◌, ◌-◌, ◌^◌, ◌≤◌, ◌<◌, min}

-- the end of a count
abbrev pub count_end : ℕ
count_end = 2 ^ 64 - 1

-- one more, up to the end
abbrev pub raised : ℕ → ℕ
raised count = min (count + 1) count_end

-- the count has risen, or stands at its end
abbrev pub Rose : ℕ → ℕ → Type 0
Rose before now = raised before ≤ now

-- the count has not fallen, and has risen where the call failed
pub record Rises (before now : ℕ) (failed : Type 0) : Type 0 where
  pub later : before ≤ now
  pub rose : failed → Rose before now

-- so many mishaps are no more than the rises of the count of faults and a count of those cut short for want of memory,
-- unless one of these stands at its end
abbrev pub Covers : ℕ → ℕ → ℕ → ℕ → Type 0
Covers mishaps before now cut = now < count_end → cut < count_end → mishaps + before ≤ now + cut
