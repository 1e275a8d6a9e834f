-- How failed accepts are counted, and how long the pauses between them are.
use Rattle.std.specs.Prelude.{ℕ, ◌+◌, ◌-◌, ◌^◌, min}
use Rattle.cd_tcp.specs.declared.limits.TheConstants.{MAX_PAUSE_MILLIS}

-- one more, up to the end of a count of 32 bits
abbrev pub one_more : ℕ → ℕ
one_more count = min (count + 1) (2 ^ 32 - 1)

-- twice as long, up to the longest pause
abbrev pub twice : ℕ → ℕ
twice pause = min (pause + pause) MAX_PAUSE_MILLIS
