-- Part of the main theorem.
-- The values of a storm: a linear congruential generator.
use Rattle.std.specs.Prelude.{ℕ, zero, suc, ◌+◌, ◌*◌, ◌%◌, ◌^◌}
use Rattle.cd_storm.specs.declared.draws.TheConstants.{MULTIPLIER, INCREMENT}
use Rattle.cd_storm.specs.declared.limits.TheConstants.{LEAST_ROUTES, ROUTE_COUNTS, STEPS}

-- the value after another: times the multiplier, plus the increment, modulo 2^64
abbrev pub next : ℕ → ℕ
next value = (value * MULTIPLIER + INCREMENT) % 2 ^ 64

-- the n-th value of a storm; the one before the first is the storm's number, and is never used
unfoldable pub drawn : ℕ → ℕ → ℕ
drawn number zero = number
drawn number (suc n) = next (drawn number n)

-- how many routes have a body that is drawn
abbrev pub route_count : ℕ → ℕ
route_count number = LEAST_ROUTES + number % ROUTE_COUNTS

-- route after route takes a value, from the first on
abbrev pub route_value : ℕ → ℕ → ℕ
route_value number place = drawn number (place + 1)

-- then step after step, lane after lane
abbrev pub step_value : ℕ → ℕ → ℕ → ℕ
step_value number lane step = drawn number (route_count number + 1 + STEPS * lane + step)
