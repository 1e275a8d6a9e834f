-- How long a client may take over what is written to it.
use Rattle.std.specs.Prelude.{ℕ, Bool, true, false, ◌+◌, ◌-◌, ◌^◌, min, nat_lt, nat_le, if◌then◌else◌}
use Rattle.cd_tcp.specs.declared.limits.TheConstants.{FAST_BYTES, WRITE_MILLIS, WRITE_MILLIS_WHEN_FULL}

-- how long it was slow, in milliseconds, after one more turn of writing that took so long and in which it took so many bytes
abbrev pub slow_after : ℕ → ℕ → ℕ → ℕ
slow_after slow took moved = if nat_lt FAST_BYTES moved then slow else min (slow + took) (2 ^ 64 - 1)

-- how long it may be slow, where each lane has a connection, and else
abbrev pub patience : Bool → ℕ
patience true = WRITE_MILLIS_WHEN_FULL
patience false = WRITE_MILLIS

-- it was slow for as long as it may be
abbrev pub is_over : ℕ → Bool → Bool
is_over slow full = nat_le (patience full) slow
