-- How many bytes are kept of connections that have no lane.
use Rattle.std.specs.Prelude.{ℕ, Bool, ◌&&◌, ◌||◌, nat_lt}
use Rattle.cd_tcp.specs.declared.limits.TheConstants.{MAX_HEAD_ROOM, MAX_KEPT_BYTES, MAX_KEPT_BYTES_OF_ALL}

-- so many bytes of a connection are too many to be kept, where so many are kept of all: a lane has to read the rest
abbrev pub is_too_much : ℕ → ℕ → Bool
is_too_much own all = nat_lt MAX_KEPT_BYTES own || (nat_lt MAX_HEAD_ROOM own && nat_lt MAX_KEPT_BYTES_OF_ALL all)
