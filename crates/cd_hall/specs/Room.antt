-- Part of the main theorem.
-- When another configuration would leave too many unretired.
use Rattle.std.specs.Prelude.{ℕ, ◌+◌, ◌-◌, ◌&&◌, Bool, not, cond, nat_le, Option, Some, None}
use Rattle.cd_legal.specs.declared.limits.TheConstants.{MAX_UNRETIRED}
use Rattle.cd_legal.specs.declared.state.State.{State}
use Rattle.cd_legal.specs.State.{has_number}

-- the serial that is to be retired before another one follows this one
abbrev pub oldest_before : ℕ → ℕ
oldest_before serial = serial + 1 - MAX_UNRETIRED

-- there are so many serials that one is to be retired, and it is not
abbrev pub is_full : State → ℕ → Bool
is_full s serial = nat_le MAX_UNRETIRED (serial + 1) && not (has_number (oldest_before serial) s.retired)

-- that one
abbrev pub unretired_before : State → ℕ → Option ℕ
unretired_before s serial = cond (is_full s serial) (Some (oldest_before serial)) None
