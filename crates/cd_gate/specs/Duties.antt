-- Which serials are to be retired, and the duties of a pass.
use Rattle.std.specs.Prelude.{ℕ, ◌==◌, ◌&&◌, not, cond, nat_lt, Bool, false, List, [], ◌∷◌, Option, Some, None}
use Rattle.cd_legal.specs.declared.entry.Entry.{Entry}
use Rattle.cd_legal.specs.declared.entry.Entry.TheVariants.{Retire}
use Rattle.cd_legal.specs.declared.state.State.{State}
use Rattle.cd_legal.specs.State.{has_number, is_ticketed}

-- it is this serial
abbrev pub is_at : ℕ → Option ℕ → Bool
is_at n None = false
is_at n (Some m) = m == n

-- superseded, and not the one that is unsettled
abbrev pub is_settled : State → Option ℕ → ℕ → Bool
is_settled s unsettled n = nat_lt n s.serial && not (is_at n unsettled)

-- settled and not retired, and no request runs under it
abbrev pub is_due : State → Option ℕ → ℕ → Bool
is_due s unsettled n = is_settled s unsettled n && (not (has_number n s.retired) && not (is_ticketed n s.tickets))

-- a duty more where the serial is due
abbrev pub more_due : Bool → ℕ → List ℕ → List ℕ
more_due due n duties = cond due (n ∷ duties) duties

-- the serials but this one
abbrev pub without_number : ℕ → List ℕ → List ℕ
without_number n [] = []
without_number n (m ∷ ms) = cond (n == m) (without_number n ms) (m ∷ without_number n ms)

-- a Retire ends a duty
abbrev pub duties_after : List ℕ → Entry → List ℕ
duties_after duties (Retire n) = without_number n duties
duties_after duties e = duties
