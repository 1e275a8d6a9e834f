-- For the clauses of private functions: what a search for the least rank has found.
use Rattle.std.specs.Prelude.{◌≡◌, ℕ, ◌<◌, Bool, true, false, ◌||◌, not, Option, Some, None}
use Rattle.cd_peers.specs.declared.state.BalancerState.{BalancerState}
use Rattle.cd_peers.specs.declared.picking.Least.{Least}
use Rattle.cd_peers.specs.Balance.{is_down}
use Rattle.cd_peers.specs.Pick.{Precedes}

-- it is not down, or any may be picked
abbrev pub may : BalancerState → Bool → ℕ → Bool
may b any u = any || not (is_down b u)

-- of the numbers below the end that pass the test the one of the least rank, and its rank; or none passes
abbrev pub IsLeast : (ℕ → ℕ) → (ℕ → Bool) → ℕ → Option Least → Type 0
IsLeast rank test end None = (v : ℕ) → v < end → test v ≡ false
IsLeast rank test end (Some found) =
    (found.upstream < end) × (test found.upstream ≡ true) × (found.rank ≡ rank found.upstream)
    × ((v : ℕ) → v < end → test v ≡ true → Precedes rank found.upstream v)
