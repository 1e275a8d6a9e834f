-- Which upstream is picked next: of the candidates the one with the least rank, and of equals the first.
use Rattle.std.specs.Prelude.{◌≡◌, ℕ, ◌+◌, ◌-◌, ◌<◌, ◌≤◌, ◌⊎◌, true, false, nat_lt, if◌then◌else◌, length, Option, Some, None}
use Rattle.cd_peers.specs.declared.policy.Policy.{Policy}
use Rattle.cd_peers.specs.declared.policy.Policy.TheVariants.{First, RoundRobin, LeastConn}
use Rattle.cd_peers.specs.declared.state.BalancerState.{BalancerState}
use Rattle.cd_peers.specs.Balance.{is_down, count_at}

-- how many upstreams there are
abbrev pub size : BalancerState → ℕ
size b = length b.upstreams

-- an upstream that is not down, or any where all are down
abbrev pub IsCandidate : BalancerState → ℕ → Type 0
IsCandidate b u = (u < size b) × ((is_down b u ≡ false) ⊎ ((v : ℕ) → v < size b → is_down b v ≡ true))

-- how far an upstream comes after the one that was picked last, going round
abbrev pub turns_after : Option ℕ → ℕ → ℕ → ℕ
turns_after None size u = u
turns_after (Some last) size u = if nat_lt last u then u - last else size + u - last

-- what a policy prefers the least of
abbrev pub rank : Policy → BalancerState → ℕ → ℕ
rank First b u = 0
rank RoundRobin b u = turns_after b.last (size b) u
rank LeastConn b u = count_at u b.places

-- the first comes before the second, by their ranks, and where these are equal by their numbers
abbrev pub Precedes : (ℕ → ℕ) → ℕ → ℕ → Type 0
Precedes rank u v = (rank u < rank v) ⊎ ((rank u ≡ rank v) × (u ≤ v))

-- a candidate that comes before all candidates
pub record IsPick (b : BalancerState) (u : ℕ) : Type 0 where
  pub candidate : IsCandidate b u
  pub least : (v : ℕ) → IsCandidate b v → Precedes (rank b.policy b) u v
