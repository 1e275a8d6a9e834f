-- What a balancer keeps, and how a call changes it.
use Rattle.std.specs.Prelude.{◌≡◌, ℕ, ◌≤◌, ◌==◌, Bool, false, not, List, length, replicate, Option, Some, None, slice_index_or, slice_set}
use Rattle.std.specs.List.{count_by}
use Rattle.cd_outside.specs.declared.address.Address.{Address}
use Rattle.cd_peers.specs.declared.limits.TheConstants.{MAX_UPSTREAMS, MAX_PLACES}
use Rattle.cd_peers.specs.declared.policy.Policy.{Policy}
use Rattle.cd_peers.specs.declared.state.BalancerState.{BalancerState}

-- the place holds an exchange at this upstream
abbrev pub is_at : ℕ → Option ℕ → Bool
is_at upstream None = false
is_at upstream (Some other) = other == upstream

-- how many places hold one
abbrev pub count_at : ℕ → List (Option ℕ) → ℕ
count_at upstream places = count_by (is_at upstream) places

-- the upstream of the exchange that the place holds
abbrev pub at_place : ℕ → BalancerState → Option ℕ
at_place place b = slice_index_or b.places place None

-- the upstream is down
abbrev pub is_down : BalancerState → ℕ → Bool
is_down b upstream = slice_index_or b.down upstream false

-- nothing has begun, and none is down
abbrev pub fresh : Policy → List Address → BalancerState
fresh policy upstreams = record {
  policy = policy;
  upstreams = upstreams;
  down = replicate MAX_UPSTREAMS false;
  places = replicate MAX_PLACES None;
  last = None;
}

-- the place holds no exchange
abbrev pub freed : ℕ → BalancerState → BalancerState
freed place b = record b { places = slice_set b.places place None }

-- the place holds an exchange at the upstream, which was picked last
abbrev pub begun : ℕ → ℕ → BalancerState → BalancerState
begun place upstream b = record b { places = slice_set b.places place (Some upstream); last = Some upstream }

-- an exchange at the upstream has ended: it is down where that was not good
abbrev pub ended_at : ℕ → Bool → Option ℕ → BalancerState → BalancerState
ended_at place good None b = b
ended_at place good (Some upstream) b =
    record b { down = slice_set b.down upstream (not good); places = slice_set b.places place None }

-- the exchange at the place has ended
abbrev pub ended : ℕ → Bool → BalancerState → BalancerState
ended place good b = ended_at place good (at_place place b) b

-- no place holds an exchange at a number that no upstream has
abbrev pub NoneBeyond : BalancerState → Type 0
NoneBeyond b = (number : ℕ) → length b.upstreams ≤ number → count_at number b.places ≡ 0
