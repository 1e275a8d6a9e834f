-- A list of calls on a balancer, with what each `begin` answered, and the exchanges that are live after it.
use Rattle.std.specs.Prelude.{◌≡◌, ℕ, ◌+◌, ◌<◌, ◌==◌, Bool, ◌&&◌, not, List, [], ◌∷◌, if◌then◌else◌}
use Rattle.std.specs.List.{list_any}
use Rattle.cd_peers.specs.declared.limits.TheConstants.{MAX_PLACES}
use Rattle.cd_peers.specs.declared.state.BalancerState.{BalancerState}
use Rattle.cd_peers.specs.Balance.{freed, begun, ended}
use Rattle.cd_peers.specs.Pick.{IsPick}

-- an exchange was begun at a place, and this upstream was picked; or the exchange at a place was ended, and was good or not
pub data Call : Type 0 where
  began : (place upstream : ℕ) → Call
  finished : (place : ℕ) (good : Bool) → Call

-- the call is at this place
abbrev pub is_call_at : ℕ → Call → Bool
is_call_at place (began other upstream) = other == place
is_call_at place (finished other good) = other == place

-- a later call at the place ends the exchange there
abbrev pub is_over : ℕ → List Call → Bool
is_over place later = list_any (is_call_at place) later

-- how many exchanges were begun at the upstream and not ended
abbrev pub live : ℕ → List Call → ℕ
live upstream [] = 0
live upstream (began place other ∷ later) =
    (if (other == upstream) && not (is_over place later) then 1 else 0) + live upstream later
live upstream (finished place good ∷ later) = live upstream later

-- from this balancer the calls lead to that one: each picks as it has to
abbrev pub Leads : BalancerState → List Call → BalancerState → Type 0
Leads b [] c = c ≡ b
Leads b (began place upstream ∷ calls) c =
    (place < MAX_PLACES) × IsPick (freed place b) upstream × Leads (begun place upstream b) calls c
Leads b (finished place good ∷ calls) c = (place < MAX_PLACES) × Leads (ended place good b) calls c
