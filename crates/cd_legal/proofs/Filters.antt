-- What a filter of the callers keeps.
use Rattle.std.proofs.Common.{◌≡◌, ℕ, ◌==◌, Bool, true, false, not, cond, filter, List, [], ◌∷◌, refl, ap}
use Rattle.cd_legal.specs.declared.state.OpenTicket.{OpenTicket}
use Rattle.cd_legal.specs.State.{without_ticket}

other : (b : Bool) (t : OpenTicket) (ts us : List OpenTicket) → ts ≡ us → cond (not b) (t ∷ ts) ts ≡ cond b us (t ∷ us)
other true t ts us e = e
other false t ts us e = ap (λ z. t ∷ z) e

-- the tickets of all other callers
pub filter-tickets : (k : ℕ) (ts : List OpenTicket) → filter (λ t. not (t.caller == k)) ts ≡ without_ticket k ts
filter-tickets k [] = refl
filter-tickets k (t ∷ ts) = other (t.caller == k) t (filter (λ u. not (u.caller == k)) ts) (without_ticket k ts) (filter-tickets k ts)
