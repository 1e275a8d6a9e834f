-- What a pool holds, and what giving a pair back leaves.
use Rattle.std.specs.Prelude.{◌≡◌, ℕ, ◌==◌, false, cond, List, [], ◌∷◌, ◌++◌, Option, Some, None}
use Rattle.cd_outside.specs.declared.key.Key.{Key}
use Rattle.cd_outside.specs.declared.holder.Holder.{Holder}
use Rattle.cd_outside.specs.declared.holder.Pair.{Pair}
use Rattle.cd_pool.specs.declared.lease.Leased.{Leased}
use Rattle.cd_outside.specs.Keys.{holder_eq, keys_of, without_holder}

-- the pairs in the order in which they were taken, and for how many more there is room
pub record Holdings : Type 0 where
  pub held : List Leased
  pub spare : ℕ

-- the pairs alone
abbrev pub pairs : List Leased → List Pair
pairs [] = []
pairs (h ∷ hs) = h.pair ∷ pairs hs

-- the pair that a lease with this number names
abbrev pub pair_at : ℕ → List Leased → Option Pair
pair_at n [] = None
pair_at n (h ∷ hs) = cond (h.number == n) (Some h.pair) (pair_at n hs)

-- all but that pair, in their order
abbrev pub without : ℕ → List Leased → List Leased
without n [] = []
without n (h ∷ hs) = cond (h.number == n) hs (h ∷ without n hs)

-- the numbers of a holder's leases, in the order in which it took them
abbrev pub leases_of : Holder → List Leased → List ℕ
leases_of g [] = []
leases_of g (h ∷ hs) = cond (holder_eq g h.pair.holder) (h.number ∷ leases_of g hs) (leases_of g hs)

-- a holder's last lease is given back: its last key goes, and all others stay
pub record GivesLast (h : Holder) (ns : List ℕ) (n : ℕ) (old new : List Leased) : Type 0 where
  pub key : Key
  pub pair : pair_at n old ≡ Some (record { key = key; holder = h })
  pub keys : keys_of h (pairs old) ≡ keys_of h (pairs new) ++ key ∷ []
  pub leases : leases_of h new ≡ ns
  pub others : (g : Holder) → holder_eq g h ≡ false → leases_of g new ≡ leases_of g old
  pub rest : without_holder h (pairs new) ≡ without_holder h (pairs old)
