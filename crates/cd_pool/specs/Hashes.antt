-- The hashes of keys, and how many pairs have one, for the clauses of private functions.
use Rattle.std.specs.Prelude.{◌≡◌, ℕ, ◌*◌, ◌%◌, ◌^◌, ◌+◌, ◌==◌, bit_xor, cond, nat_eq, List, [], ◌∷◌, Option, Some, None}
use Rattle.std.specs.HashMap.{HashMap, get}
use Rattle.cd_outside.specs.declared.key.Key.{Key}
use Rattle.cd_outside.specs.declared.key.Key.TheVariants.{Listen, Writer}
use Rattle.cd_pool.specs.declared.hashes.Seen.{Seen}
use Rattle.cd_pool.specs.declared.hashes.TheConstants.{BASIS, PRIME}
use Rattle.cd_pool.specs.declared.lease.Leased.{Leased}

-- one part more
abbrev pub mixed : ℕ → ℕ → ℕ
mixed hash part = bit_xor hash part * PRIME % 2 ^ 64

-- all bytes, one after another
abbrev pub hashed : ℕ → List ℕ → ℕ
hashed hash [] = hash
hashed hash (b ∷ bs) = hashed (mixed hash b) bs

-- the text of the key, and the port of an address
abbrev pub hash_of : Key → ℕ
hash_of (Listen a) = mixed (hashed BASIS a.host) a.port
hash_of (Writer name) = hashed BASIS name

-- how many pairs there are, by what is known of them
abbrev pub counted : Option Seen → ℕ
counted None = 0
counted (Some seen) = seen.count

-- how many of these leases have keys of a hash
abbrev pub hits : ℕ → List Leased → ℕ
hits q [] = 0
hits q (h ∷ hs) = cond (hash_of h.pair.key == q) (1 + hits q hs) (hits q hs)

-- what is known of each hash counts the leases that have it
abbrev pub AreCounted : {S : Type 0} → HashMap ℕ Seen S → List Leased → Type 0
AreCounted hashes held = (q : ℕ) → counted (get nat_eq hashes q) ≡ hits q held
