-- Leases with gaps between them, for the clauses of private functions.
use Rattle.std.specs.Prelude.{◌≡◌, ℕ, ◌+◌, ◌≤◌, Bool, true, false, length, List, [], ◌∷◌, slice_get, Option, Some, None}
use Rattle.std.specs.HashMap.{HashMap}
use Rattle.cd_outside.specs.declared.key.Key.{Key}
use Rattle.cd_outside.specs.Keys.{key_eq}
use Rattle.cd_pool.specs.declared.hashes.Seen.{Seen}
use Rattle.cd_pool.specs.declared.lease.Leased.{Leased}
use Rattle.cd_pool.specs.declared.slots.Slot.{Slot}
use Rattle.cd_pool.specs.Hashes.{AreCounted}
use Rattle.cd_pool.specs.Numbers.{AreNumbers}

-- the leases without the gaps, in their order
abbrev pub leases : List (Option Slot) → List Leased
leases [] = []
leases (None ∷ slots) = leases slots
leases (Some slot ∷ slots) = slot.leased ∷ leases slots

-- the number of what is at a place
abbrev pub number_of : Option (Option Slot) → Option ℕ
number_of None = None
number_of (Some None) = None
number_of (Some (Some slot)) = Some slot.leased.number

abbrev pub number_at : ℕ → List (Option Slot) → Option ℕ
number_at place slots = number_of (slice_get slots place)

-- what is at a place has the key
abbrev pub is_key : Key → Option (Option Slot) → Bool
is_key key None = false
is_key key (Some None) = false
is_key key (Some (Some slot)) = key_eq key slot.leased.pair.key

-- what a pool keeps true: each number is used or free at most once, there is room for all of them, and hashes are counted
-- where they are known
pub record IsPool {S : Type 0} (slots : List (Option Slot)) (free : List ℕ) (count room free_room : ℕ) (known : Bool) (hashes : HashMap ℕ Seen S) : Type 0 where
  pub numbers : AreNumbers (leases slots) free (count + length free)
  pub counts : count ≡ length (leases slots)
  pub fits : count + length free ≤ room
  pub free_fits : count + length free ≤ free_room
  pub hashed : known ≡ true → AreCounted hashes (leases slots)
