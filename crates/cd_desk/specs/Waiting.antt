-- Instances that are still to be opened.
use Rattle.std.specs.Prelude.{◌≡◌, ℕ, ◌≤◌, List, [], ◌∷◌, reverse, length, slice_get, Some}
use Rattle.cd_outside.specs.declared.key.Key.{Key}
use Rattle.cd_legal.specs.State.{keys_at}
use Rattle.cd_desk.specs.declared.instance.Instance.{Instance}

-- those from this place on wait for the keys that the plan names, and hold none
abbrev pub Wait : ℕ → List Instance → List (List Key) → Type 0
Wait from parts keys = (i : ℕ) (a : Instance) → slice_get parts i ≡ Some a → from ≤ i → (reverse a.waiting.items ≡ keys_at keys i) × (a.leases.items ≡ [])

-- those from this place on hold nothing
abbrev pub Spent : ℕ → List Instance → Type 0
Spent from parts = (i : ℕ) (a : Instance) → slice_get parts i ≡ Some a → from ≤ i → a.leases.items ≡ []

-- how many keys are still to be taken
abbrev pub waits : Instance → ℕ
waits a = length a.waiting.items

abbrev pub IsEmpty : Instance → Type 0
IsEmpty a = a.leases.items ≡ []

-- each of them waits for its keys
abbrev pub AllWait : List Instance → List (List Key) → Type 0
AllWait [] [] = Unit {0}
AllWait [] (keys ∷ rest) = ⊥
AllWait (a ∷ parts) [] = ⊥
AllWait (a ∷ parts) (keys ∷ rest) = (reverse a.waiting.items ≡ keys) × (a.leases.items ≡ []) × AllWait parts rest
