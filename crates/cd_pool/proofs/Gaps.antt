-- Leases with gaps between them: what is at a place, and what stays when it is taken out.
use Rattle.std.proofs.Common.{◌≡◌, ℕ, zero, suc, ◌+◌, ◌<◌, ◌≤◌, ◌==◌, Bool, true, false, ◌||◌, cond, get_or, filter, List, [], ◌∷◌, ◌++◌, length, slice_set, refl, sym, ap, ◌∙◌, arith, Option, Some, None, is_some, eq-eqb}
use Rattle.std.specs.List.{slice_get}
use Rattle.std.specs.Option.{IsSome}
use Rattle.cd_outside.specs.declared.key.Key.{Key}
use Rattle.cd_outside.specs.Keys.{key_eq, has_key, keys_in}
use Rattle.cd_pool.specs.declared.lease.Leased.{Leased}
use Rattle.cd_pool.specs.declared.slots.Slot.{Slot}
use Rattle.cd_pool.specs.Pairs.{pairs, pair_at, without}
use Rattle.cd_pool.specs.Numbers.{uses}
use Rattle.cd_pool.specs.Slots.{leases, is_key, number_of, number_at}

-- a lease more at the end
pub leases-push : (slots : List (Option Slot)) (s : Slot) → leases (slots ++ Some s ∷ []) ≡ leases slots ++ s.leased ∷ []
leases-push [] s = refl
leases-push (None ∷ slots) s = leases-push slots s
leases-push (Some t ∷ slots) s = ap (λ z. t.leased ∷ z) (leases-push slots s)

-- without the gaps there are the same leases, and as many slots as leases
pub leases-filter : (slots : List (Option Slot)) → leases (filter is_some slots) ≡ leases slots
leases-filter [] = refl
leases-filter (None ∷ slots) = leases-filter slots
leases-filter (Some t ∷ slots) = ap (λ z. t.leased ∷ z) (leases-filter slots)

pub length-filter : (slots : List (Option Slot)) → length (filter is_some slots) ≡ length (leases slots)
length-filter [] = refl
length-filter (None ∷ slots) = length-filter slots
length-filter (Some t ∷ slots) = ap suc (length-filter slots)

-- the key of what is at a place is held
pub key_there : (key : Key) (slots : List (Option Slot)) (at : ℕ) → is_key key (slice_get slots at) ≡ true → has_key key (keys_in (pairs (leases slots))) ≡ true
key_there key [] at hit = cc
key_there key (None ∷ slots) zero hit = cc
key_there key (Some t ∷ slots) zero hit = ap (λ b. b || has_key key (keys_in (pairs (leases slots)))) hit
key_there key (None ∷ slots) (suc at) hit = key_there key slots at hit
key_there key (Some t ∷ slots) (suc at) hit = ap (λ b. key_eq key t.leased.pair.key || b) (key_there key slots at hit) ∙ or-true (key_eq key t.leased.pair.key)
  where
    or-true : (b : Bool) → (b || true) ≡ true
    or-true true = refl
    or-true false = refl

-- what an index gives
pub at_index : {X : Type 0} (xs : List X) (at : ℕ) (x d : X) → at < length xs → x ≡ get_or xs at d → slice_get xs at ≡ Some x
at_index [] at x d within is = absurd (omega arith)
at_index (y ∷ ys) zero x d within is = ap Some (sym is)
at_index (y ∷ ys) (suc at) x d within is = at_index ys at x d (omega arith) is

-- what is at a place has its number
pub number_there : (n at : ℕ) (slots : List (Option Slot)) (s : Slot) → slice_get slots at ≡ Some (Some s) → number_at at slots ≡ Some n → (s.leased.number == n) ≡ true
number_there n at slots s there named = let e : Some s.leased.number ≡ Some n = sym (ap number_of there) ∙ named in let same : s.leased.number ≡ n = cc in eq-eqb s.leased.number n same

-- there are at most as many leases as slots
pub length-leases : (slots : List (Option Slot)) → length (leases slots) ≤ length slots
length-leases [] = omega arith
length-leases (None ∷ slots) = omega (arith, length-leases slots)
length-leases (Some t ∷ slots) = omega (arith, length-leases slots)

-- a lease that is there uses its number
used : (n : ℕ) (slots : List (Option Slot)) (at : ℕ) (s : Slot) → slice_get slots at ≡ Some (Some s) → (s.leased.number == n) ≡ true → 1 ≤ uses n (leases slots)
used n [] at s there hit = absurd (let never : ⊥ = cc in never)
used n (None ∷ slots) zero s there hit = absurd (let never : ⊥ = cc in never)
used n (Some t ∷ slots) zero s there hit = let same : t ≡ s = cc in rw (same, hit) (omega arith)
used n (None ∷ slots) (suc at) s there hit = used n slots at s there hit
used n (Some t ∷ slots) (suc at) s there hit = more (t.leased.number == n) (used n slots at s there hit)
  where
    more : (b : Bool) → 1 ≤ uses n (leases slots) → 1 ≤ cond b (1 + uses n (leases slots)) (uses n (leases slots))
    more true le = omega arith
    more false le = le

-- a lease in front of the one with the number has another number
apart : (u : ℕ) (b : Bool) → cond b (1 + u) u ≤ 1 → 1 ≤ u → b ≡ false
apart u true once le = absurd (omega arith)
apart u false once le = refl

lower : (u : ℕ) (b : Bool) → cond b (1 + u) u ≤ 1 → u ≤ 1
lower u true once = omega arith
lower u false once = once

-- where a number is used once, its pair is the one of the lease that has it
pub pair_there : (n : ℕ) (slots : List (Option Slot)) (at : ℕ) (s : Slot) → slice_get slots at ≡ Some (Some s) → (s.leased.number == n) ≡ true → uses n (leases slots) ≤ 1 → pair_at n (leases slots) ≡ Some s.leased.pair
pair_there n [] at s there hit once = cc
pair_there n (None ∷ slots) zero s there hit once = cc
pair_there n (Some t ∷ slots) zero s there hit once = let same : t ≡ s = cc in rw (same, hit) refl
pair_there n (None ∷ slots) (suc at) s there hit once = pair_there n slots at s there hit once
pair_there n (Some t ∷ slots) (suc at) s there hit once =
    rw (apart (uses n (leases slots)) (t.leased.number == n) once (used n slots at s there hit)) (pair_there n slots at s there hit (lower (uses n (leases slots)) (t.leased.number == n) once))

-- and without it the others stay, in their order
pub gap_there : (n : ℕ) (slots : List (Option Slot)) (at : ℕ) (s : Slot) → slice_get slots at ≡ Some (Some s) → (s.leased.number == n) ≡ true → uses n (leases slots) ≤ 1 → leases (slice_set slots at None) ≡ without n (leases slots)
gap_there n [] at s there hit once = cc
gap_there n (None ∷ slots) zero s there hit once = cc
gap_there n (Some t ∷ slots) zero s there hit once = let same : t ≡ s = cc in rw (same, hit) refl
gap_there n (None ∷ slots) (suc at) s there hit once = gap_there n slots at s there hit once
gap_there n (Some t ∷ slots) (suc at) s there hit once =
    rw (apart (uses n (leases slots)) (t.leased.number == n) once (used n slots at s there hit)) (ap (λ z. t.leased ∷ z) (gap_there n slots at s there hit (lower (uses n (leases slots)) (t.leased.number == n) once)))

-- one lease less
pub length-without : (n : ℕ) (hs : List Leased) → IsSome (pair_at n hs) → length (without n hs) + 1 ≡ length hs
length-without n [] some = cc
length-without n (h ∷ hs) some = step (h.number == n) some (length-without n hs)
  where
    step : (b : Bool) → IsSome (cond b (Some h.pair) (pair_at n hs)) → (IsSome (pair_at n hs) → length (without n hs) + 1 ≡ length hs) → length (cond b hs (h ∷ without n hs)) + 1 ≡ suc (length hs)
    step true here rec = omega arith
    step false here rec = let rest = rec here in omega arith
