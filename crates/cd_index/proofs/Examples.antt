-- Each definition where it holds, and a near miss.
use Rattle.std.proofs.Common.{◌≡◌, true, false, Bool, ℕ, zero, suc, ◌<◌, ◌≤◌, ◌%◌, List, [], ◌∷◌, length, take, get_or, inl, inr, refl, sym, ap, subst, ◌∙◌, true≢false, arith}
use Rattle.std.specs.Prelude.{codes}
use Rattle.std.specs.Str.{str_to_ascii_lowercase}
use Rattle.cd_index.specs.Hashing.{hash}
use Rattle.cd_index.specs.Runs.{Has, IsRising, IsRun}
use Rattle.cd_index.specs.Tables.{HasKeyOf, IsCandidate, Keeps}
use Rattle.cd_index.specs.declared.table.Table.{Table}

-- ---- numbers

has : Has 7 (3 ∷ 7 ∷ [])
has = (1, omega arith, refl)

-- a number between two of them
has_not : Has 5 (3 ∷ 7 ∷ []) → ⊥
has_not h = other h.0 h.1 h.2
  where
    other : (i : ℕ) → i < 2 → get_or {A = ℕ} (3 ∷ 7 ∷ []) i 0 ≡ 5 → ⊥
    other zero within is = omega (arith, is)
    other (suc zero) within is = omega (arith, is)
    other (suc (suc i)) within is = omega (arith, within)

has_nothing : (n : ℕ) → Has n [] → ⊥
has_nothing n h = let within : h.0 < 0 = h.1 in omega (arith, within)

rising : IsRising (3 ∷ 7 ∷ [])
rising i j less within = next i j less within
  where
    next : (i j : ℕ) → i < j → j < 2 → get_or (3 ∷ 7 ∷ []) i 0 < get_or (3 ∷ 7 ∷ []) j 0
    next zero zero less within = absurd (omega (arith, less))
    next zero (suc zero) less within = omega arith
    next (suc i) zero less within = absurd (omega (arith, less))
    next (suc i) (suc zero) less within = absurd (omega (arith, less))
    next i (suc (suc j)) less within = absurd (omega (arith, within))

-- twice the same
not_rising : IsRising (3 ∷ 3 ∷ []) → ⊥
not_rising r = let h : 3 < 3 = r 0 1 (omega arith) (omega arith) in omega (arith, h)

run : IsRun 7 (3 ∷ 7 ∷ [])
run = record { rising = rising; below = below }
  where
    below : (i : ℕ) → i < 2 → get_or (3 ∷ 7 ∷ []) i 0 ≤ 7
    below zero within = omega arith
    below (suc zero) within = omega arith
    below (suc (suc i)) within = absurd (omega (arith, within))

-- the last one is above
not_run : IsRun 6 (3 ∷ 7 ∷ []) → ⊥
not_run r = let h : 7 ≤ 6 = r.below 1 (omega arith) in omega (arith, h)

-- ---- tables

-- the number 3 has the key `a`
module _ (table : Table) (lengths : table.lengths.items ≡ false ∷ true ∷ []) (buckets : table.buckets.items ≡ (3 ∷ []) ∷ []) where
  -- in any case
  has_key : HasKeyOf table (codes "Ab") 3 1
  unfolding hash
  has_key =
      let there : get_or table.buckets.items (hash (str_to_ascii_lowercase (take 1 (codes "Ab"))) % length table.buckets.items) [] ≡ 3 ∷ [] =
      ap (λ (bs : List (List ℕ)). get_or bs (hash (str_to_ascii_lowercase (take 1 (codes "Ab"))) % length bs) []) buckets in
      (ap (λ (l : List Bool). get_or l 1 false) lengths, omega arith, subst (Has 3) (sym there) (0, omega arith, refl))

  -- no key is of no bytes
  has_no_key : HasKeyOf table (codes "Ab") 3 0 → ⊥
  has_no_key key = true≢false (sym key.0 ∙ ap (λ (l : List Bool). get_or l 0 false) lengths)

  by_key : IsCandidate table (codes "Ab") 3
  by_key = inr (1, has_key)

-- the number 5 has no keys
module _ (old : Table) (free : old.free ≡ 5 ∷ []) where
  by_none : (text : List ℕ) → IsCandidate old text 5
  by_none text = inl (subst (Has 5) (sym free) (0, omega arith, refl))

  -- the table has neither keys nor numbers without them
  module _ (new : Table) (none : new.free ≡ []) (lengths : new.lengths.items ≡ []) where
    no_candidate : (text : List ℕ) (n : ℕ) → IsCandidate new text n → ⊥
    no_candidate text n (inl one) = has_nothing n (subst (Has n) none one)
    no_candidate text n (inr key) = true≢false (sym key.1.0 ∙ ap (λ (l : List Bool). get_or l key.0 false) lengths ∙ unmarked key.0)
      where
        unmarked : (k : ℕ) → get_or [] k false ≡ false
        unmarked zero = refl
        unmarked (suc k) = refl

    -- so the number was lost
    not_kept : Keeps old new → ⊥
    not_kept keeps = no_candidate [] 5 (keeps [] 5 (by_none []))

  kept : Keeps old old
  kept text n is = is
