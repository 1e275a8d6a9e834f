-- What places mean, and how many steps they take, by their numbers.
use Rattle.std.proofs.Common.{◌≡◌, ℕ, zero, suc, ◌-◌, ◌<◌, ◌≤◌, List, [], ◌∷◌, length, get_or, take, refl}
use Rattle.cd_chain.specs.declared.place.Place.{Place}
use Rattle.cd_chain.specs.Places.{ended, meanings, place_does, at}
use Rattle.cd_chain.specs.Steps.{no_steps, counts, place_steps, steps_at}
use Rattle.cd_chain.proofs.Laid.{laid_is, laid_nothing, laid_zero}

pub place_is : (places : List Place) (n : ℕ) (p : Place) → 0 < n → n ≤ length places → p ≡ get_or places (n - 1) p → at places n ≡ place_does (meanings (take (n - 1) places)) p
place_is = laid_is place_does ended

pub at_nothing : (places : List Place) (n : ℕ) → length places < n → at places n ≡ ended
at_nothing = laid_nothing place_does ended

pub at_zero : (places : List Place) (n : ℕ) → n ≡ 0 → at places n ≡ ended
at_zero = laid_zero place_does ended

pub steps_is : (places : List Place) (n : ℕ) (p : Place) → 0 < n → n ≤ length places → p ≡ get_or places (n - 1) p → steps_at places n ≡ place_steps (counts (take (n - 1) places)) p
steps_is = laid_is place_steps no_steps

pub steps_nothing : (places : List Place) (n : ℕ) → length places < n → steps_at places n ≡ no_steps
steps_nothing = laid_nothing place_steps no_steps

pub steps_zero : (places : List Place) (n : ℕ) → n ≡ 0 → steps_at places n ≡ no_steps
steps_zero = laid_zero place_steps no_steps

-- what stands at a place is what is read there
pub read_there : (places : List Place) (i : ℕ) (d : Place) → get_or places i d ≡ get_or places i (get_or places i d)
read_there [] i d = refl
read_there (p ∷ places) zero d = refl
read_there (p ∷ places) (suc i) d = read_there places i d
