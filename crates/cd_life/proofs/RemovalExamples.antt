-- Each relation where it holds, and a near miss.
use Rattle.std.proofs.Common.{◌≡◌, ◌≢◌, ℕ, zero, suc, List, [], ◌∷◌, Some, None, refl, ap, ◌∙◌}
use Rattle.std.specs.Prelude.{slice_get}
use Rattle.cd_life.specs.declared.board.Kept.{Kept}
use Rattle.cd_life.specs.declared.removed.Removed.{Removed}
use Rattle.cd_life.specs.Removals.{HandsBack}

only_there : {A : Type 0} (x y : A) (place : ℕ) → slice_get (x ∷ []) place ≡ Some y → x ≡ y
only_there x y zero is = cc
only_there x y (suc place) is = cc

not_nil : {A : Type 0} (x : A) → [] ≡ x ∷ [] → ⊥
not_nil x is = cc

-- ---- what is taken out, of one configuration that is kept

module _ {A B : Type 0} {g : _} (k : Kept A B g) (removed : Removed A B g) (is : removed.loaded ≡ k.loaded) where
  handed_back : HandsBack k.serial (k ∷ []) [] (Some removed)
  handed_back = (0, k, refl, refl, is, refl)

  -- nothing was taken out
  none_back : (n : ℕ) → HandsBack n (k ∷ []) (k ∷ []) None
  none_back n = refl

  -- it was taken out, and nothing was handed back
  not_lost : (n : ℕ) → HandsBack n (k ∷ []) [] None → ⊥
  not_lost n h = not_nil k h

  -- another one was asked for
  not_another : (n : ℕ) → k.serial ≢ n → HandsBack n (k ∷ []) [] (Some removed) → ⊥
  not_another n other h = other (ap (λ (z : Kept A B g). z.serial) (only_there k h.1 h.0 h.2) ∙ h.3)
