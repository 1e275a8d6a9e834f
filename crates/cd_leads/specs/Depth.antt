-- Part of the main theorem.
-- A value for each thing, from the values of those that it leads to.
use Rattle.std.specs.Prelude.{◌≡◌, true, false, ℕ, zero, suc, Bool, List}
use Rattle.std.specs.List.{list_any}
use Rattle.std.specs.Bool.{Decides}
use Rattle.cd_leads.specs.Leads.{leads_by}

-- one level over another, to a depth; at the bottom each thing has the same value
abbrev pub to_depth : {X A : Type 0} → ((X → A) → X → A) → A → ℕ → X → A
to_depth level bottom zero n = bottom
to_depth level bottom (suc depth) n = level (to_depth level bottom depth) n

-- a level that looks at those alone that a thing steps to, and at none for a thing that is unknown
pub record IsLevel {X A : Type 0} (same : X → X → Bool) (step : X → X → Bool) (names : List X) (level : (X → A) → X → A) (bottom : A) : Type 0 where
  pub near : (f g : X → A) (n : X) → ((m : X) → step n m ≡ true → f m ≡ g m) → level f n ≡ level g n
  pub unknown : (f : X → A) (n : X) → list_any (same n) names ≡ false → level f n ≡ bottom

pub record IsSame {X : Type 0} (same : X → X → Bool) : Type 0 where
  pub decides : (a b : X) → Decides (same a b) (a ≡ b)

-- nothing leads to itself
pub record NoCycle {X : Type 0} (same step : X → X → Bool) (ns : List X) : Type 0 where
  pub none : (n : X) → list_any (same n) ns ≡ true → leads_by step ns n n ≡ false
