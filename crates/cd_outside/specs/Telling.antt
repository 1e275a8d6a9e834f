-- Part of the main theorem.
-- What is told before and after.
use Rattle.std.specs.Prelude.{Option, Some, None}

-- what is told now stands in this relation to what was told before; what tells goes on telling, what does not does not
abbrev pub TellsOn : {A : Type 0} → (A → A → Type 0) → Option A → Option A → Type 0
TellsOn R (Some before) (Some now) = R before now
TellsOn R None None = Unit {0}
TellsOn R (Some before) None = ⊥
TellsOn R None (Some now) = ⊥
