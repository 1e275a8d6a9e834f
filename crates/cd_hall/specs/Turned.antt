-- What a pass has made, where its entries follow one another.
use Rattle.std.specs.Prelude.{◌≡◌, ℕ, List, [], ◌∷◌, ◌++◌}
use mathlib.Core.List.{IsPrefix}
use Rattle.cd_legal.specs.declared.entry.Entry.{Entry}
use Rattle.cd_legal.specs.declared.entry.Signed.{Signed}
use Rattle.cd_legal.specs.declared.state.State.{State}
use Rattle.cd_legal.specs.Entry.{signed}
use Rattle.cd_legal.specs.Legal.{state_at}
use Rattle.cd_legal.specs.Placed.{Placed}
use Rattle.cd_gate.specs.declared.view.View.{View}
use Rattle.cd_gate.specs.Growing.{all_signed, Grows}

-- these entries, one after another right after a history, each with what comes before it
abbrev pub placed_behind : ℕ → List Signed → List Entry → List Placed
placed_behind k found [] = []
placed_behind k found (e ∷ es) = record { before = found; entry = e } ∷ placed_behind k (found ++ signed k e ∷ []) es

module _ {T : Type 0} where
  -- between its views v and w a pass made these entries, one after another, right after the history that it found. This begins with
  -- what the pass had seen, and nothing that it has seen comes after the last of them
  pub record Turned (v w : View T) (found : List Signed) (made : List Entry) : Type 0 where
    pub seen : IsPrefix v.seen found
    pub is : w.seen ≡ found ++ all_signed v.number made
    pub grows : Grows v w made

  -- the same for some history, with the entries that are given for its state
  abbrev pub Makes : View T → View T → (State → List Entry) → Type 0
  Makes v w made = (found : List Signed) × Turned v w found (made (state_at found))
