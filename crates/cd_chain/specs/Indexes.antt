-- What the index of a list of routes is sound for: a route that it does not show for a path is passed over by every request with
-- that path.
use Rattle.std.specs.Prelude.{◌≡◌, ◌≤◌, ◌<◌, ◌+◌, ℕ, List, length, get_or, Some}
use Rattle.std.specs.List.{slice_get}
use Rattle.cd_fill.specs.declared.scene.Scene.{Scene}
use Rattle.cd_index.specs.Tables.{IsCandidate}
use Rattle.cd_routes.specs.Running.{Rest}
use Rattle.cd_chain.specs.declared.index.Index.{Index}
use Rattle.cd_chain.specs.declared.place.Place.{Place}
use Rattle.cd_chain.specs.Places.{at}
use Rattle.cd_chain.specs.Steps.{steps_at}

-- the place at a position
abbrev pub number_at : Index → ℕ → ℕ
number_at index p = get_or index.numbers p 0

-- a position that is no candidate does what the one after it in the list does, and no position takes fewer steps than that
pub record IsSound (places : List Place) (index : Index) : Type 0 where
  pub within : (p : ℕ) → number_at index p ≤ length places
  pub passes : (p : ℕ) (back : Rest) (x : Scene) → p + 1 < length index.numbers → (IsCandidate index.table x.current.path (p + 1) → ⊥) →
      at places (number_at index (p + 1)) back x ≡ at places (number_at index p) back x
  pub falls : (p : ℕ) (back : ℕ) → p + 1 < length index.numbers → steps_at places (number_at index p) back ≤ steps_at places (number_at index (p + 1)) back

abbrev pub AreSound : List Place → List Index → Type 0
AreSound places indexes = (k : ℕ) (index : Index) → slice_get indexes k ≡ Some index → IsSound places index

-- an index that is being filled is sound, and its last position, of which no number is listed yet, is at this place
pub record IsBegun (places : List Place) (index : Index) (n : ℕ) : Type 0 where
  pub sound : IsSound places index
  pub top : index.table.top < length index.numbers
  pub last : (p : ℕ) → p + 1 ≡ length index.numbers → number_at index p ≡ n
