-- The passes of a run, each with its lane while the lanes are served.
use Rattle.std.specs.Prelude.{◌≡◌, ◌+◌, ℕ, Bool, false, List, [], ◌∷◌, All, length}
use mathlib.Core.List.{IsPrefix}
use Rattle.cd_legal.specs.declared.entry.Signed.{Signed}
use Rattle.cd_gate.specs.declared.pass.Pass.{Pass}
use Rattle.cd_gate.specs.Ends.{IsFree}
use Rattle.cd_gate.specs.Passes.{view}
use Rattle.cd_life.specs.declared.board.Board.{Board}
use Rattle.cd_hall.specs.declared.hall.Hall.{Hall}
use Rattle.cd_hall.specs.Calls.{IsPassOf}
use Rattle.cd_host.specs.declared.slot.Slot.{Slot}

-- this holds of each element, with the number of its place, where the first has the number k
abbrev pub AllFrom : {A : Type 0} → (ℕ → A → Type 0) → ℕ → List A → Type 0
AllFrom P k [] = Unit {0}
AllFrom P k (x ∷ xs) = P k x × AllFrom P (k + 1) xs

module _ {A F B : Type 0} {g : _} (h : Hall A F B g) where
  -- the pass of this number of the hall, which owes nothing
  pub record IsIdleAt (k : ℕ) (p : Pass (Board A F B g)) : Type 0 where
    pub is : IsPassOf h p
    pub number : (view p).number ≡ k
    pub free : IsFree p

  -- which has made nothing
  pub record IsUnused (k : ℕ) (p : Pass (Board A F B g)) : Type 0 where
    pub idle : IsIdleAt k p
    pub mine : (view p).mine ≡ []

  -- and has seen this, in a slot
  pub record IsReady {L : Type 0} (seen : List Signed) (k : ℕ) (slot : Slot A F L B g) : Type 0 where
    pub unused : IsUnused k slot.pass
    pub told : IsPrefix seen (view slot.pass).seen

  -- The lanes may be served, each by one of these passes: they have made nothing, as many as there are lanes, and no lane has a
  -- connection.
  pub record AreReady {L : Type 0} (busy : L → Bool) (first : Pass (Board A F B g)) (others : List (Pass (Board A F B g))) (ls : List L) : Type 0 where
    pub root : IsPassOf h first
    pub passes : AllFrom IsUnused 1 others
    pub enough : length others ≡ length ls
    pub idle : All (λ lane. busy lane ≡ false) ls

  -- They are back, as many as there were, and owe nothing; no lane has a connection, and the pass of the program has seen more, and
  -- has made nothing.
  pub record AreBack {L : Type 0} (busy : L → Bool) (first first' : Pass (Board A F B g)) (others others' : List (Pass (Board A F B g))) (ls ls' : List L) : Type 0 where
    pub root : IsPassOf h first'
    pub seen : IsPrefix (view first).seen (view first').seen
    pub same : view first' ≡ record (view first) { seen = (view first').seen }
    pub passes : AllFrom IsIdleAt 1 others'
    pub as_many_passes : length others' ≡ length others
    pub as_many_lanes : length ls' ≡ length ls
    pub idle : All (λ lane. busy lane ≡ false) ls'

-- the pass has seen no more than this
abbrev pub IsWithin : {T : Type 0} → List Signed → ℕ → Pass T → Type 0
IsWithin seen k p = IsPrefix (view p).seen seen
