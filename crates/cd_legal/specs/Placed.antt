-- Part of the main theorem.
-- The entries of one pass, each with the history that stood before it. All that is said of a pass is said of these.
use Rattle.std.specs.Prelude.{ℕ, ◌==◌, cond, List, [], ◌∷◌, ◌++◌, map}
use Rattle.cd_legal.specs.declared.entry.Entry.{Entry}
use Rattle.cd_legal.specs.declared.entry.Signed.{Signed}
use Rattle.cd_legal.specs.declared.state.State.{State}
use Rattle.cd_legal.specs.Entry.{signed}
use Rattle.cd_legal.specs.Legal.{state_at}

-- an entry, and the history before it
pub record Placed : Type 0 where
  pub before : List Signed
  pub entry : Entry

-- those that the pass has signed of the entries that follow `before`
abbrev pub placed_from : ℕ → List Signed → List Signed → List Placed
placed_from k before [] = []
placed_from k before (x ∷ xs) =
    cond (x.by == k)
    (record { before = before; entry = x.entry } ∷ placed_from k (before ++ x ∷ []) xs)
    (placed_from k (before ++ x ∷ []) xs)

-- the entries that the pass has signed, each where it stands
abbrev pub placed : ℕ → List Signed → List Placed
placed k history = placed_from k [] history

-- the entries without their places
abbrev pub placed_entries : List Placed → List Entry
placed_entries own = map (λ p. p.entry) own

-- the history up to and with the last of these entries of the pass; empty where there is none of them
abbrev pub through : ℕ → List Placed → List Signed
through k [] = []
through k (p ∷ []) = p.before ++ signed k p.entry ∷ []
through k (p ∷ q ∷ own) = through k (q ∷ own)

-- the state that an entry meets
abbrev pub met : Placed → State
met p = state_at p.before
