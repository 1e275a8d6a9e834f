-- Part of the main theorem.
-- What a call tells that has made these entries.
use Rattle.std.specs.Prelude.{◌≡◌, ℕ, List, [], ◌∷◌, ◌++◌}
use mathlib.Core.List.{IsPrefix}
use Rattle.cd_legal.specs.declared.entry.Entry.{Entry}
use Rattle.cd_legal.specs.declared.entry.Signed.{Signed}
use Rattle.cd_legal.specs.Entry.{signed, mine}
use Rattle.cd_legal.specs.Owing.{Owes, owes_by}
use Rattle.cd_legal.specs.Placed.{Placed, placed, placed_entries, through}
use Rattle.cd_legal.specs.Signing.{IsHistory}
use Rattle.cd_gate.specs.declared.view.View.{View}
use Rattle.cd_gate.specs.Words.{owed}

-- the entries, signed by the pass
abbrev pub all_signed : ℕ → List Entry → List Signed
all_signed k [] = []
all_signed k (e ∷ es) = signed k e ∷ all_signed k es

-- the history ends with the last of these entries of the pass, where there is one
abbrev pub EndsWith : List Signed → ℕ → List Entry → Type 0
EndsWith history k [] = Unit {0}
EndsWith history k (e ∷ []) = (before : List Signed) × (history ≡ before ++ signed k e ∷ [])
EndsWith history k (e ∷ f ∷ es) = EndsWith history k (f ∷ es)

-- what a pass owes that owed this before it made these entries
abbrev pub owes_after : Owes → List Entry → Owes
owes_after o [] = o
owes_after o (e ∷ es) = owes_after (owes_by o e) es

module _ {T : Type 0} where
  -- a call of a pass made these entries, in this order
  pub record Grows (v w : View T) (entries : List Entry) : Type 0 where
    -- what the pass has seen is a history, and begins with all that it had seen
    pub seen : IsPrefix v.seen w.seen
    pub history : IsHistory w.seen
    -- it had seen all of its entries; now it has these too, has seen them, and has seen nothing behind the last of them
    pub before : mine v.number v.seen ≡ v.mine
    pub own : mine v.number w.seen ≡ w.mine
    pub adds : w.mine ≡ v.mine ++ all_signed v.number entries
    pub last : EndsWith w.seen v.number entries
    -- its ticket and its draft are what these entries leave
    pub owes : owed w ≡ owes_after (owed v) entries
    -- all else but its duties is as it was
    pub same : w ≡ record v { seen = w.seen; mine = w.mine; ticket = w.ticket; draft = w.draft; duties = w.duties }

  -- the same by places: between two moments the pass made these entries, each where it stands in what the pass has then seen
  pub record Places (v w : View T) (added : List Placed) : Type 0 where
    pub number : w.number ≡ v.number
    pub seen : IsPrefix v.seen w.seen
    pub history : IsHistory w.seen
    pub placed_is : placed v.number w.seen ≡ placed v.number v.seen ++ added
    pub last : IsPrefix (through v.number added) w.seen
    -- what the pass knows of its own entries has grown by these, and all else but what it owes is as it was
    pub adds : w.mine ≡ v.mine ++ all_signed v.number (placed_entries added)
    pub same : w ≡ record v { seen = w.seen; mine = w.mine; ticket = w.ticket; draft = w.draft; duties = w.duties }
