-- Part of the main theorem.
-- Histories: their entries, and whose they are.
use Rattle.std.specs.Prelude.{ℕ, ◌==◌, cond, List, [], ◌∷◌}
use Rattle.cd_legal.specs.declared.entry.Entry.{Entry}
use Rattle.cd_legal.specs.declared.entry.Signed.{Signed}

-- the entry, signed with the number of the pass whose call made it
abbrev pub signed : ℕ → Entry → Signed
signed k e = record { by = k; entry = e }

-- the entries without their signatures
abbrev pub entries : List Signed → List Entry
entries [] = []
entries (x ∷ xs) = x.entry ∷ entries xs

-- the entries that the pass has signed, in their order
abbrev pub mine : ℕ → List Signed → List Signed
mine k [] = []
mine k (x ∷ xs) = cond (x.by == k) (x ∷ mine k xs) (mine k xs)
