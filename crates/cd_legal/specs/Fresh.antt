-- Part of the main theorem.
-- No request begins under an older configuration than its pass has seen.
use Rattle.std.specs.Prelude.{ℕ, ◌==◌, max, Bool, true, ◌&&◌, nat_le, List, [], ◌∷◌, IsTrue}
use Rattle.cd_legal.specs.declared.entry.Entry.{Entry}
use Rattle.cd_legal.specs.declared.entry.Entry.TheVariants.{Publish, Begin, Retire, Halt}
use Rattle.cd_legal.specs.Placed.{Placed, met}

-- the largest serial that an entry names, 0 where it names none
abbrev pub named : Entry → ℕ
named (Publish d n from change) = max n from
named (Begin k n) = n
named (Retire n) = n
named (Halt n) = n
named e = 0

-- a Begin names the serial that it meets, which is none older than this one
abbrev pub is_fresh_at : ℕ → ℕ → Entry → Bool
is_fresh_at least serial (Begin k n) = (n == serial) && nat_le least n
is_fresh_at least serial e = true

-- each Begin does so, and is not older than a serial that an entry before it names
abbrev pub is_fresh_from : ℕ → List Placed → Bool
is_fresh_from least [] = true
is_fresh_from least (p ∷ own) =
    is_fresh_at least (met p).serial p.entry && is_fresh_from (max least (named p.entry)) own

-- so of all entries of a pass
abbrev pub is_fresh : List Placed → Bool
is_fresh own = is_fresh_from 0 own

-- each Begin of these entries names the serial that it meets, and none older than one that an entry before it names
abbrev pub Fresh : List Placed → Type 0
Fresh own = IsTrue (is_fresh own)
