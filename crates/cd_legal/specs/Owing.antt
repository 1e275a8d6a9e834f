-- Part of the main theorem.
-- What a pass still owes after a history: the end of its request, and of its draft.
use Rattle.std.specs.Prelude.{ℕ, ◌==◌, cond, List, [], ◌∷◌, Option, Some, None}
use Rattle.cd_legal.specs.declared.entry.Entry.{Entry}
use Rattle.cd_legal.specs.declared.entry.Entry.TheVariants.{Draft, Publish, Abandon, Begin, Finish}
use Rattle.cd_legal.specs.declared.entry.Signed.{Signed}

-- the serial of its open ticket, and its draft
pub record Owes : Type 0 where
  pub ticket : Option ℕ
  pub draft : Option ℕ

-- nothing
abbrev pub owes_nothing : Owes
owes_nothing = record { ticket = None; draft = None }

-- what an entry of the pass opens and closes of it
abbrev pub owes_by : Owes → Entry → Owes
owes_by o (Draft d tree plan) = record o { draft = Some d }
owes_by o (Publish d n from change) = record o { draft = None }
owes_by o (Abandon d) = record o { draft = None }
owes_by o (Begin k n) = record o { ticket = Some n }
owes_by o (Finish k) = record o { ticket = None }
owes_by o e = o

-- what the pass owes, where it owed this before these entries
abbrev pub owes_from : Owes → ℕ → List Signed → Owes
owes_from o k [] = o
owes_from o k (x ∷ xs) = owes_from (cond (x.by == k) (owes_by o x.entry) o) k xs

-- what the pass owes after the history
abbrev pub owes_of : ℕ → List Signed → Owes
owes_of k log = owes_from owes_nothing k log
