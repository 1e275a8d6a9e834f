-- Histories with and without tickets.
use Rattle.std.specs.Prelude.{Bool, true, false, ◌&&◌, not, cond, List, [], ◌∷◌}
use Rattle.cd_legal.specs.declared.entry.Entry.{Entry}
use Rattle.cd_legal.specs.declared.entry.Entry.TheVariants.{Begin, Finish, Retire}
use Rattle.cd_legal.specs.declared.entry.Signed.{Signed}
use Rattle.cd_legal.specs.declared.state.State.{State}
use Rattle.cd_legal.specs.State.{is_ticketed}
use Rattle.cd_legal.specs.Legal.{allowed, after}

-- ---- tickets

-- without Begin and Finish
abbrev pub core : List Entry → List Entry
core [] = []
core (Begin k n ∷ es) = core es
core (Finish k ∷ es) = core es
core (e ∷ es) = e ∷ core es

-- neither Begin nor Finish
abbrev pub is_core : Entry → Bool
is_core (Begin k n) = false
is_core (Finish k) = false
is_core e = true

-- a history without Begin and Finish
abbrev pub core_at : List Signed → List Signed
core_at [] = []
core_at (x ∷ xs) = cond (is_core x.entry) (x ∷ core_at xs) (core_at xs)

-- the state without its tickets
abbrev pub bare : State → State
bare s = record s { tickets = [] }

-- what an entry asks of the tickets
abbrev pub tickets_allow : State → Entry → Bool
tickets_allow s (Begin k n) = allowed s (Begin k n)
tickets_allow s (Finish k) = allowed s (Finish k)
tickets_allow s (Retire n) = not (is_ticketed n s.tickets)
tickets_allow s e = true

-- each Begin and Finish is allowed where it stands, and each Retire finds no open ticket there
abbrev pub tickets_fit : State → List Entry → Bool
tickets_fit s [] = true
tickets_fit s (e ∷ es) = tickets_allow s e && tickets_fit (after s e) es
