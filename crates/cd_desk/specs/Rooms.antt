-- For how much a desk has room.
use Rattle.std.specs.Prelude.{◌≡◌}
use Rattle.std.specs.Vec.{vec_capacity}
use Rattle.cd_desk.specs.declared.desk.Desk.{Desk}

-- the desk has as much room for drafts and for callers as before: it took no memory for them, and gave none back
abbrev pub KeepsRoom : {F : Type 0} → Desk F → Desk F → Type 0
KeepsRoom v w = (vec_capacity w.books.rows ≡ vec_capacity v.books.rows) × (vec_capacity w.tickets.by_caller ≡ vec_capacity v.tickets.by_caller)
