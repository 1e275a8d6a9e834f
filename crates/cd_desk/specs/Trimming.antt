-- How rows of drafts that are closed go.
use Rattle.std.specs.Prelude.{◌≡◌, ℕ, ◌==◌, Bool, true, false, ◌&&◌, slice_get, Option, Some, None}
use Rattle.cd_legal.specs.declared.state.Life.{Life}
use Rattle.cd_legal.specs.declared.state.Life.TheVariants.{Live, Published, Abandoned}
use Rattle.cd_legal.specs.State.{holds}
use Rattle.cd_desk.specs.declared.row.Row.{Row}
use Rattle.cd_desk.specs.declared.books.Books.{Books}
use Rattle.cd_desk.specs.Rows.{row_with}
use Rattle.cd_desk.specs.Books.{RowAt, HasRowAt}

-- it is given up, or its serial is retired
abbrev pub is_done : Life → Bool → Bool
is_done Live retired = false
is_done (Published n) retired = retired
is_done Abandoned retired = true

-- all of the draft that was opened is ended, and may be: nothing more happens to it
abbrev pub is_closed_row : Row → Bool
is_closed_row r = is_done r.life r.retired && ((r.apps.ended == r.apps.opened) && (r.modules.ended == r.modules.opened))

-- the row of a draft stays, or it goes where the draft is closed
abbrev pub TrimsAt : Option Row → Option Row → Type 0
TrimsAt None now = now ≡ None
TrimsAt (Some r) None = is_closed_row r ≡ true
TrimsAt (Some r) (Some t) = t ≡ r

-- rows went, each that of a closed draft, and all else stays
pub record Trims (v w : Books) : Type 0 where
  pub rows : (d : ℕ) → TrimsAt (row_with d v.rows.items) (row_with d w.rows.items)
  pub next : w.next ≡ v.next
  pub pool : w.pool ≡ v.pool

-- the place of the row of a draft, where it is that of a closed draft; none where it is not, or there is none
abbrev pub IsClosedPlace : Books → ℕ → Option ℕ → Type 0
IsClosedPlace b d None = (place : ℕ) (r : Row) → RowAt b d place r → is_closed_row r ≡ false
IsClosedPlace b d (Some place) = HasRowAt b d place × (holds is_closed_row (slice_get b.rows.items place) ≡ true)

-- the first row, where there is one, is not that of a closed draft
abbrev pub IsTrimmed : Books → Type 0
IsTrimmed b = holds is_closed_row (slice_get b.rows.items 0) ≡ false

-- nothing is left of the draft, where it is closed: it has no row
abbrev pub IsCleared : Books → ℕ → Type 0
IsCleared b d = (place : ℕ) (r : Row) → RowAt b d place r → is_closed_row r ≡ false
