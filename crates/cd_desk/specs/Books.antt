-- How the books change.
use Rattle.std.specs.Prelude.{◌≡◌, ℕ, ◌<◌, List, length, slice_get, slice_set, Option, Some, None, Result, is_err, true}
use Rattle.cd_outside.specs.declared.key.Key.{Key}
use Rattle.cd_outside.specs.declared.fixtures.FixtureCall.{FixtureCall}
use Rattle.cd_legal.specs.declared.part.Part.{Part}
use Rattle.cd_legal.specs.declared.part.Part.TheVariants.{Instance, App}
use Rattle.cd_legal.specs.declared.state.Life.{Life}
use Rattle.cd_desk.specs.declared.row.Row.{Row}
use Rattle.cd_desk.specs.declared.books.Books.{Books}
use Rattle.cd_desk.specs.Lines.{OpensNext, EndsLast}
use Rattle.cd_desk.specs.Rows.{line_at, row_with}

-- the draft has this row, at this place
pub record RowAt (b : Books) (d place : ℕ) (r : Row) : Type 0 where
  pub number : d ≡ r.number
  pub there : slice_get b.rows.items place ≡ Some r

abbrev pub HasRow : Books → ℕ → Type 0
HasRow b d = (place : ℕ) × (r : Row) × RowAt b d place r

abbrev pub HasRowAt : Books → ℕ → ℕ → Type 0
HasRowAt b d place = (r : Row) × RowAt b d place r

-- a place is that of the row of the draft; none where it has none
abbrev pub IsRowPlace : ℕ → List Row → Option ℕ → Type 0
IsRowPlace d rows None = row_with d rows ≡ None
IsRowPlace d rows (Some place) = (r : Row) × (slice_get rows place ≡ Some r) × (row_with d rows ≡ Some r)

-- one of one of the two lines is left to be opened, and none of the line is ended
abbrev pub CanOpen : Part → Books → ℕ → Type 0
CanOpen part b place = (r : Row) × (slice_get b.rows.items place ≡ Some r) × ((line_at part r).opened < length (line_at part r).parts.items) × ((line_at part r).ended ≡ 0)

-- one of one of the two lines is left to be ended
abbrev pub CanEnd : Part → Books → ℕ → Type 0
CanEnd part b place = (r : Row) × (slice_get b.rows.items place ≡ Some r) × ((line_at part r).ended < (line_at part r).opened)

-- the other one
abbrev pub other : Part → Part
other Instance = App
other App = Instance

-- the row at a place changes, and no other one
pub record Changes (place : ℕ) (v w : Books) : Type 0 where
  pub was : Row
  pub is : Row
  pub there : slice_get v.rows.items place ≡ Some was
  pub rows : w.rows.items ≡ slice_set v.rows.items place is
  pub number : is.number ≡ was.number
  pub next : w.next ≡ v.next
  pub tree : is.tree ≡ was.tree
  pub plan : is.plan ≡ was.plan

-- the next one of a line is opened
pub record Opens (part : Part) (place : ℕ) (v w : Books) (before after : Option (List FixtureCall)) (result : Result (Unit {0}) Key) : Type 0 where
  pub changes : Changes place v w
  pub opens : OpensNext changes.was.number (line_at part changes.was) (line_at part changes.is) v.pool w.pool before after result
  pub others : line_at (other part) changes.is ≡ line_at (other part) changes.was
  pub failed : changes.is.failed ≡ is_err result
  pub life : changes.is.life ≡ changes.was.life
  pub retired : changes.is.retired ≡ changes.was.retired

-- the last one of a line that is opened and not ended is ended
pub record Ends (part : Part) (place : ℕ) (v w : Books) (before after : Option (List FixtureCall)) : Type 0 where
  pub changes : Changes place v w
  pub ends : EndsLast changes.was.number (line_at part changes.was) (line_at part changes.is) v.pool w.pool before after
  pub others : line_at (other part) changes.is ≡ line_at (other part) changes.was
  pub failed : changes.is.failed ≡ changes.was.failed
  pub life : changes.is.life ≡ changes.was.life
  pub retired : changes.is.retired ≡ changes.was.retired

-- the draft gets this life
pub record Lives (now : Life) (place : ℕ) (v w : Books) : Type 0 where
  pub changes : Changes place v w
  pub pool : w.pool ≡ v.pool
  pub modules : changes.is.modules ≡ changes.was.modules
  pub apps : changes.is.apps ≡ changes.was.apps
  pub failed : changes.is.failed ≡ changes.was.failed
  pub life : changes.is.life ≡ now
  pub retired : changes.is.retired ≡ changes.was.retired

-- the serial of the draft is retired
pub record Retires (place : ℕ) (v w : Books) : Type 0 where
  pub changes : Changes place v w
  pub pool : w.pool ≡ v.pool
  pub modules : changes.is.modules ≡ changes.was.modules
  pub apps : changes.is.apps ≡ changes.was.apps
  pub failed : changes.is.failed ≡ changes.was.failed
  pub life : changes.is.life ≡ changes.was.life
  pub retired : changes.is.retired ≡ true
