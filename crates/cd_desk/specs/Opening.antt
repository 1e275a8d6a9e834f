-- What the calls that open an instance or an app of a draft ask for, and their entries.
use Rattle.std.specs.Prelude.{◌≡◌, ℕ, ◌<◌, false, List, length, Option, Result}
use Rattle.cd_outside.specs.declared.key.Key.{Key}
use Rattle.cd_outside.specs.declared.fixtures.FixtureCall.{FixtureCall}
use Rattle.cd_legal.specs.declared.part.Part.{Part}
use Rattle.cd_legal.specs.declared.part.Part.TheVariants.{Instance, App}
use Rattle.cd_legal.specs.declared.entry.Entry.{Entry}
use Rattle.cd_legal.specs.declared.entry.Entry.TheVariants.{Made, Started}
use Rattle.cd_legal.specs.declared.state.Life.TheVariants.{Live}
use Rattle.cd_desk.specs.declared.row.Row.{Row}
use Rattle.cd_desk.specs.declared.books.Books.{Books}
use Rattle.cd_desk.specs.declared.desk.Desk.{Desk}
use Rattle.cd_desk.specs.Instances.{failed_of}
use Rattle.cd_desk.specs.Rows.{line_at}
use Rattle.cd_desk.specs.Books.{RowAt, HasRowAt, Opens}
use Rattle.cd_desk.specs.Desks.{AddsTo}

-- an app waits for all instances
abbrev pub IsReady : Part → Row → Type 0
IsReady Instance r = Unit {0}
IsReady App r = r.modules.opened ≡ length r.modules.parts.items

-- the draft is live, nothing failed, what the next one waits for is made, and one is left; none is ended
pub record CanOpenOf (part : Part) (b : Books) (d : ℕ) : Type 0 where
  pub place : ℕ
  pub row : Row
  pub at : RowAt b d place row
  pub live : row.life ≡ Live
  pub unfailed : row.failed ≡ false
  pub ready : IsReady part row
  pub left : (line_at part row).opened < length (line_at part row).parts.items
  pub unended : (line_at part row).ended ≡ 0

-- the one at a place is opened, with so many keys, and the key that could not be opened
abbrev pub opening_entry : Part → ℕ → ℕ → ℕ → Option Key → Entry
opening_entry Instance d i taken failed = Made d i taken failed
opening_entry App d i taken failed = Started d i taken failed

module _ {F : Type 0} (calls : F → Option (List FixtureCall)) where
  -- the next one is opened, and its entry is added, with the number of the keys that it has taken
  pub record OpensEntry (part : Part) (v w : Desk F) (d : ℕ) (result : Result (Unit {0}) Key) : Type 0 where
    pub place : ℕ
    pub at : HasRowAt v.books d place
    pub opens : Opens part place v.books w.books (calls v.fixtures) (calls w.fixtures) result
    pub adds : AddsTo calls v w (opening_entry part d (line_at part opens.changes.was).opened (length opens.opens.takes.0) (failed_of result))
