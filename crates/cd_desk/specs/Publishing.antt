-- What the calls that end a draft's making ask for.
use Rattle.std.specs.Prelude.{◌≡◌, ℕ, ◌+◌, ◌^◌, ◌<◌, false, length}
use Rattle.cd_legal.specs.declared.state.Life.TheVariants.{Live}
use Rattle.cd_desk.specs.declared.row.Row.{Row}
use Rattle.cd_desk.specs.declared.books.Books.{Books}
use Rattle.cd_desk.specs.declared.desk.Desk.{Desk}
use Rattle.cd_desk.specs.Books.{RowAt}

-- all of it is made and started, and nothing failed
pub record IsComplete (r : Row) : Type 0 where
  pub live : r.life ≡ Live
  pub unfailed : r.failed ≡ false
  pub made : r.modules.opened ≡ length r.modules.parts.items
  pub started : r.apps.opened ≡ length r.apps.parts.items

-- the draft is complete, the host is not halted, and another serial is there
pub record CanPublish {F : Type 0} (v : Desk F) (d : ℕ) : Type 0 where
  pub place : ℕ
  pub row : Row
  pub at : RowAt v.books d place row
  pub complete : IsComplete row
  pub running : v.halted ≡ false
  pub bound : v.serial + 1 < 2 ^ 32

-- the draft is live
pub record CanAbandon (b : Books) (d : ℕ) : Type 0 where
  pub place : ℕ
  pub row : Row
  pub at : RowAt b d place row
  pub live : row.life ≡ Live
