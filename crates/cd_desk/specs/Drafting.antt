-- What is there of a new draft.
use Rattle.std.specs.Prelude.{◌≡◌, ℕ, List, false}
use Rattle.cd_tree.specs.declared.tree.Tree.{Tree}
use Rattle.cd_legal.specs.declared.plan.Plan.{Plan}
use Rattle.cd_legal.specs.declared.part.Part.{Part}
use Rattle.cd_legal.specs.declared.state.Life.TheVariants.{Live}
use Rattle.cd_desk.specs.declared.instance.Instance.{Instance as Held}
use Rattle.cd_desk.specs.declared.line.Line.{Line}
use Rattle.cd_desk.specs.declared.row.Row.{Row}
use Rattle.cd_desk.specs.declared.books.Books.{Books}
use Rattle.cd_desk.specs.Lines.{IsWhole}
use Rattle.cd_desk.specs.Books.{RowAt}

-- how many drafts were made
abbrev pub drafts_in : Books → ℕ
drafts_in b = b.next

-- none of these is opened
pub record IsNew (kind : Part) (p : Plan) (held : List Held) (l : Line) : Type 0 where
  pub part : l.part ≡ kind
  pub plan : l.plan.value ≡ p
  pub parts : l.parts.items ≡ held
  pub opened : l.opened ≡ 0
  pub ended : l.ended ≡ 0
  pub whole : IsWhole l

-- live, and nothing has happened to it
pub record IsUnused (r : Row) : Type 0 where
  pub failed : r.failed ≡ false
  pub life : r.life ≡ Live
  pub retired : r.retired ≡ false

-- a draft that is live and of which nothing is opened
pub record HasNew (b : Books) (d : ℕ) (t : Tree) (p : Plan) : Type 0 where
  pub place : ℕ
  pub row : Row
  pub at : RowAt b d place row
  pub tree : row.tree.value ≡ t
  pub plan : row.plan.value ≡ p
  pub unused : IsUnused row
  pub modules : (row.modules.opened ≡ 0) × (row.modules.ended ≡ 0)
  pub apps : (row.apps.opened ≡ 0) × (row.apps.ended ≡ 0)
