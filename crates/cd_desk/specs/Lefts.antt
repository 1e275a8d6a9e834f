-- How far the making of a draft has come, as its row shows it.
use Rattle.std.specs.Prelude.{◌≡◌, ℕ, ◌+◌, ◌==◌, Bool, cond, length, is_some}
use Rattle.cd_tree.specs.declared.tree.Tree.{Tree}
use Rattle.cd_legal.specs.declared.state.Drafted.{Drafted}
use Rattle.cd_legal.specs.declared.state.Life.TheVariants.{Live}
use Rattle.cd_desk.specs.declared.row.Row.{Row}
use Rattle.cd_desk.specs.declared.books.Books.{Books}
use Rattle.cd_desk.specs.declared.left.Left.{Left}
use Rattle.cd_desk.specs.declared.left.Step.{Step}
use Rattle.cd_desk.specs.declared.left.Step.TheVariants.{Done, More}
use Rattle.cd_desk.specs.Books.{RowAt}

-- the row is that of a live draft that has come so far
pub record Follows (l : Left) (r : Row) : Type 0 where
  pub live : r.life ≡ Live
  pub failed : r.failed ≡ l.failed
  pub made : r.modules.opened ≡ l.made
  pub modules : length r.modules.parts.items ≡ l.modules
  pub started : r.apps.opened ≡ l.started
  pub apps : length r.apps.parts.items ≡ l.apps
  pub unended : (r.modules.ended ≡ 0) × (r.apps.ended ≡ 0)

-- the draft with this tree is live in the books, and has come so far
pub record IsLeft (b : Books) (t : Tree) (l : Left) : Type 0 where
  pub place : ℕ
  pub row : Row
  pub at : RowAt b l.number place row
  pub follows : Follows l row
  pub tree : row.tree.value ≡ t

-- so far a draft has come
abbrev pub left_of : ℕ → Drafted → Left
left_of d x = record { number = d; made = x.made; modules = length x.plan.modules; started = x.started; apps = length x.plan.apps; failed = is_some x.failed }

-- one instance more is made, or one app more is started; it failed where the call did
abbrev pub one_made : Left → Bool → Left
one_made l failed = record l { made = l.made + 1; failed = failed }

abbrev pub one_started : Left → Bool → Left
one_started l failed = record l { started = l.started + 1; failed = failed }

-- done where as many are there as it is to have
abbrev pub step_at : ℕ → ℕ → Step
step_at n all = cond (n == all) Done More
