-- What is left to be ended of a draft, and which serials may be retired, as the rows show it.
use Rattle.std.specs.Prelude.{◌≡◌, ℕ, zero, suc, ◌+◌, ◌-◌, ◌<◌, Bool, true, false, ◌||◌, slice_get, Option, Some, None, ◌==◌}
use Rattle.cd_legal.specs.declared.part.Part.{Part}
use Rattle.cd_legal.specs.declared.part.Part.TheVariants.{Instance, App}
use Rattle.cd_legal.specs.declared.entry.Entry.{Entry}
use Rattle.cd_legal.specs.declared.entry.Entry.TheVariants.{Stopped, Cleaned}
use Rattle.cd_legal.specs.declared.state.State.{State}
use Rattle.cd_legal.specs.declared.state.Drafted.{Drafted}
use Rattle.cd_legal.specs.declared.state.Life.{Life}
use Rattle.cd_legal.specs.declared.state.Life.TheVariants.{Published, Abandoned}
use Rattle.cd_legal.specs.State.{draft_of, may_stop_apps}
use Rattle.cd_legal.specs.Abandoned.{is_abandoned}
use Rattle.cd_desk.specs.declared.row.Row.{Row}
use Rattle.cd_desk.specs.declared.books.Books.{Books}
use Rattle.cd_desk.specs.declared.desk.Desk.{Desk}
use Rattle.cd_desk.specs.declared.closing.Closing.{Closing}
use Rattle.cd_desk.specs.Rows.{line_at}
use Rattle.cd_desk.specs.Books.{RowAt}
use Rattle.cd_desk.specs.Desks.{told_at}

-- given up, or published with a serial
abbrev pub life_by : Option ℕ → Life
life_by None = Abandoned
life_by (Some n) = Published n

-- the row is that of the draft, and so much of it is left
pub record IsRest (b : Books) (c : Closing) : Type 0 where
  pub place : ℕ
  pub row : Row
  pub at : RowAt b c.number place row
  pub life : row.life ≡ life_by c.serial
  pub apps : row.apps.ended + c.apps ≡ row.apps.opened
  pub instances : row.modules.ended + c.instances ≡ row.modules.opened

-- its serial, if it has one, is superseded; and where something is left its row is there
pub record IsClosing {F : Type 0} (v : Desk F) (c : Closing) : Type 0 where
  pub superseded : (n : ℕ) → c.serial ≡ Some n → n < v.serial
  pub rest : 0 < c.apps + c.instances → IsRest v.books c

-- its instances may be cleaned: the draft is given up, or its serial is retired
abbrev pub may_clean_row : Row → Bool
may_clean_row r = is_abandoned r.life || r.retired

-- those of the draft with this number may be
abbrev pub MayClean : Books → ℕ → Type 0
MayClean b d = (place : ℕ) (r : Row) → RowAt b d place r → may_clean_row r ≡ true

-- a draft that was published with the serial, which is not retired, and whose apps are stopped
pub record IsStopped (b : Books) (n : ℕ) : Type 0 where
  pub place : ℕ
  pub row : Row
  pub there : slice_get b.rows.items place ≡ Some row
  pub life : row.life ≡ Published n
  pub unretired : row.retired ≡ false
  pub stopped : row.apps.ended ≡ row.apps.opened

-- the serial is not retired, and its apps are stopped; serial 0 has none
abbrev pub IsStoppedAt : {F : Type 0} → Desk F → ℕ → Type 0
IsStoppedAt v zero = v.opening_retired ≡ false
IsStoppedAt v (suc n) = IsStopped v.books (suc n)

-- the serial is superseded, not retired, all its apps are stopped, and it has no request
pub record CanRetire {F : Type 0} (v : Desk F) (n : ℕ) : Type 0 where
  pub superseded : n < v.serial
  pub stopped : IsStoppedAt v n
  pub free : told_at n v.tickets.by_caller.items ≡ 0

-- how many apps of a draft are started and not stopped, and how many instances are made and not cleaned
abbrev pub apps_left : Option Drafted → ℕ
apps_left None = 0
apps_left (Some x) = x.started - x.stopped

abbrev pub instances_left : Option Drafted → ℕ
instances_left None = 0
instances_left (Some x) = x.made - x.cleaned

-- so much is left of the draft, where one is named
abbrev pub LeavesOf : State → Option ℕ → Closing → Type 0
LeavesOf s None c = (c.apps ≡ 0) × (c.instances ≡ 0)
LeavesOf s (Some d) c = (0 < c.apps + c.instances → c.number ≡ d) × ((c.apps ≡ apps_left (slice_get s.drafts d)) × (c.instances ≡ instances_left (slice_get s.drafts d)))

-- so much is left of the draft that was published with the serial
abbrev pub Leaves : State → ℕ → Closing → Type 0
Leaves s n c = LeavesOf s (draft_of n s.published) c

-- one of a line of the draft is left to be ended, and may be: an app where the draft is given up or of a superseded serial, an
-- instance where it is given up or of a retired one, once all apps are stopped
abbrev pub MayEnd : {F : Type 0} → Part → Desk F → Row → Type 0
MayEnd Instance v r = (may_clean_row r ≡ true) × (r.apps.ended ≡ r.apps.opened)
MayEnd App v r = may_stop_apps v.serial r.life ≡ true

pub record CanEndOf {F : Type 0} (part : Part) (v : Desk F) (d : ℕ) : Type 0 where
  pub place : ℕ
  pub row : Row
  pub at : RowAt v.books d place row
  pub may : MayEnd part v row
  pub left : (line_at part row).ended < (line_at part row).opened

-- the one at a place is ended
abbrev pub ending_entry : Part → ℕ → ℕ → Entry
ending_entry Instance d i = Cleaned d i
ending_entry App d i = Stopped d i

-- whether no app is left to be stopped of a draft that has this row, if it has one
abbrev pub is_stopped_row : Option Row → Bool
is_stopped_row None = true
is_stopped_row (Some r) = r.apps.ended == r.apps.opened
