-- What a row of the board shows of a draft.
use Rattle.std.specs.Prelude.{◌≡◌, ℕ, suc, ◌+◌, ◌≤◌, ◌==◌, Bool, true, false, cond, List, [], ◌∷◌, slice_get, sum_by, Option, Some, None, is_some}
use Rattle.std.specs.Coded.{le_prop}
use Rattle.cd_outside.specs.declared.holder.Holder.{Holder}
use Rattle.cd_legal.specs.declared.part.Part.{Part}
use Rattle.cd_legal.specs.declared.part.Part.TheVariants.{Instance, App}
use Rattle.cd_legal.specs.declared.state.Drafted.{Drafted}
use Rattle.cd_legal.specs.declared.state.Life.{Life}
use Rattle.cd_legal.specs.declared.state.Life.TheVariants.{Live, Published, Abandoned}
use Rattle.cd_legal.specs.State.{has_number}
use Rattle.cd_desk.specs.declared.instance.Instance.{Instance as Held}
use Rattle.cd_desk.specs.declared.line.Line.{Line}
use Rattle.cd_desk.specs.declared.row.Row.{Row}
use Rattle.cd_desk.specs.Waiting.{waits}

-- the instances, or the apps
abbrev pub line_by : Bool → Row → Line
line_by true r = r.apps
line_by false r = r.modules

abbrev pub line_at : Part → Row → Line
line_at Instance r = r.modules
line_at App r = r.apps

-- its serial is retired
abbrev pub is_retired : List ℕ → Life → Bool
is_retired retired Live = false
is_retired retired (Published n) = has_number n retired
is_retired retired Abandoned = false

-- the row shows the draft
pub record Shows (retired : List ℕ) (r : Row) (x : Drafted) : Type 0 where
  pub tree : x.tree ≡ r.tree.value
  pub plan : x.plan ≡ r.plan.value
  pub made : x.made ≡ r.modules.opened
  pub started : x.started ≡ r.apps.opened
  pub failed : is_some x.failed ≡ r.failed
  pub life : x.life ≡ r.life
  pub stopped : x.stopped ≡ r.apps.ended
  pub cleaned : x.cleaned ≡ r.modules.ended
  pub over : is_retired retired x.life ≡ r.retired

-- where the draft has a row
abbrev pub ShowsAt : List ℕ → Option Row → Option Drafted → Type 0
ShowsAt retired None x = Unit {0}
ShowsAt retired (Some r) None = ⊥
ShowsAt retired (Some r) (Some x) = Shows retired r x

-- the row of a draft, if it has one
abbrev pub row_with : ℕ → List Row → Option Row
row_with d [] = None
row_with d (r ∷ rows) = cond (d == r.number) (Some r) (row_with d rows)

-- the numbers of the drafts rise, from the one number on, and are below the other
abbrev pub Numbered : ℕ → List Row → ℕ → Type 0
Numbered from [] to = from ≤ to
Numbered from (r ∷ rows) to = (from ≤ r.number) × Numbered (suc r.number) rows to

-- there is one proof of it at most
pub Numbered-prop : (from : ℕ) (rows : List Row) (to : ℕ) → IsProp (Numbered from rows to)
Numbered-prop from [] to p q = le_prop p q
Numbered-prop from (r ∷ rows) to p q = λ i. (le_prop p.0 q.0 i, Numbered-prop (suc r.number) rows to p.1 q.1 i)

-- the leases of an instance or an app
abbrev pub leases_in : Option Held → List ℕ
leases_in None = []
leases_in (Some a) = a.leases.items

-- those of the one at a place of a draft that has this row, if it has one
abbrev pub leases_at : Option Row → Bool → ℕ → List ℕ
leases_at None app i = []
leases_at (Some r) app i = leases_in (slice_get (line_by app r).parts.items i)

-- how many keys are still to be taken
abbrev pub line_waits : Line → ℕ
line_waits l = sum_by waits l.parts.items

abbrev pub row_waits : Row → ℕ
row_waits r = line_waits r.modules + line_waits r.apps

-- the holder at a place of a draft
abbrev pub place_in : ℕ → Bool → ℕ → Holder
place_in d app i = record { draft = d; app = app; place = i }
