-- What a pass does in its turn.
use Rattle.std.specs.Prelude.{◌≡◌, ℕ, ◌+◌, false, List, [], ◌∷◌, ◌++◌, Some, None}
use Rattle.cd_legal.specs.declared.entry.Entry.{Entry}
use Rattle.cd_legal.specs.declared.entry.Entry.TheVariants.{Halt}
use Rattle.cd_legal.specs.declared.entry.Signed.{Signed}
use Rattle.cd_legal.specs.Laws.{core_at}
use Rattle.cd_legal.specs.Legal.{state_at}
use Rattle.cd_legal.specs.Placed.{Placed, placed_entries}
use Rattle.cd_legal.specs.Runs.{stopped_of}
use Rattle.cd_gate.specs.declared.view.View.{View}
use Rattle.cd_gate.specs.Duties.{duties_after}
use Rattle.cd_gate.specs.Growing.{all_signed}
use Rattle.cd_hall.specs.Dues.{DueLater}
use Rattle.cd_hall.specs.Since.{Since}

-- the duties that these entries leave
abbrev pub duties_left : List ℕ → List Entry → List ℕ
duties_left duties [] = duties
duties_left duties (e ∷ es) = duties_left (duties_after duties e) es

-- where nothing was made, nothing more was seen
abbrev pub SeesMore : List Entry → List Signed → List Signed → Type 0
SeesMore [] before now = now ≡ before
SeesMore (e ∷ es) before now = Unit {0}

-- in its turn a pass that had the view v has made these entries, and has the view w; in between others have begun and ended requests,
-- and no more
pub record GoesOn {T : Type 0} (v w : View T) (made : List Entry) : Type 0 where
  pub found : List Signed
  pub added : List Placed
  pub since : Since v w found added
  pub are : placed_entries added ≡ made
  pub found_core : core_at found ≡ core_at v.seen
  pub core_is : core_at w.seen ≡ core_at v.seen ++ all_signed v.number made
  pub sees : SeesMore made v.seen w.seen
  pub checked : w.checked ≡ v.checked
  pub duties : w.duties ≡ duties_left v.duties made

-- the same where the pass has superseded a serial among these, and has settled it at last, which gave it these duties
pub record Settles {T : Type 0} (v w : View T) (made : List Entry) (duties : List ℕ) : Type 0 where
  pub unsettled : View T
  pub goes : GoesOn v unsettled made
  pub settled : w ≡ record unsettled { unsettled = None; duties = w.duties }
  pub more : w.duties ≡ duties ++ v.duties

-- in its turn a pass with the view v has halted the host, which ran, and has the view w and these duties more
pub record IsHalt {T : Type 0} (v w : View T) (duties : List ℕ) : Type 0 where
  pub settles : Settles v w (Halt ((state_at v.seen).serial + 1) ∷ stopped_of (state_at v.seen) (state_at v.seen).serial) duties
  pub running : (state_at v.seen).halted ≡ false
  pub due : DueLater w.seen (state_at v.seen).serial duties
  -- none come where its own request runs under the serial that the halt supersedes
  pub lent : v.ticket ≡ Some (state_at v.seen).serial → duties ≡ []
