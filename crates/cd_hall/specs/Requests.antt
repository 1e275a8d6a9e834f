-- What a pass has done that has begun a request, or looked for room for one.
use Rattle.std.specs.Prelude.{◌≡◌, ℕ, ◌<◌, List, []}
use mathlib.Core.List.{IsPrefix}
use Rattle.cd_legal.specs.declared.entry.Signed.{Signed}
use Rattle.cd_legal.specs.declared.limits.TheConstants.{MAX_BEGINS}
use Rattle.cd_legal.specs.Legal.{state_at}
use Rattle.cd_gate.specs.declared.view.View.{View}
use Rattle.cd_gate.specs.Counts.{begins_in}
use Rattle.cd_gate.specs.Tables.{Begins}
use Rattle.cd_hall.specs.Since.{Since}

-- by two steps a pass that had the view v has found room for a request, and begun it at the serial after this history; it has the
-- view w
pub record BegunNow {T : Type 0} (v w : View T) (serial : ℕ) (log : List Signed) : Type 0 where
  pub begins : Begins v w serial log
  -- at an earlier moment, after what it had seen, fewer requests than the limit had begun under the serial of then
  pub room : List Signed
  pub after : IsPrefix v.seen room
  pub before : IsPrefix room log
  pub few : begins_in room (state_at room).serial < MAX_BEGINS

-- in its turn a pass that had the view v has seen more of the history, and made nothing; it has the view w
pub record HasLooked {T : Type 0} (v w : View T) : Type 0 where
  pub found : List Signed
  pub since : Since v w found []
  pub checked : w.checked ≡ v.checked
