-- What became of the lanes of a run, whether they were served or not.
use Rattle.std.specs.Prelude.{◌≡◌, ◌⊎◌, ℕ, Bool, true, false, List, length}
use mathlib.Core.List.{IsPrefix}
use Rattle.cd_legal.specs.declared.entry.Signed.{Signed}
use Rattle.cd_legal.specs.Legal.{state_at, IsLegal}
use Rattle.cd_gate.specs.declared.pass.Pass.{Pass}
use Rattle.cd_serve.specs.Reports.{Span, LanesTold}
use Rattle.cd_serve.specs.Meanings.{Meaning}
use Rattle.cd_host.specs.declared.host_end.HostHow.{HostHow}
use Rattle.cd_host.specs.declared.host_end.HostHow.TheVariants as how
use Rattle.cd_host.specs.declared.start_how.StartHow.{StartHow}
use Rattle.cd_host.specs.declared.start_how.StartHow.TheVariants as start
use Rattle.cd_host.specs.OwnPass.{AreBetween}
use Rattle.cd_host.specs.ServedLanes.{AreAtEnd}
use Rattle.cd_host.specs.Parts.{IsAlone, IsSignedByLanes}
use Rattle.cd_host.specs.Seated.{HaveTheirs}

-- how a run may end after its start: where the first configuration is published the lanes are served, unless the line fails
abbrev pub MayFollow : StartHow → HostHow → Type 0
MayFollow start.Published ended = (ended ≡ how.Served) ⊎ (ended ≡ how.WriteFault)
MayFollow (start.FirstRefused key) ended = ended ≡ how.FirstRefused key
MayFollow start.Unpublished ended = ended ≡ how.NoMemory

-- What the lanes come to in one history of all passes, where the program had seen `start` after its start, and `found` once the lanes
-- were served, or were left. Where they were left, nobody but the program has signed anything.
pub record HaveCome (m : Meaning) (served : Bool) (start found log : List Signed) (lanes : List Span) (answered cut : ℕ) : Type 0 where
  pub between : AreBetween start found log
  pub signed : IsSignedByLanes (length lanes) log
  pub alone : served ≡ false → IsAlone log
  pub told : LanesTold m log lanes answered cut
  pub ended : served ≡ true → (state_at found).halted ≡ false → AreAtEnd lanes

-- so in each history that begins with what was found, and has of the lanes what these passes have made
abbrev pub AreGone : {T : Type 0} → Meaning → Bool → List Signed → List Signed → List Span → List (Pass T) → ℕ → ℕ → Type 0
AreGone m served start found lanes passes answered cut = (log : List Signed) → IsLegal log → IsPrefix found log
    → HaveTheirs log passes → IsSignedByLanes (length passes) log → HaveCome m served start found log lanes answered cut
