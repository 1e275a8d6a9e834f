-- Part of the main theorem.
-- A run of all lanes, as the call that runs them tells it.
use Rattle.std.specs.Prelude.{◌≡◌, ◌<◌, ◌++◌, ℕ, Bool, true, false, List, [], length, codes, Option, option_map}
use mathlib.Core.List.{IsPrefix}
use Rattle.cd_outside.specs.declared.fixtures.FixtureCall.{FixtureCall}
use Rattle.cd_outside.specs.declared.given.Given.TheVariants as given
use Rattle.cd_outside.specs.declared.past.Past.{Past}
use Rattle.cd_outside.specs.Given.{IsGivenOf}
use Rattle.cd_legal.specs.declared.entry.Signed.{Signed}
use Rattle.cd_legal.specs.Entry.{mine, entries}
use Rattle.cd_legal.specs.Legal.{state_at}
use Rattle.cd_legal.specs.Signing.{IsHistory}
use Rattle.cd_legal.specs.State.{Conf}
use Rattle.cd_legal.specs.Whole.{IsOver, IsWhole}
use Rattle.cd_gate.specs.declared.pass.Pass.{Pass}
use Rattle.cd_gate.specs.declared.view.View.{View}
use Rattle.cd_gate.specs.Passes.{view}
use Rattle.cd_host.specs.declared.host_end.HostHow.{HostHow}
use Rattle.cd_host.specs.declared.host_end.HostHow.TheVariants as how
use Rattle.cd_host.specs.OwnPass.{HasHalted}
use Rattle.cd_host.specs.Runs.{Observed}
use Rattle.cd_host.specs.Seated.{spans}
use Rattle.cd_host.specs.Seats.{AllFrom}

-- ---- what is said

-- the line that says that a run serves
abbrev pub serving_line : List ℕ
serving_line = codes "serving initial configuration\n"

-- the lanes were served
abbrev pub is_served : HostHow → Bool
is_served how.Served = true
is_served (how.FirstRefused key) = false
is_served how.WriteFault = false
is_served how.NoMemory = false

-- What the output holds then: the line is written once the first configuration is published, and all of it before a lane is served.
abbrev pub HasSaid : HostHow → Option (List ℕ) → Option (List ℕ) → Type 0
HasSaid how.Served old new = new ≡ option_map (λ held. held ++ serving_line) old
HasSaid how.WriteFault old new = (part : List ℕ) × IsGivenOf given.Failed part serving_line × (new ≡ option_map (λ held. held ++ part) old)
HasSaid (how.FirstRefused key) old new = new ≡ old
HasSaid how.NoMemory old new = new ≡ old

-- ---- what is seen of it from outside

-- what the fixtures, which were `before` and are `now`, and the lanes, which were `olds` and are `news`, tell of a run
module _ {F L : Type 0} (calls : F → Option (List FixtureCall)) (failed : F → ℕ) (faults : L → ℕ) (past : L → Option Past) (since : L → Option (List ℕ)) where
  abbrev pub observed_of : F → F → List L → List L → ℕ → ℕ → ℕ → Option Conf → Observed
  observed_of before now olds news answered published cut last = record {
    calls_before = calls before;
    calls_now = calls now;
    failed_before = failed before;
    failed_now = failed now;
    lanes = spans faults past since olds news;
    answered = answered;
    published = published;
    cut = cut;
    last = last;
  }

-- ---- the end

-- The program has halted, or has found the host halted, by its own pass, which had this view. Then all passes have come together, the
-- others of which are these: their history begins with what each has seen, has its entries and no others, is over, and has ended all
-- that it began.
pub record IsClosed {T : Type 0} (root : View T) (passes : List (Pass T)) (log : List Signed) : Type 0 where
  pub end : View T
  pub halts : HasHalted root end
  pub history : IsHistory log
  pub seen : IsPrefix end.seen log
  pub own : mine 0 log ≡ end.mine
  pub each : AllFrom (λ k p. IsPrefix (view p).seen log × (mine k log ≡ (view p).mine)) 1 passes
  pub others : (k : ℕ) → length passes < k → mine k log ≡ []
  pub over : IsOver (state_at log)
  pub whole : IsWhole (entries log)
