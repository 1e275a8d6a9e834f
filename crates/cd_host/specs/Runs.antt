-- Part of the main theorem.
-- What a run of all lanes promises.
use Rattle.std.specs.Prelude.{◌≡◌, ◌⊎◌, ℕ, Bool, true, false, List, length, Option, Some, None, Ok}
use Rattle.cd_outside.specs.declared.fixtures.FixtureCall.{FixtureCall}
use Rattle.cd_outside.specs.Counts.{Covers}
use Rattle.cd_outside.specs.FixtureCall.{CallsGrow}
use Rattle.cd_tree.specs.declared.tree.Tree.{Tree}
use Rattle.cd_legal.specs.declared.plan.Plan.{Plan}
use Rattle.cd_legal.specs.declared.entry.Signed.{Signed}
use Rattle.cd_legal.specs.Calls.{fixture_calls, failures}
use Rattle.cd_legal.specs.Entry.{entries}
use Rattle.cd_legal.specs.Legal.{state_at}
use Rattle.cd_legal.specs.Runs.{Failure}
use Rattle.cd_legal.specs.Serials.{publishings}
use Rattle.cd_legal.specs.Signing.{IsHistory}
use Rattle.cd_legal.specs.State.{Conf}
use Rattle.cd_legal.specs.Whole.{IsWhole}
use Rattle.cd_life.specs.Fits.{AllFit}
use Rattle.cd_life.specs.Standing.{last_published}
use Rattle.cd_admin.specs.Deciding.{change_of}
use Rattle.cd_serve.specs.Episodes.{another_halted}
use Rattle.cd_serve.specs.Reports.{Span, LanesTold}
use Rattle.cd_serve.specs.Meanings.{Meaning}
use Rattle.cd_host.specs.declared.host_end.HostHow.{HostHow}
use Rattle.cd_host.specs.declared.host_end.HostHow.TheVariants as how
use Rattle.cd_host.specs.Firsts.{BeginsWith}
use Rattle.cd_host.specs.ServedLanes.{AreAtEnd, AreUntouched}
use Rattle.cd_host.specs.Parts.{HasParts, IsSignedByLanes, IsAlone}
use Rattle.cd_host.specs.Program.{Start}

-- What is seen of a run from outside: what the fixtures told and tell of their calls, and how often they had failed and have; the
-- lanes, in their order; the counts that it gives; and the configuration that was published last, where there was a hall.
pub record Observed : Type 0 where
  pub calls_before : Option (List FixtureCall)
  pub calls_now : Option (List FixtureCall)
  pub failed_before : ℕ
  pub failed_now : ℕ
  pub lanes : List Span
  pub answered : ℕ
  pub published : ℕ
  pub cut : ℕ
  pub last : Option Conf

-- There is one history of all that the run did, which began with the configuration of a tree. `served` says whether the lanes were
-- served to their ends.
pub record Ran (m : Meaning) (first : Tree) (start : Start) (served : Bool) (given : Observed) : Type 0 where
  pub history : List Signed
  -- each of its entries is allowed where it stands, and signed by a pass that may sign it: the program's own, or that of a lane
  pub is : IsHistory history
  pub signed : IsSignedByLanes (length given.lanes) history
  -- where the lanes were not served, nobody but the program signs anything
  pub alone : served ≡ false → IsAlone history
  -- each configuration has no fault and comes by its change: the first is that of the tree, and each other one is what its request
  -- makes of the one before
  pub fits : AllFit m.plan (change_of m.plan) (entries history)
  pub begins : BeginsWith first (entries history)
  -- the program starts, then come the lanes' entries, and then it ends
  pub plan : Plan
  pub planned : m.plan first ≡ Ok plan
  pub parts : HasParts first plan start history
  -- each lane that tells its past tells how its requests were answered by entries of its own; each connection that was interrupted
  -- has its cause, and the answers are counted
  pub lanes : LanesTold m history given.lanes given.answered given.cut
  -- where no lane has halted, none of them has anything more to come
  pub ended : served ≡ true → another_halted 0 history ≡ false → AreAtEnd given.lanes
  -- the fixtures were asked for what the entries say; and each key that could not be opened is a fault of theirs
  pub calls : CallsGrow given.calls_before (fixture_calls (entries history)) given.calls_now
  pub failed : Covers (failures (entries history)) given.failed_before given.failed_now 0
  -- in the end it is halted; what was made is cleaned and what was started is stopped, each once, and no key is held
  pub halted : (state_at history).halted ≡ true
  pub whole : IsWhole (entries history)
  -- its publishings are counted, and the configuration of the last one is given
  pub published : given.published ≡ publishings (entries history)
  pub last : given.last ≡ Some (last_published (state_at history))

-- nothing was done
pub record IsUnbegun (given : Observed) : Type 0 where
  pub calls : given.calls_now ≡ given.calls_before
  pub failed : given.failed_now ≡ given.failed_before
  pub lanes : AreUntouched given.lanes
  pub unanswered : given.answered ≡ 0
  pub unpublished : given.published ≡ 0
  pub uncut : given.cut ≡ 0
  pub none : given.last ≡ None

-- What a run promises, by how it ended. Where the line that says that it serves could not be written, the lanes were not served.
-- Where memory was lacking nothing was done, or the run has ended in order.
abbrev pub Promises : Meaning → Tree → HostHow → Observed → Type 0
Promises m first how.Served given = Ran m first Start.published true given
Promises m first how.WriteFault given = Ran m first Start.published false given
Promises m first (how.FirstRefused key) given = (failure : Failure) × Ran m first (Start.refused failure key) false given
Promises m first how.NoMemory given = IsUnbegun given ⊎ ((start : Start) × Ran m first start false given)
