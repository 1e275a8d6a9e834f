-- From what the calls of a run tell to what the run promises.
use Rattle.std.proofs.Common.{◌≡◌, ◌⊎◌, inl, inr, ℕ, ◌≤◌, ◌<◌, Bool, true, false, List, [], ◌++◌, Option, Some, Result, ap, sym, ◌∙◌, subst, ⊎_elim, arith}
use Rattle.std.specs.Prelude.{Ok}
use mathlib.Core.List.{IsPrefix}
use Rattle.cd_outside.specs.declared.key.Key.{Key}
use Rattle.cd_outside.specs.Counts.{count_end, Covers, Rose}
use Rattle.cd_outside.specs.FixtureCall.{CallsGrow}
use Rattle.cd_tree.specs.declared.tree.Tree.{Tree}
use Rattle.cd_wire.specs.declared.request.Request.{Request}
use Rattle.cd_module.specs.declared.fault.LoadFault.{LoadFault}
use Rattle.cd_legal.specs.declared.entry.Entry.{Entry}
use Rattle.cd_legal.specs.declared.entry.Signed.{Signed}
use Rattle.cd_legal.specs.declared.plan.Plan.{Plan}
use Rattle.cd_legal.specs.Calls.{fixture_calls, failures}
use Rattle.cd_legal.specs.Entry.{entries, mine}
use Rattle.cd_legal.specs.Legal.{state_at}
use Rattle.cd_legal.specs.Serials.{publishings}
use Rattle.cd_legal.proofs.Logs.{prefix_trans, mine-append}
use Rattle.cd_life.specs.Fits.{AllFit}
use Rattle.cd_life.specs.Standing.{last_published}
use Rattle.cd_admin.specs.Deciding.{change_of, decided, new_tree}
use Rattle.cd_gate.specs.declared.pass.Pass.{Pass}
use Rattle.cd_gate.specs.declared.view.View.{View}
use Rattle.cd_gate.specs.Growing.{all_signed}
use Rattle.cd_gate.specs.Passes.{view}
use Rattle.cd_serve.specs.Reports.{Span}
use Rattle.cd_serve.specs.Episodes.{another_halted}
use Rattle.cd_serve.specs.Meanings.{Meaning}
use Rattle.cd_host.specs.declared.host_end.HostHow.{HostHow}
use Rattle.cd_host.specs.declared.host_end.HostHow.TheVariants as how
use Rattle.cd_host.specs.declared.start_how.StartHow.{StartHow}
use Rattle.cd_host.specs.declared.start_how.StartHow.TheVariants as start_how
use Rattle.cd_host.specs.Gone.{MayFollow, HaveCome, AreGone}
use Rattle.cd_host.specs.Hosting.{IsClosed, is_served}
use Rattle.cd_host.specs.OwnPass.{HasSigned, IsJoined}
use Rattle.cd_host.specs.Parts.{HasParts, IsAlone}
use Rattle.cd_host.specs.Program.{Start, start_entries}
use Rattle.cd_host.specs.Runs.{Observed, Ran, Promises}
use Rattle.cd_host.specs.Starting.{IsHow}
use Rattle.cd_host.proofs.Alike.{all-alike}
use Rattle.cd_host.proofs.Beginning.{begins-with, refused-failed}
use Rattle.cd_host.proofs.Going.{alone-front}
use Rattle.cd_host.proofs.Joined.{start-alone, joined-parts, joined-running}
use Rattle.cd_host.proofs.Signing.{own-alone, none-right}
use Rattle.cd_host.proofs.Rows.{all-alike-from}

-- ---- when all passes have come together

module _ {T : Type 0} (y : View T) (passes : List (Pass T)) (log : List Signed) (closed : IsClosed y passes log) where
  -- what the program had found begins the history
  pub found-within : IsPrefix y.seen log
  found-within = prefix_trans y.seen closed.end.seen log (⊎_elim (λ own. own.1.seen) (λ other. other.0.seen) closed.halts) closed.seen

  -- so it is one of those in which it is known what the lanes came to
  pub come-together : (m : Meaning) (served : Bool) (start : List Signed) (lanes : List Span) (answered cut : ℕ)
      → AreGone m served start y.seen lanes passes answered cut → HaveCome m served start y.seen log lanes answered cut
  come-together m served start lanes answered cut gone =
      gone log closed.history.is_legal found-within (all-alike-from (λ k p. IsPrefix (view p).seen log × (mine k log ≡ (view p).mine)) (λ k p. mine k log ≡ (view p).mine) (λ k p both. both.1) 1 passes closed.each) closed.others

-- ---- the changes

-- a set whose changes are decided has those of its own verdict
pub decided-fit : (plan : Tree → Result Plan LoadFault) (makes : Tree → Request → Option Tree) (log : List Entry) → ((tree : Tree) (request : Request) → makes tree request ≡ new_tree (decided plan tree request))
    → AllFit plan makes log → AllFit plan (change_of plan) log
unfolding change_of
decided-fit plan makes log same all = all-alike plan makes (λ tree request. new_tree (decided plan tree request)) log same all

-- ---- the run

module _ {T : Type 0} (m : Meaning) (first : Tree) (plan : Plan) (served : Bool) (given : Observed) (v w y : View T) (passes : List (Pass T)) (log : List Signed) where
  -- what the calls of a run tell, from the program's new pass on
  pub record Known : Type 0 where
    pub number : v.number ≡ 0
    pub new_seen : v.seen ≡ []
    pub new_mine : v.mine ≡ []
    pub made : List Entry
    pub starts : HasSigned v w made
    pub start : Start
    pub alone : IsAlone w.seen → made ≡ start_entries first plan start
    pub which : (start ≡ Start.published) ⊎ (served ≡ false)
    pub told : IsPrefix w.seen y.seen
    pub same : y ≡ record w { seen = y.seen }
    pub closed : IsClosed y passes log
    pub come : HaveCome m served w.seen y.seen log given.lanes given.answered given.cut
    pub planned : m.plan first ≡ Ok plan
    pub fits : AllFit m.plan (change_of m.plan) (entries log)
    pub calls : CallsGrow given.calls_before (fixture_calls (entries log)) given.calls_now
    pub failed : Covers (failures (entries log)) given.failed_before given.failed_now 0
    pub published : given.published ≡ publishings (entries log)
    pub last : given.last ≡ Some (last_published (state_at log))

  module _ (h : Known) where
    joined : IsJoined v w y h.closed.end h.made log
    joined = record {
      number = h.number;
      new_seen = h.new_seen;
      new_mine = h.new_mine;
      starts = h.starts;
      told = h.told;
      same = h.same;
      halts = h.closed.halts;
      legal = h.closed.history.is_legal;
      seen = h.closed.seen;
      own = h.closed.own;
      retired = h.closed.over.retired;
    }

    made-is : h.made ≡ start_entries first plan h.start
    made-is = h.alone (start-alone first plan h.start v w y h.closed.end h.made log joined h.come.between)

    parts : HasParts first plan h.start log
    parts = joined-parts first plan h.start v w y h.closed.end h.made log joined h.come.between made-is

    -- where no lane has halted, the program had found the host running
    running : another_halted 0 log ≡ false → (state_at y.seen).halted ≡ false
    running = joined-running first plan h.start v w y h.closed.end h.made log joined h.come.between made-is

    -- where the lanes were left, no entry is theirs
    no-lanes : IsAlone log → parts.lanes ≡ []
    no-lanes alone =
        let front : IsAlone (all_signed 0 (start_entries first plan h.start) ++ parts.lanes) = alone-front _ log (_, sym parts.whole) alone in
        let theirs : IsAlone parts.lanes = λ k pos. none-right (mine k (all_signed 0 (start_entries first plan h.start))) (mine k parts.lanes) (sym (mine-append k (all_signed 0 (start_entries first plan h.start)) parts.lanes) ∙ front k pos) in
        sym (own-alone parts.lanes theirs) ∙ parts.others

    pub ran : Ran m first h.start served given
    ran = record {
      history = log;
      is = h.closed.history;
      signed = h.come.signed;
      alone = h.come.alone;
      fits = h.fits;
      begins = begins-with first plan h.start log h.closed.history.is_legal parts (⊎_elim (λ is. inl is) (λ left. inr (no-lanes (h.come.alone left))) h.which);
      plan = plan;
      planned = h.planned;
      parts = parts;
      lanes = h.come.told;
      ended = λ is none. h.come.ended is (running none);
      calls = h.calls;
      failed = h.failed;
      halted = h.closed.over.halted;
      whole = h.closed.whole;
      published = h.published;
      last = h.last;
    }

-- ---- by how it ended

-- a interruption that is covered made the count rise
below-end : (n : ℕ) → (n < count_end) ⊎ (count_end ≤ n)
below-end n = grind arith

rose : (interruptions before now : ℕ) → 1 ≤ interruptions → Covers interruptions before now 0 → Rose before now
rose interruptions before now some_failed covers = ⊎_elim (λ low. let c = covers low (omega arith) in omega (arith, c, some_failed)) (λ high. omega (arith, high)) (below-end now)

-- which start goes with which end
pub goes-with : (h : StartHow) (start : Start) (ended : HostHow) → IsHow h start → MayFollow h ended → (start ≡ Start.published) ⊎ (is_served ended ≡ false)
goes-with start_how.Published start ended is follows = inl is
goes-with (start_how.FirstRefused key) start ended is follows = inr (ap is_served follows)
goes-with start_how.Unpublished start ended is follows = inr (ap is_served follows)

module _ (m : Meaning) (first : Tree) (given : Observed) where
  -- what was run is what is promised of such an end
  pub promised : (h : StartHow) (start : Start) (ended : HostHow) → IsHow h start → MayFollow h ended → Ran m first start (is_served ended) given → Promises m first ended given
  promised start_how.Published start ended is follows ran = ⊎_elim
      (λ e. subst (λ (x : HostHow). Promises m first x given) (sym e) (subst (λ (s : Start). Ran m first s true given) is (subst (λ (x : HostHow). Ran m first start (is_served x) given) e ran)))
      (λ e. subst (λ (x : HostHow). Promises m first x given) (sym e) (subst (λ (s : Start). Ran m first s false given) is (subst (λ (x : HostHow). Ran m first start (is_served x) given) e ran)))
      follows
  promised (start_how.FirstRefused key) start ended is follows ran =
      subst (λ (x : HostHow). Promises m first x given) (sym follows) (is.0, subst (λ (s : Start). Ran m first s false given) is.1 (subst (λ (x : HostHow). Ran m first start (is_served x) given) follows ran))
  promised start_how.Unpublished start ended is follows ran =
      subst (λ (x : HostHow). Promises m first x given) (sym follows) (inr (start, subst (λ (x : HostHow). Ran m first start (is_served x) given) follows ran))

  -- a start that was refused has a key that failed, which is a fault of the fixtures
  pub refused-rose : (key : Key) (ended : HostHow) → ended ≡ how.FirstRefused key → Promises m first ended given → Rose given.failed_before given.failed_now
  refused-rose key ended is promises =
      let ran = subst (λ (h : HostHow). Promises m first h given) is promises in
      let some_failed : 1 ≤ failures (entries ran.1.history) = refused-failed first ran.1.plan ran.0 key ran.1.history ran.1.parts in
      rose (failures (entries ran.1.history)) given.failed_before given.failed_now some_failed ran.1.failed
