-- A whole run, computed on a written history, and near misses: of who has signed, of how lanes end, of what a run promises.
use Rattle.std.proofs.Common.{◌≡◌, ◌≤◌, ◌<◌, ◌∙◌, ℕ, ◌==◌, Bool, true, false, cond, List, [], ◌∷◌, ◌++◌, Option, Some, None, Ok, refl, ap, sym, inl, inr, ⊎_elim, arith}
use Rattle.std.specs.Prelude.{codes}
use Rattle.std.proofs.lemmas.Bool.Decides.{eqb_tells}
use Rattle.cd_outside.specs.declared.accepted.Accepted.{Accepted}
use Rattle.cd_outside.specs.declared.accepted.Accepted.TheVariants as accepted
use Rattle.cd_outside.specs.declared.fixtures.FixtureCall.{FixtureCall}
use Rattle.cd_outside.specs.declared.past.Past.{Past}
use Rattle.cd_tree.specs.declared.tree.Tree.{Tree}
use Rattle.cd_legal.specs.declared.plan.Plan.{Plan}
use Rattle.cd_legal.specs.declared.entry.Entry.{Entry}
use Rattle.cd_legal.specs.declared.entry.Entry.TheVariants.{Begin, Finish}
use Rattle.cd_legal.specs.declared.entry.Signed.{Signed}
use Rattle.cd_legal.specs.Calls.{fixture_calls}
use Rattle.cd_legal.specs.Entry.{signed, entries, mine}
use Rattle.cd_legal.specs.Legal.{state_at}
use Rattle.cd_legal.proofs.Logs.{mine-append}
use Rattle.cd_life.specs.Standing.{last_published}
use Rattle.cd_gate.specs.Growing.{all_signed}
use Rattle.cd_serve.specs.Reports.{Span, LaneReport, ReportsFrom, NoneRose}
use Rattle.cd_serve.specs.Meanings.{Meaning}
use Rattle.cd_host.specs.ServedLanes.{AreAtEnd}
use Rattle.cd_host.specs.Parts.{IsSignedByLanes, IsAlone, end_entries}
use Rattle.cd_host.specs.Program.{Start, start_entries}
use Rattle.cd_host.specs.Runs.{Observed, Ran}
use Rattle.cd_host.specs.Unfailing.{HaveEnded}

-- ---- how lanes end

-- a lane whose last accept answered this, and whose faults rose so
abbrev lane_of : Option Accepted → ℕ → ℕ → Span
lane_of last before now = record {
  told_before = Some (record { accept_faults = 0; last = None; connections = [] });
  told_now = Some (record { accept_faults = 0; last = last; connections = [] });
  since_before = None;
  since_now = None;
  failed_before = before;
  failed_now = now;
}

-- a lane that tells nothing
abbrev silent : Span
silent = record { told_before = None; told_now = None; since_before = None; since_now = None; failed_before = 0; failed_now = 0 }

at_end : AreAtEnd (lane_of (Some accepted.Ended) 0 0 ∷ (silent ∷ (lane_of (Some accepted.Failed) 0 1 ∷ [])))
at_end = (inl refl, (tt, (inr (refl, omega arith), tt)))

-- the accept failed without a fault of the lane; no accept is known; a lane before the last is not at its end
failed_without_a_fault : AreAtEnd (lane_of (Some accepted.Failed) 1 1 ∷ []) → ⊥
failed_without_a_fault at = ⊎_elim (λ ended. let e = ended in cc) (λ failed. omega (arith, failed.1)) at.0

never_accepted : AreAtEnd (lane_of (Some accepted.Ended) 0 0 ∷ (lane_of None 0 0 ∷ [])) → ⊥
never_accepted at = ⊎_elim (λ ended. let e = ended in cc) (λ failed. let e = failed.0 in cc) at.1.0

unfailing : NoneRose (lane_of (Some accepted.Ended) 3 3 ∷ []) × HaveEnded (lane_of (Some accepted.Ended) 3 3 ∷ [])
unfailing = ((λ rose. omega (arith, rose), tt), (refl, tt))

not_unfailing : NoneRose (lane_of (Some accepted.Ended) 3 4 ∷ []) → ⊥
not_unfailing none = none.0 (omega arith)

-- ---- who has signed

others-none : (j k : ℕ) (es : List Entry) → j < k → mine k (all_signed j es) ≡ []
others-none j k [] past = refl
others-none j k (e ∷ es) past = ⊎_elim
    (λ same. absurd (omega (arith, past, same.1)))
    (λ other. ap (λ (b : Bool). cond b (signed j e ∷ mine k (all_signed j es)) (mine k (all_signed j es))) other.0 ∙ others-none j k es past)
    (eqb_tells j k)

-- the plan of a configuration without modules and apps
abbrev empty : Plan
empty = record { modules = []; apps = [] }

module _ (m : Meaning) (t : Tree) (planned : m.plan t ≡ Ok empty) where
  abbrev started : List Signed
  started = all_signed 0 (start_entries t empty Start.published)

  -- a request of the first lane
  abbrev served : List Signed
  served = all_signed 1 (Begin 1 1 ∷ Finish 1 ∷ [])

  abbrev ends : List Signed
  ends = all_signed 0 (end_entries (started ++ served))

  abbrev history : List Signed
  history = (started ++ served) ++ ends

  by_one_lane : IsSignedByLanes 1 history
  by_one_lane k past =
      mine-append k (started ++ served) ends
      ∙ ap (λ (l : List Signed). l ++ mine k ends) (mine-append k started served ∙ ap (λ (l : List Signed). l ++ mine k served) (others-none 0 k (start_entries t empty Start.published) (omega (arith, past))))
      ∙ ap (λ (l : List Signed). l ++ mine k ends) (others-none 1 k (Begin 1 1 ∷ Finish 1 ∷ []) past)
      ∙ others-none 0 k (end_entries (started ++ served)) (omega (arith, past))

  by_no_lane : IsSignedByLanes 0 history → ⊥
  by_no_lane none = let e : signed 1 (Begin 1 1) ∷ signed 1 (Finish 1) ∷ [] ≡ [] = none 1 (omega arith) in cc

  alone : IsAlone started
  alone k pos = others-none 0 k (start_entries t empty Start.published) (omega (arith, pos))

  not_alone : IsAlone history → ⊥
  not_alone none = by_no_lane none

  -- ---- a run

  abbrev given : Observed
  given = record {
    calls_before = Some [];
    calls_now = Some (fixture_calls (entries history));
    failed_before = 0;
    failed_now = 0;
    lanes = silent ∷ [];
    answered = 0;
    published = 1;
    cut = 0;
    last = Some (last_published (state_at history));
  }

  runs : Ran m t Start.published true given
  runs = record {
    history = history;
    is = record { is_legal = refl; is_signed = refl };
    signed = by_one_lane;
    alone = λ none. absurd (let e : true ≡ false = none in cc);
    fits = (tt, (planned, (tt, (tt, (tt, (tt, (tt, (tt, (tt, tt)))))))));
    begins = (tt, (tt, (refl, (tt, (tt, (tt, (tt, (tt, (tt, tt)))))))));
    plan = empty;
    planned = planned;
    parts = record { lanes = served; others = refl; whole = refl };
    lanes = record {
      reports = None ∷ [];
      told = ((refl, refl), tt);
      covered = (λ a b. omega arith, tt);
      faulted = (λ a b. omega arith, tt);
      all_covered = λ a b. omega arith;
      cut_interrupted = λ tell. absurd tell;
      answers = λ tell. absurd tell;
    };
    ended = λ is nobody. (tt, tt);
    calls = refl;
    failed = λ a b. omega arith;
    halted = refl;
    whole = record { once = λ h. omega arith; ended = λ h. refl; free = λ key. refl };
    published = refl;
    last = refl;
  }

-- a run that tells no last configuration, or of which a lane has stopped to tell, is none
no_last : (m : Meaning) (t : Tree) (start : Start) (served : Bool) (given : Observed) → given.last ≡ None → Ran m t start served given → ⊥
no_last m t start served given none ran = let e = sym none ∙ ran.last in cc

stops_telling : (m : Meaning) (history : List Signed) (p : Past) (before now : ℕ) (ts : List (Option LaneReport))
    → ReportsFrom m history 1 (record { told_before = Some p; told_now = None; since_before = None; since_now = None; failed_before = before; failed_now = now } ∷ []) ts → ⊥
stops_telling m history p before now [] told = told
stops_telling m history p before now (None ∷ ts) told = let e = told.0.0 in cc
stops_telling m history p before now (Some t ∷ ts) told = let e = told.0.3 in cc

no_silence : (m : Meaning) (t : Tree) (start : Start) (served : Bool) (given : Observed) (p : Past) (before now : ℕ)
    → given.lanes ≡ record { told_before = Some p; told_now = None; since_before = None; since_now = None; failed_before = before; failed_now = now } ∷ [] → Ran m t start served given → ⊥
no_silence m t start served given p before now are ran =
    stops_telling m ran.history p before now ran.lanes.reports (rw are at ran.lanes.told)
