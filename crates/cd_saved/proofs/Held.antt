-- A run over lanes that hold others is one over those.
use Rattle.std.proofs.Common.{◌≡◌, ℕ, List, Bool, true, false, map, inl, inr, ap, subst, sym, ◌∙◌}
use Rattle.cd_host.specs.Program.{Start}
use Rattle.cd_serve.specs.Meanings.{Meaning}
use Rattle.cd_serve.specs.Reports.{Span}
use Rattle.cd_program.specs.declared.initial.Initial.{Initial}
use Rattle.cd_program.specs.declared.status.Status.{Status}
use Rattle.cd_program.specs.declared.status.Status.TheVariants as status
use Rattle.cd_program.specs.Seen.{IsUnserved, IsUntouched, Seen}
use Rattle.cd_outside.specs.Devices.{Device}
use Rattle.cd_program.specs.Top.{ExitsWith, FailedToOpen, HasEnded, HasRun, HasStarted, Serves}

-- what is seen of a call, by these lanes
abbrev pub by_lanes : {F W L : Type 0} → Seen F W → List Span → List L → List L → Seen F L
by_lanes s lanes before now = record {
  source = s.source;
  output = s.output;
  calls = s.calls;
  lanes = lanes;
  fixtures_before = s.fixtures_before;
  fixtures_now = s.fixtures_now;
  lanes_before = before;
  lanes_now = now;
  answered = s.answered;
  published = s.published;
  cut = s.cut;
}

module _ {F W L : Type 0} (lane : W → L) (s : Seen F W) where
  -- by the lanes that are held
  abbrev pub held : Seen F L
  held = by_lanes s s.lanes (map lane s.lanes_before) (map lane s.lanes_now)

  pub unserved : IsUnserved s → IsUnserved held
  unserved u = record { lanes = ap (map lane) u.lanes; unanswered = u.unanswered; uncut = u.uncut }

  pub unserved-by : (lanes : List Span) (before now : List L) → map lane s.lanes_before ≡ before → map lane s.lanes_now ≡ now → IsUnserved s → IsUnserved (by_lanes s lanes before now)
  unserved-by lanes before now were is u = record { lanes = sym is ∙ (ap (map lane) u.lanes ∙ were); unanswered = u.unanswered; uncut = u.uncut }

  untouched : IsUntouched s → IsUntouched held
  untouched u = record { unserved = unserved u.unserved; fixtures = u.fixtures; unpublished = u.unpublished }

  module _ (m : Meaning) (initial : Initial) where
    run : (start : Start) (served : Bool) → HasRun m initial s start served → HasRun m initial held start served
    run start served r = record { tree = r.tree; begins = r.begins; last = r.last; ran = r.ran }

    started : HasStarted m initial s → HasStarted m initial held
    started h = record { served = h.served; run = run Start.published h.served h.run; unserved = λ is. unserved (h.unserved is); short = h.short }

    ended : HasEnded m initial s → HasEnded m initial held
    ended h = record { start = h.start; served = h.served; run = run h.start h.served h.run; published = h.published }

    failed : FailedToOpen m initial s → FailedToOpen m initial held
    failed h = record {
      key = h.key;
      failure = h.failure;
      run = run (Start.refused h.failure h.key) false h.run;
      cause = h.cause;
      says = h.says;
      unserved = unserved h.unserved;
      unpublished = h.unpublished;
    }

    serves : (st : Status) → Serves m initial s st → Serves m initial held st
    serves status.Done so = (run Start.published true so.0, so.1)
    serves status.Refused so = (so.0, so.1, untouched so.2)
    serves status.Unopened so = failed so
    serves status.Usage so = so
    serves status.ReadFault so = (so.0, so.1, so.2, untouched so.3)
    serves status.WriteFault so = (started so.0, so.1, so.2)
    serves status.NoMemory (inl so) = inl (untouched so.0, so.1)
    serves status.NoMemory (inr so) = inr (ended so.0, so.1)

    -- by lanes that are those that are held
    pub exits : (code : ℕ) (lanes : List Span) (before now : List L) → s.lanes ≡ lanes → map lane s.lanes_before ≡ before → map lane s.lanes_now ≡ now
        → ExitsWith code (Serves m initial s) → ExitsWith code (Serves m initial (by_lanes s lanes before now))
    exits code lanes before now are were is e = record {
      status = e.status;
      is = e.is;
      so = subst (λ l. Serves m initial (by_lanes s lanes before l) e.status) is
          (subst (λ l. Serves m initial (by_lanes s lanes l (map lane s.lanes_now)) e.status) were
          (subst (λ l. Serves m initial (by_lanes s l (map lane s.lanes_before) (map lane s.lanes_now)) e.status) are (serves e.status e.so)));
    }
