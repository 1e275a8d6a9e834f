-- Completeness, from the tables by status.
use Rattle.std.proofs.Common.{◌≡◌, ◌⊎◌, ◌+◌, ◌++◌, ◌∙◌, inl, inr, ℕ, true, false, List, [], ◌∷◌, Option, Some, None, Result, Ok, Err, refl, sym, subst, arith}
use Rattle.cd_outside.specs.declared.past.Connection.{Connection}
use Rattle.cd_tree.specs.declared.tree.Tree.{Tree}
use Rattle.cd_legal.specs.declared.entry.Signed.{Signed}
use Rattle.cd_legal.specs.declared.plan.Plan.{Plan}
use Rattle.cd_legal.specs.Placed.{Placed}
use Rattle.cd_module.specs.declared.fault.LoadFault.{LoadFault}
use Rattle.cd_serve.specs.Connections.{Ending, ServesEach}
use Rattle.cd_serve.specs.Meanings.{Meaning}
use Rattle.cd_serve.specs.Reports.{Span, LaneReport, ReportsFrom, EachCovered, NoneRose, AreUninterrupted, NoneInterrupted}
use Rattle.cd_serve.proofs.Completing.{complete}
use Rattle.cd_serve.proofs.Joined.{lanes-whole}
use Rattle.cd_host.specs.Program.{Start}
use Rattle.cd_host.proofs.Unfailing.{have-ended}
use Rattle.cd_program.specs.declared.command.Command as commands
use Rattle.cd_program.specs.declared.command.Command.TheVariants as Command
use Rattle.cd_program.specs.declared.initial.Initial.{Initial}
use Rattle.cd_program.specs.declared.initial.Initial.TheVariants.{OfFile, Null, Saved}
use Rattle.cd_program.specs.declared.refusal.Refusal.{Refusal}
use Rattle.cd_program.specs.declared.status.Status.{Status}
use Rattle.cd_program.specs.declared.status.Status.TheVariants as status
use Rattle.cd_standard.specs.Acting.{plan_of_tree}
use Rattle.cd_program.specs.Complete.{NothingFailed, HoldsConfiguration, MayBegin, HaveAllAnswers, AreComplete, HasCompleted, Completes, CompletesAs}
use Rattle.cd_outside.specs.Devices.{IsUnfailed, Device, HasFailed}
use Rattle.cd_program.specs.Configuration.{configured}
use Rattle.cd_program.specs.Seen.{Seen}
use Rattle.cd_program.specs.Storm.{Storms}
use Rattle.cd_program.specs.Top.{Begins, HasRun, Loads, Serves, Validates, ExitsWith, WasRefused, EndsAs, code_of, standard}
use Rattle.cd_program.specs.Words.{is_null}
use Rattle.cd_program.proofs.Adapted.{adapts_all}
use Rattle.cd_program.proofs.Loading.{all_loaded, apart}

-- ---- connections

have_all : (m : Meaning) (k : ℕ) (history : List Signed) (before : List Placed) (cs : List Connection) (es : List Ending)
    → ServesEach m k history before cs es → AreUninterrupted es → HaveAllAnswers m k history before cs es
have_all m k history before [] [] serves whole = tt
have_all m k history before (c ∷ cs) (e ∷ es) serves whole =
    (complete m k history before c e serves.0 whole.0, have_all m k history (before ++ e.own) cs es serves.1 whole.1)
have_all m k history before [] (e ∷ es) serves whole = serves
have_all m k history before (c ∷ cs) [] serves whole = serves

are_complete : (m : Meaning) (history : List Signed) (k : ℕ) (lanes : List Span) (ts : List (Option LaneReport))
    → ReportsFrom m history k lanes ts → NoneInterrupted ts → AreComplete m history k ts
are_complete m history k [] [] told whole = tt
are_complete m history k [] (t ∷ ts) told whole = absurd told
are_complete m history k (lane ∷ lanes) [] told whole = absurd told
are_complete m history k (lane ∷ lanes) (None ∷ ts) told whole = are_complete m history (k + 1) lanes ts told.1 whole
are_complete m history k (lane ∷ lanes) (Some t ∷ ts) told whole =
    let report = told.0.4 in
    (have_all m k history [] t.connections t.endings report.told.each whole.0, are_complete m history (k + 1) lanes ts told.1 whole.2)

-- ---- a source that holds a configuration

-- nothing that it holds is refused
not_refused : (plan : Tree → Result Plan LoadFault) (source : Device (List ℕ)) → HoldsConfiguration plan source → (refusal : Refusal)
    → Loads plan source.told_before source.told_now (Err refusal) → ⊥
not_refused plan source holds refusal loads =
    let so : Loads plan (Some holds.bytes) source.told_now (Err refusal) = subst (λ (old : Option (List ℕ)). Loads plan old source.told_now (Err refusal)) holds.told loads in
    apart holds.tree refusal (sym holds.fine ∙ all_loaded plan holds.bytes source.told_now (Err refusal) so)

-- ---- the tables

is_done : (st : Status) → code_of st ≡ 0 → st ≡ status.Done
is_done status.Done e = refl
is_done status.Refused e = absurd (omega (arith, e))
is_done status.Unopened e = absurd (omega (arith, e))
is_done status.Usage e = absurd (omega (arith, e))
is_done status.ReadFault e = absurd (omega (arith, e))
is_done status.WriteFault e = absurd (omega (arith, e))
is_done status.NoMemory e = absurd (omega (arith, e))

module _ {F L : Type 0} (m : Meaning) (initial : Initial) (s : Seen F L) where
  -- a configuration that may begin is not refused
  begins_so : MayBegin m.plan initial s.source → is_null initial ≡ false → WasRefused m.plan initial s.source s.output → ⊥
  begins_so may other refused = here initial may other refused.refused
    where
      here : (i : Initial) → MayBegin m.plan i s.source → is_null i ≡ false → Begins m.plan i s.source (Err refused.refusal) → ⊥
      here OfFile holds is loads = not_refused m.plan s.source holds refused.refusal loads
      here Null holds is loads = cc
      here (Saved t) fine is loads = apart t refused.refusal (sym fine ∙ loads)

  done_or_lacking : NothingFailed s → MayBegin m.plan initial s.source → (st : Status) → Serves m initial s st → (code_of st ≡ 0) ⊎ (code_of st ≡ 5)
  done_or_lacking none may status.Done so = inl refl
  done_or_lacking none may status.Refused so = absurd (begins_so may so.0 so.1)
  done_or_lacking none may status.Unopened so = absurd (none.calls so.cause)
  done_or_lacking none may status.Usage so = absurd so
  done_or_lacking none may status.ReadFault so = absurd (none.source so.1)
  done_or_lacking none may status.WriteFault so = absurd (none.output so.1)
  done_or_lacking none may status.NoMemory so = inr refl

  completed : NoneRose s.lanes → s.cut ≡ 0 → HasRun m initial s Start.published true → HasCompleted m initial s
  completed none uncut run =
      let covered = subst (λ (n : ℕ). EachCovered s.lanes run.ran.lanes.reports n) uncut run.ran.lanes.covered in
      let whole = lanes-whole m run.ran.history 1 s.lanes run.ran.lanes.reports run.ran.lanes.told covered none in
      record {
        run = run;
        uninterrupted = whole;
        complete = are_complete m run.ran.history 1 s.lanes run.ran.lanes.reports run.ran.lanes.told whole;
        ended = λ nobody. have-ended s.lanes none (run.ran.ended refl nobody);
      }

  pub completes : NothingFailed s → MayBegin m.plan initial s.source → (code : ℕ) → ExitsWith code (Serves m initial s) → Completes m initial s code
  completes none may code e = record {
    done = subst (λ (n : ℕ). (n ≡ 0) ⊎ (n ≡ 5)) (sym e.is) (done_or_lacking none may e.status e.so);
    all = λ zero uncut. completed none.lanes uncut (subst (Serves m initial s) (is_done e.status (sym e.is ∙ zero)) e.so).0;
  }

-- `validate`
valid_or_lacking : (plan : Tree → Result Plan LoadFault) (source output : Device (List ℕ)) → IsUnfailed source → IsUnfailed output → HoldsConfiguration plan source
    → (st : Status) → Validates plan source output st → (code_of st ≡ 0) ⊎ (code_of st ≡ 5)
valid_or_lacking plan source output read wrote holds status.Done so = inl refl
valid_or_lacking plan source output read wrote holds status.Refused so = absurd (not_refused plan source holds so.refusal so.refused)
valid_or_lacking plan source output read wrote holds status.Unopened so = absurd so
valid_or_lacking plan source output read wrote holds status.Usage so = absurd so
valid_or_lacking plan source output read wrote holds status.ReadFault so = absurd (read so.0)
valid_or_lacking plan source output read wrote holds status.WriteFault so = absurd (wrote so.1)
valid_or_lacking plan source output read wrote holds status.NoMemory so = inr refl

validates_all : (plan : Tree → Result Plan LoadFault) (source output : Device (List ℕ)) → IsUnfailed source → IsUnfailed output → HoldsConfiguration plan source
    → (code : ℕ) → ExitsWith code (Validates plan source output) → (code ≡ 0) ⊎ (code ≡ 5)
validates_all plan source output read wrote holds code e =
    subst (λ (n : ℕ). (n ≡ 0) ⊎ (n ≡ 5)) (sym e.is) (valid_or_lacking plan source output read wrote holds e.status e.so)

-- `storm`
stormed_or_lacking : (m : Meaning) (number answered published : ℕ) (output : Device (List ℕ)) → IsUnfailed output
    → (st : Status) → Storms m number answered published output st → (code_of st ≡ 0) ⊎ (code_of st ≡ 5)
stormed_or_lacking m number answered published output wrote status.Done so = inl refl
stormed_or_lacking m number answered published output wrote status.WriteFault so = absurd (wrote so.1)
stormed_or_lacking m number answered published output wrote status.NoMemory so = inr refl
stormed_or_lacking m number answered published output wrote status.Refused so = absurd so
stormed_or_lacking m number answered published output wrote status.Unopened so = absurd so
stormed_or_lacking m number answered published output wrote status.Usage so = absurd so
stormed_or_lacking m number answered published output wrote status.ReadFault so = absurd so

storms_all : (m : Meaning) (number answered published : ℕ) (output : Device (List ℕ)) → IsUnfailed output
    → (code : ℕ) → ExitsWith code (Storms m number answered published output) → (code ≡ 0) ⊎ (code ≡ 5)
storms_all m number answered published output wrote code e =
    subst (λ (n : ℕ). (n ≡ 0) ⊎ (n ≡ 5)) (sym e.is) (stormed_or_lacking m number answered published output wrote e.status e.so)

-- each command
pub completes_as : {F L : Type 0} (s : Seen F L) (code : ℕ) (command : commands.Command) → EndsAs s code command → CompletesAs s code command
completes_as s code (Command.Serve initial) ends = λ may none. completes standard initial s none may code ends.0
completes_as s code Command.Validate ends = λ holds read wrote. validates_all plan_of_tree s.source s.output read wrote holds code ends.0
completes_as s code Command.Adapt ends = λ bytes told read. adapts_all s.source s.output read bytes told code ends.0
completes_as s code (Command.Storm number) ends = λ wrote. storms_all standard number s.answered s.published s.output wrote code ends.0
completes_as s code Command.Unknown ends = tt
