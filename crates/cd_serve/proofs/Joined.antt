-- From what each lane tells to what all tell together.
use Rattle.std.proofs.Common.{◌≡◌, ◌⊎◌, ⊎_elim, ◌≤◌, ◌<◌, ◌∙◌, ◌++◌, ◌+◌, ◌-◌, ℕ, Bool, true, false, cond, min, List, [], ◌∷◌, Option, Some, None, refl, ap, sym, subst, arith}
use Rattle.std.specs.Prelude.{sum_by}
use Rattle.std.proofs.lemmas.List.Sums.{sum_by-cons}
use mathlib.Core.List.{IsPrefix}
use Rattle.cd_outside.specs.declared.past.Past.{Past}
use Rattle.cd_outside.specs.Counts.{count_end, Rose, Covers}
use Rattle.cd_outside.specs.Telling.{TellsOn}
use Rattle.cd_legal.specs.declared.entry.Signed.{Signed}
use Rattle.cd_legal.specs.Entry.{mine}
use Rattle.cd_legal.specs.Legal.{IsLegal}
use Rattle.cd_legal.specs.Placed.{Placed, placed}
use Rattle.cd_legal.proofs.Fresh.{legal-fresh}
use Rattle.cd_legal.proofs.Placed.{placed-stays}
use Rattle.cd_session.specs.declared.lane_end.LaneEnd.{LaneEnd}
use Rattle.cd_serve.specs.Meanings.{Meaning}
use Rattle.cd_serve.specs.Connections.{Ending}
use Rattle.cd_serve.specs.Lanes.{Told, IsServed, is_interrupted, interrupted_in, answered_in}
use Rattle.cd_serve.specs.Reports.{Span, LaneReport, ReportOf, ReportsFrom, of_report, interruptions, faults, all_of, AllTell, of_those, EachCovered, EachFaulted, NoneRose, AreUninterrupted, NoneInterrupted, NoneAtEnd, LanesTold, ServedLane, IsServedLane, ServedLanesFrom, lanes_of}
use Rattle.cd_serve.proofs.Longer.{placed-stays-in, told-longer}

-- the entries of a pass that had none are those that it made since
own-all : (k : ℕ) (before seen history : List Signed) (own : List Placed) → mine k before ≡ [] → placed k seen ≡ placed k before ++ own → IsPrefix seen history → mine k history ≡ mine k seen → placed k history ≡ own
own-all k before seen history own unused is p all = placed-stays-in k seen history p all ∙ (is ∙ ap (λ (z : List Placed). z ++ own) (placed-stays k [] before unused))

record One (m : Meaning) (history : List Signed) (k : ℕ) (lane : Span) (end : LaneEnd) : Type 0 where
  report : Option LaneReport
  told : ReportOf m history k lane report
  covered : Covers (of_report interruptions report) lane.failed_before lane.failed_now end.cut
  faulted : Covers (of_report faults report) lane.failed_before lane.failed_now 0
  cut_interrupted : AllTell (report ∷ []) → end.cut ≤ of_report (λ t. interrupted_in t.endings) report
  answers : AllTell (report ∷ []) → end.answered ≡ min (of_report (λ t. answered_in t.endings) report) count_end

one-silent : (m : Meaning) (history : List Signed) (k : ℕ) (lane : Span) (end : LaneEnd) → lane.failed_before ≤ lane.failed_now → lane.told_before ≡ None → lane.told_now ≡ None → One m history k lane end
one-silent m history k lane end later before now = record {
  report = None;
  told = (before, now);
  covered = λ a b. omega (arith, later);
  faulted = λ a b. omega (arith, later);
  cut_interrupted = λ all. absurd all;
  answers = λ all. absurd all;
}

one-told : (m : Meaning) (history : List Signed) (k : ℕ) (lane : Span) (seen : List Signed) (own : List Placed) (end : LaneEnd) (p q : Past) → IsLegal history → placed k history ≡ own → IsPrefix seen history
    → lane.told_before ≡ Some p → lane.told_now ≡ Some q → IsServed m k seen own lane.failed_before lane.failed_now end lane.since_before lane.since_now p q → One m history k lane end
one-told m history k lane seen own end p q legal is front before now served =
    let it = served.so_far in
    let over : Told m k history own it.connections it.endings = subst (λ (h : List Signed). Told m k h own it.connections it.endings) front.1 (told-longer m k seen front.0 [] own it.connections it.endings it.told) in
    record {
      report = Some (record { connections = it.connections; endings = it.endings; failed = q.accept_faults - p.accept_faults });
      told = (
        p,
        q,
        before,
        now,
        record {
          added = it.added;
          told = subst (λ (o : List Placed). Told m k history o it.connections it.endings) (sym is) over;
          fresh = legal-fresh history k legal;
          failed = refl;
        },
        it.since,
      );
      covered = it.covered;
      faulted = it.faulted;
      cut_interrupted = λ all. it.cut_interrupted;
      answers = λ all. it.answers;
    }

one-of : (m : Meaning) (history : List Signed) (k : ℕ) (lane : Span) (seen : List Signed) (own : List Placed) (end : LaneEnd) (old new : Option Past) → IsLegal history → placed k history ≡ own → IsPrefix seen history
    → lane.failed_before ≤ lane.failed_now → lane.told_before ≡ old → lane.told_now ≡ new → TellsOn (IsServed m k seen own lane.failed_before lane.failed_now end lane.since_before lane.since_now) old new → One m history k lane end
one-of m history k lane seen own end None None legal is front later before now served = one-silent m history k lane end later before now
one-of m history k lane seen own end (Some p) (Some q) legal is front later before now served = one-told m history k lane seen own end p q legal is front before now served
one-of m history k lane seen own end (Some p) None legal is front later before now served = absurd served
one-of m history k lane seen own end None (Some q) legal is front later before now served = absurd served

one-slot : (m : Meaning) (history : List Signed) (k : ℕ) (s : ServedLane) → IsLegal history → IsServedLane m history k s → One m history k s.lane s.end
one-slot m history k s legal i =
    one-of m history k s.lane s.seen_now i.own s.end s.lane.told_before s.lane.told_now legal (own-all k s.seen_before s.seen_now history i.own i.unused i.added i.seen i.all_seen) i.seen i.later refl refl i.served

record Many (m : Meaning) (history : List Signed) (k : ℕ) (slots : List ServedLane) : Type 0 where
  reports : List (Option LaneReport)
  told : ReportsFrom m history k (lanes_of slots) reports
  covered : (cut : ℕ) → (cut < count_end → sum_by (λ s. s.end.cut) slots ≤ cut) → EachCovered (lanes_of slots) reports cut
  faulted : EachFaulted (lanes_of slots) reports
  all_covered : NoneAtEnd (lanes_of slots) reports → sum_by (λ s. s.end.cut) slots < count_end
      → all_of interruptions reports + of_those (λ l. l.failed_before) (lanes_of slots) reports ≤ of_those (λ l. l.failed_now) (lanes_of slots) reports + sum_by (λ s. s.end.cut) slots
  cut_interrupted : AllTell reports → sum_by (λ s. s.end.cut) slots ≤ all_of (λ t. interrupted_in t.endings) reports
  answers : AllTell reports → min (sum_by (λ s. s.end.answered) slots) count_end ≡ min (all_of (λ t. answered_in t.endings) reports) count_end

-- the first lane, and those after it
all-more : (l : Span) (ls : List Span) (t : Option LaneReport) (ts : List (Option LaneReport)) (cut rest : ℕ) → Covers (of_report interruptions t) l.failed_before l.failed_now cut → NoneAtEnd (l ∷ ls) (t ∷ ts) → cut < count_end
    → (NoneAtEnd ls ts → all_of interruptions ts + of_those (λ x. x.failed_before) ls ts ≤ of_those (λ x. x.failed_now) ls ts + rest)
    → all_of interruptions (t ∷ ts) + of_those (λ x. x.failed_before) (l ∷ ls) (t ∷ ts) ≤ of_those (λ x. x.failed_now) (l ∷ ls) (t ∷ ts) + (cut + rest)
all-more l ls None ts cut rest covers ends small le = omega (arith, le ends, sum_by-cons (of_report interruptions) None ts)
all-more l ls (Some t) ts cut rest covers ends small le = omega (arith, covers ends.0 small, le ends.1, sum_by-cons (of_report interruptions) (Some t) ts)

tell-first : (t : Option LaneReport) (ts : List (Option LaneReport)) → AllTell (t ∷ ts) → AllTell (t ∷ []) × AllTell ts
tell-first None ts all = absurd all
tell-first (Some t) ts all = (tt, all)

weaker : (n before now own cut : ℕ) → Covers n before now own → (cut < count_end → own ≤ cut) → Covers n before now cut
weaker n before now own cut covers le a b = let h : own < count_end = omega (arith, le b) in omega (arith, covers a h, le b)

many-told : (m : Meaning) (history : List Signed) (k : ℕ) (slots : List ServedLane) → IsLegal history → ServedLanesFrom m history k slots → Many m history k slots
many-told m history k [] legal served = record {
  reports = [];
  told = tt;
  covered = λ cut le. tt;
  faulted = tt;
  all_covered = λ a b. omega arith;
  cut_interrupted = λ all. omega arith;
  answers = λ all. refl;
}
many-told m history k (s ∷ ss) legal served =
    let one : One m history k s.lane s.end = one-slot m history k s legal served.0 in
    let more : Many m history (k + 1) ss = many-told m history (k + 1) ss legal served.1 in
    let cuts : sum_by (λ (x : ServedLane). x.end.cut) (s ∷ ss) ≡ s.end.cut + sum_by (λ (x : ServedLane). x.end.cut) ss = sum_by-cons (λ (x : ServedLane). x.end.cut) s ss in
    let answered : sum_by (λ (x : ServedLane). x.end.answered) (s ∷ ss) ≡ s.end.answered + sum_by (λ (x : ServedLane). x.end.answered) ss = sum_by-cons (λ (x : ServedLane). x.end.answered) s ss in
    let earlies : all_of (λ t. interrupted_in t.endings) (one.report ∷ more.reports) ≡ of_report (λ t. interrupted_in t.endings) one.report + all_of (λ t. interrupted_in t.endings) more.reports = sum_by-cons (of_report (λ t. interrupted_in t.endings)) one.report more.reports in
    let answers : all_of (λ t. answered_in t.endings) (one.report ∷ more.reports) ≡ of_report (λ t. answered_in t.endings) one.report + all_of (λ t. answered_in t.endings) more.reports = sum_by-cons (of_report (λ t. answered_in t.endings)) one.report more.reports in
    record {
      reports = one.report ∷ more.reports;
      told = (one.told, more.told);
      covered = λ cut le. (
        weaker (of_report interruptions one.report) s.lane.failed_before s.lane.failed_now s.end.cut cut one.covered (λ b. omega (arith, le b, cuts)),
        more.covered cut (λ b. omega (arith, le b, cuts)),
      );
      faulted = (one.faulted, more.faulted);
      all_covered = λ a b.
          let mine : s.end.cut < count_end = omega (arith, b, cuts) in
          let rest : sum_by (λ (x : ServedLane). x.end.cut) ss < count_end = omega (arith, b, cuts) in
          let both = all-more s.lane (lanes_of ss) one.report more.reports s.end.cut (sum_by (λ (x : ServedLane). x.end.cut) ss) one.covered a mine (λ ends. more.all_covered ends rest) in
          omega (arith, both, cuts);
      cut_interrupted = λ all. let both = tell-first one.report more.reports all in omega (arith, one.cut_interrupted both.0, more.cut_interrupted both.1, cuts, earlies);
      answers = λ all. let both = tell-first one.report more.reports all in omega (arith, one.answers both.0, more.answers both.1, answered, answers);
    }

pub lanes-told : (m : Meaning) (history : List Signed) (slots : List ServedLane) → IsLegal history → ServedLanesFrom m history 1 slots
    → LanesTold m history (lanes_of slots) (min (sum_by (λ s. s.end.answered) slots) count_end) (min (sum_by (λ s. s.end.cut) slots) count_end)
lanes-told m history slots legal served =
    let all : Many m history 1 slots = many-told m history 1 slots legal served in
    record {
      reports = all.reports;
      told = all.told;
      covered = all.covered (min (sum_by (λ s. s.end.cut) slots) count_end) (λ b. omega (arith, b));
      faulted = all.faulted;
      all_covered = λ a b. let small : sum_by (λ s. s.end.cut) slots < count_end = omega (arith, b) in omega (arith, all.all_covered a small);
      cut_interrupted = λ tell. omega (arith, all.cut_interrupted tell);
      answers = all.answers;
    }

risen-or : (now end : ℕ) → (now < end) ⊎ (end ≤ now)
risen-or now end = grind arith

whole-one : (n before now : ℕ) → Covers n before now 0 → ¬ (Rose before now) → n ≡ 0
whole-one n before now covers none =
    let less : now < min (before + 1) count_end = ⊎_elim (λ low. low) (λ high. absurd (none high)) (risen-or now (min (before + 1) count_end)) in
    let c = covers (omega (arith, less)) (omega arith) in
    omega (arith, c, less)

-- connections of which none counts as interrupted
none-interrupted : (es : List Ending) → interrupted_in es ≡ 0 → AreUninterrupted es
none-interrupted [] none = tt
none-interrupted (e ∷ es) none = here (is_interrupted e.way) refl (sym (sum_by-cons (λ (x : Ending). cond (is_interrupted x.way) 1 0) e es) ∙ none) (none-interrupted es)
  where
    here : (b : Bool) → is_interrupted e.way ≡ b → cond b 1 0 + interrupted_in es ≡ 0 → (interrupted_in es ≡ 0 → AreUninterrupted es) → (is_interrupted e.way ≡ false) × AreUninterrupted es
    here true is none rest = absurd (omega (arith, none))
    here false is none rest = (is, rest (omega (arith, none)))

-- where no fault rose and no memory lacked, nothing was interrupted
pub lanes-whole : (m : Meaning) (history : List Signed) (k : ℕ) (lanes : List Span) (reports : List (Option LaneReport)) → ReportsFrom m history k lanes reports → EachCovered lanes reports 0 → NoneRose lanes → NoneInterrupted reports
lanes-whole m history k [] [] told covered none = tt
lanes-whole m history k [] (t ∷ ts) told covered none = absurd told
lanes-whole m history k (lane ∷ lanes) [] told covered none = absurd told
lanes-whole m history k (lane ∷ lanes) (None ∷ ts) told covered none = lanes-whole m history (k + 1) lanes ts told.1 covered.1 none.1
lanes-whole m history k (lane ∷ lanes) (Some t ∷ ts) told covered none =
    let whole : interruptions t ≡ 0 = whole-one (interruptions t) lane.failed_before lane.failed_now covered.0 none.0 in
    (none-interrupted t.endings (omega (arith, whole)), omega (arith, whole), lanes-whole m history (k + 1) lanes ts told.1 covered.1 none.1)
