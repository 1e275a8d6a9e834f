-- Lanes that were not served tell of no connection.
use Rattle.std.proofs.Common.{◌≡◌, ◌≤◌, ℕ, ◌+◌, ◌-◌, min, List, [], ◌∷◌, Option, Some, None, refl, ap, sym, subst, ◌∙◌, arith}
use Rattle.std.proofs.lemmas.List.{append-nil}
use Rattle.std.proofs.lemmas.List.Sums.{sum_by-cons}
use mathlib.Core.List.{IsPrefix}
use Rattle.cd_outside.specs.declared.past.Past.{Past}
use Rattle.cd_outside.specs.Counts.{count_end, Covers}
use Rattle.cd_outside.specs.Telling.{TellsOn}
use Rattle.cd_legal.specs.declared.entry.Signed.{Signed}
use Rattle.cd_legal.specs.Entry.{mine}
use Rattle.cd_legal.specs.Legal.{IsLegal}
use Rattle.cd_legal.proofs.Fresh.{legal-fresh}
use Rattle.cd_legal.proofs.Logs.{prefix_trans}
use Rattle.cd_legal.proofs.Placed.{placed-stays}
use Rattle.cd_serve.specs.Reports.{Span, LaneReport, ReportOf, ReportsFrom, of_report, interruptions, faults, all_of, of_those, EachCovered, EachFaulted, AllCovered, LanesTold}
use Rattle.cd_serve.specs.Lanes.{answered_in}
use Rattle.cd_serve.specs.Meanings.{Meaning}
use Rattle.cd_serve.specs.Since.{AddsSince}
use Rattle.cd_serve.proofs.Guarded.{adds-none}
use Rattle.cd_host.specs.OwnPass.{AreBetween}
use Rattle.cd_host.specs.ServedLanes.{AreUntouched}
use Rattle.cd_host.specs.Parts.{IsAlone}
use Rattle.cd_host.proofs.Going.{alone-front}

abbrev no_report : LaneReport
no_report = record { connections = []; endings = []; failed = 0 }

-- a lane that tells has the empty report
abbrev silent : Option Past → Option LaneReport
silent None = None
silent (Some p) = Some no_report

abbrev all_silent : List Span → List (Option LaneReport)
all_silent [] = []
all_silent (lane ∷ lanes) = silent lane.told_now ∷ all_silent lanes

nothing-counted : (f : LaneReport → ℕ) → f no_report ≡ 0 → (told : Option Past) → of_report f (silent told) ≡ 0
nothing-counted f none None = refl
nothing-counted f none (Some p) = none

all-nothing : (f : LaneReport → ℕ) → f no_report ≡ 0 → (lanes : List Span) → all_of f (all_silent lanes) ≡ 0
all-nothing f none [] = refl
all-nothing f none (lane ∷ lanes) =
    let here = nothing-counted f none lane.told_now in
    let rest = all-nothing f none lanes in
    let sum = sum_by-cons (of_report f) (silent lane.told_now) (all_silent lanes) in
    omega arith

module _ (m : Meaning) (history : List Signed) (legal : IsLegal history) where
  no-report : (k : ℕ) (lane : Span) (told : Option Past) → mine k history ≡ [] → lane.told_now ≡ told → lane.told_now ≡ lane.told_before → lane.since_now ≡ lane.since_before → ReportOf m history k lane (silent told)
  no-report k lane None none is same since = (sym same ∙ is, is)
  no-report k lane (Some p) none is same since = (
    p,
    p,
    sym same ∙ is,
    is,
    record {
      added = sym (append-nil p.connections);
      told = record { whole = placed-stays k [] history none; each = tt };
      fresh = legal-fresh history k legal;
      failed = omega arith;
    },
    subst (λ (z : Option (List ℕ)). TellsOn (AddsSince k [] []) lane.since_before z) (sym since) (adds-none k lane.since_before),
  )

  no-reports : (k : ℕ) (lanes : List Span) → ((j : ℕ) → k ≤ j → mine j history ≡ []) → AreUntouched lanes → ReportsFrom m history k lanes (all_silent lanes)
  no-reports k [] none all = tt
  no-reports k (lane ∷ lanes) none all = (no-report k lane lane.told_now (none k (omega arith)) refl all.0 all.2, no-reports (k + 1) lanes (λ j low. none j (omega (arith, low))) all.3)

  covered-one : (told : Option Past) (before now : ℕ) → now ≡ before → Covers (of_report interruptions (silent told)) before now 0
  covered-one told before now same = let none = nothing-counted interruptions refl told in λ a b. omega arith

  each-covered : (lanes : List Span) → AreUntouched lanes → EachCovered lanes (all_silent lanes) 0
  each-covered [] all = tt
  each-covered (lane ∷ lanes) all = (covered-one lane.told_now lane.failed_before lane.failed_now all.1, each-covered lanes all.3)

  faulted-one : (told : Option Past) (before now : ℕ) → now ≡ before → Covers (of_report faults (silent told)) before now 0
  faulted-one told before now same = let none = nothing-counted faults refl told in λ a b. omega arith

  each-faulted : (lanes : List Span) → AreUntouched lanes → EachFaulted lanes (all_silent lanes)
  each-faulted [] all = tt
  each-faulted (lane ∷ lanes) all = (faulted-one lane.told_now lane.failed_before lane.failed_now all.1, each-faulted lanes all.3)

  -- those that tell have failed as often as they had
  as-often : (told : Option Past) (lane : Span) (lanes : List Span) (ts : List (Option LaneReport)) → lane.failed_now ≡ lane.failed_before → of_those (λ l. l.failed_before) lanes ts ≤ of_those (λ l. l.failed_now) lanes ts
      → of_those (λ l. l.failed_before) (lane ∷ lanes) (silent told ∷ ts) ≤ of_those (λ l. l.failed_now) (lane ∷ lanes) (silent told ∷ ts)
  as-often None lane lanes ts same rest = rest
  as-often (Some p) lane lanes ts same rest = omega arith

  all-as-often : (lanes : List Span) → AreUntouched lanes → of_those (λ l. l.failed_before) lanes (all_silent lanes) ≤ of_those (λ l. l.failed_now) lanes (all_silent lanes)
  all-as-often [] all = omega arith
  all-as-often (lane ∷ lanes) all = as-often lane.told_now lane lanes (all_silent lanes) all.1 (all-as-often lanes all.3)

  all-covered : (lanes : List Span) → AreUntouched lanes → AllCovered lanes (all_silent lanes) 0
  all-covered lanes all =
      let none = all-nothing interruptions refl lanes in
      let often = all-as-often lanes all in λ a b. omega arith

  pub untouched : (lanes : List Span) → ((k : ℕ) → 1 ≤ k → mine k history ≡ []) → AreUntouched lanes → LanesTold m history lanes 0 0
  untouched lanes none all = record {
    reports = all_silent lanes;
    told = no-reports 1 lanes none all;
    covered = each-covered lanes all;
    faulted = each-faulted lanes all;
    all_covered = all-covered lanes all;
    cut_interrupted = λ tell. omega arith;
    answers = λ tell. let answered = all-nothing (λ t. answered_in t.endings) refl lanes in sym (ap (λ (n : ℕ). min n count_end) answered);
  }

pub unsigned : (start found history : List Signed) → IsPrefix start found → IsPrefix found history → IsAlone history → AreBetween start found history
unsigned start found history p q alone = λ k pos. (
  alone-front start history (prefix_trans start found history p q) alone k pos,
  alone k pos ∙ sym (alone-front found history q alone k pos),
)
