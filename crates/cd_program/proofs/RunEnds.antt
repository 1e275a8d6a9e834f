-- How a run ends, from what the call that runs it tells and from its last line.
use Rattle.std.proofs.Common.{◌≡◌, ◌≤◌, ◌∙◌, inl, inr, ℕ, Bool, true, false, List, Option, Some, None, Ok, option_map, refl, ap, sym, subst, arith}
use Rattle.cd_outside.specs.declared.key.Key.{Key}
use Rattle.cd_outside.specs.Counts.{Rose}
use Rattle.cd_tree.specs.declared.tree.Tree.{Tree}
use Rattle.cd_legal.specs.State.{Conf}
use Rattle.cd_serve.specs.Meanings.{Meaning}
use Rattle.cd_host.specs.declared.host_end.HostHow.{HostHow}
use Rattle.cd_host.specs.declared.host_end.HostHow.TheVariants as how
use Rattle.cd_host.specs.Hosting.{HasSaid, is_served, serving_line}
use Rattle.cd_host.specs.Program.{Start}
use Rattle.cd_host.specs.Runs.{Promises, Ran}
use Rattle.cd_program.specs.declared.initial.Initial.{Initial}
use Rattle.cd_program.specs.declared.status.Status.{Status}
use Rattle.cd_program.specs.declared.status.Status.TheVariants as status
use Rattle.cd_program.specs.Endings.{Concludes}
use Rattle.cd_program.specs.Output.{Wrote, FellShort, WroteLess, Writes, Says, run_text, served_line, unopened_line}
use Rattle.cd_program.specs.Seen.{Seen, IsUnserved, IsUntouched, observed_in}
use Rattle.cd_outside.specs.Devices.{Device, HasFailed}
use Rattle.cd_program.specs.Top.{Begins, HasRun, HasStarted, HasEnded, FailedToOpen, Serves}
use Rattle.cd_program.proofs.Said.{wrote_as, wrote_more, wrote_none, wrote_part, not_short}
use Rattle.cd_program.proofs.Unpublished.{refused-publishes-nothing}

-- a rise after a call that lowers nothing, or before one
rose_then : (before middle now : ℕ) → before ≤ middle → Rose middle now → Rose before now
rose_then before middle now low rose = omega (arith, low, rose)

-- where nothing comes of an option, nothing was there
pub map_none : {A B : Type 0} (f : A → B) (o : Option A) → option_map f o ≡ None → o ≡ None
map_none f None e = refl
map_none f (Some x) e = absurd (let is : Some (f x) ≡ None = e in cc)

-- Between the call that runs all lanes and the last line, the output had told `then`, and had failed so often.
module _ {F L : Type 0} (m : Meaning) (initial : Initial) (s : Seen F L) (then : Option (List ℕ)) (failed_then : ℕ) where
  abbrev line : Device (List ℕ)
  line = record { told_before = then; told_now = s.output.told_now; failed_before = failed_then; failed_now = s.output.failed_now }

  abbrev Word : HostHow → Status → Type 0
  Word = Concludes s.answered s.published line

  -- an output that fell short of the first line shows that no lane was served
  pub run_short : (h : HostHow) → HasSaid h s.output.told_before then → (is_served h ≡ false → IsUnserved s) → (st : Status) → Word h st
      → FellShort serving_line s.output.told_before s.output.told_now → IsUnserved s
  run_short how.Served said back st word fell = absurd (all_said st word)
    where
      all_said : (st : Status) → Word how.Served st → ⊥
      all_said status.Done word = not_short serving_line serving_line word.text s.output.told_before then s.output.told_now refl said word.held fell
      all_said status.WriteFault word = not_short serving_line serving_line word.1.text s.output.told_before then s.output.told_now refl said word.1.held fell
      all_said status.NoMemory word =
          let none = wrote_none serving_line ⊥ then s.output.told_now (λ no. no) word.told in
          not_short serving_line serving_line none.text s.output.told_before then s.output.told_now refl said none.held fell
      all_said status.Refused word = word
      all_said status.Unopened word = word
      all_said status.Usage word = word
      all_said status.ReadFault word = word
  run_short (how.FirstRefused key) said back st word fell = back refl
  run_short how.WriteFault said back st word fell = back refl
  run_short how.NoMemory said back st word fell = back refl

  module _ (tree : Tree) (fine : Begins m.plan initial s.source (Ok tree)) (last : Option Conf) (later : s.output.failed_before ≤ failed_then) where
    abbrev Ends : Status → Type 0
    Ends = Serves m initial s

    run : (start : Start) (served : Bool) → Ran m tree start served (observed_in s last) → HasRun m initial s start served
    run start served ran = record { tree = tree; begins = fine; last = last; ran = ran }

    -- a prefix of both lines, of which nothing was written
    silent : s.output.told_now ≡ s.output.told_before → Writes (run_text s.answered s.published) ⊥ s.output
    silent same = wrote_none (run_text s.answered s.published) ⊥ s.output.told_before s.output.told_now (λ no. no) same

    -- both lines, of which the first was written
    both_lines : (complete : Type 0) → HasSaid how.Served s.output.told_before then → Wrote (served_line s.answered s.published) complete then s.output.told_now
        → Writes (run_text s.answered s.published) complete s.output
    both_lines complete said word = wrote_more serving_line (served_line s.answered s.published) serving_line complete s.output.told_before then s.output.told_now refl said word

    served_ends : Ran m tree Start.published true (observed_in s last) → HasSaid how.Served s.output.told_before then → (st : Status) → Word how.Served st → Ends st
    served_ends ran said status.Done word = (run Start.published true ran, both_lines (Unit {0}) said word)
    served_ends ran said status.WriteFault word = (
      record { served = true; run = run Start.published true ran; unserved = λ not. absurd (let is : true ≡ false = not in cc); short = λ not. absurd (let is : true ≡ false = not in cc) },
      rose_then s.output.failed_before failed_then s.output.failed_now later word.0,
      both_lines ⊥ said word.1,
    )
    served_ends ran said status.NoMemory word = inr (
      record { start = Start.published; served = true; run = run Start.published true ran; published = λ is. refl },
      both_lines ⊥ said (wrote_none (served_line s.answered s.published) ⊥ then s.output.told_now (λ no. no) word.told),
    )
    served_ends ran said status.Refused word = absurd word
    served_ends ran said status.Unopened word = absurd word
    served_ends ran said status.Usage word = absurd word
    served_ends ran said status.ReadFault word = absurd word

    -- a run whose lanes were left
    left : (start : Start) → Ran m tree start false (observed_in s last) → HasEnded m initial s
    left start ran = record { start = start; served = false; run = run start false ran; published = λ is. absurd (let e : false ≡ true = is in cc) }

    refused_ends : (key : Key) → Promises m tree (how.FirstRefused key) (observed_in s last) → then ≡ s.output.told_before → HasFailed s.calls → IsUnserved s
        → (st : Status) → Word (how.FirstRefused key) st → Ends st
    refused_ends key ran said cause back status.Unopened word = record {
      key = key;
      failure = ran.0;
      run = run (Start.refused ran.0 key) false ran.1;
      cause = cause;
      says = subst (λ (old : Option (List ℕ)). Wrote (unopened_line key) (¬ (HasFailed s.output)) old s.output.told_now) said
          (wrote_as (unopened_line key) (¬ (Rose failed_then s.output.failed_now)) (¬ (HasFailed s.output)) then s.output.told_now
          (λ none rose. none (rose_then s.output.failed_before failed_then s.output.failed_now later rose)) word);
      unserved = back;
      unpublished = refused-publishes-nothing m tree ran.0 key (observed_in s last) ran.1;
    }
    refused_ends key ran said cause back status.NoMemory word = inr (left (Start.refused ran.0 key) ran.1, silent (word.told ∙ said))
    refused_ends key ran said cause back status.Done word = absurd word
    refused_ends key ran said cause back status.Refused word = absurd word
    refused_ends key ran said cause back status.Usage word = absurd word
    refused_ends key ran said cause back status.ReadFault word = absurd word
    refused_ends key ran said cause back status.WriteFault word = absurd word

    short_ends : Ran m tree Start.published false (observed_in s last) → HasSaid how.WriteFault s.output.told_before then → Rose s.output.failed_before failed_then → IsUnserved s
        → (st : Status) → Word how.WriteFault st → Ends st
    short_ends ran said rose back status.WriteFault word =
        let less : WroteLess serving_line s.output.told_before s.output.told_now = (said.0, said.1, word.told ∙ said.2) in (
          record { served = false; run = run Start.published false ran; unserved = λ not. back; short = λ not. less },
          subst (λ (n : ℕ). Rose s.output.failed_before n) (sym word.failed) rose,
          wrote_part serving_line (served_line s.answered s.published) said.0 ⊥ s.output.told_before s.output.told_now less.1 less.2 (λ no. no),
        )
    short_ends ran said rose back status.Done word = absurd word
    short_ends ran said rose back status.Refused word = absurd word
    short_ends ran said rose back status.Unopened word = absurd word
    short_ends ran said rose back status.Usage word = absurd word
    short_ends ran said rose back status.ReadFault word = absurd word
    short_ends ran said rose back status.NoMemory word = absurd word

    idle_ends : Promises m tree how.NoMemory (observed_in s last) → then ≡ s.output.told_before → (last ≡ None → s.fixtures_now ≡ s.fixtures_before) → IsUnserved s
        → (st : Status) → Word how.NoMemory st → Ends st
    idle_ends (inl none) said nothing back status.NoMemory word =
        inl (record { unserved = back; fixtures = nothing none.none; unpublished = none.unpublished }, word.told ∙ said)
    idle_ends (inr ran) said nothing back status.NoMemory word = inr (left ran.0 ran.1, silent (word.told ∙ said))
    idle_ends ran said nothing back status.Done word = absurd word
    idle_ends ran said nothing back status.Refused word = absurd word
    idle_ends ran said nothing back status.Unopened word = absurd word
    idle_ends ran said nothing back status.Usage word = absurd word
    idle_ends ran said nothing back status.ReadFault word = absurd word
    idle_ends ran said nothing back status.WriteFault word = absurd word

    -- so in each case
    pub run_ends : (h : HostHow) → Promises m tree h (observed_in s last) → HasSaid h s.output.told_before then
        → ((key : Key) → h ≡ how.FirstRefused key → HasFailed s.calls) → (h ≡ how.WriteFault → Rose s.output.failed_before failed_then)
        → (is_served h ≡ false → IsUnserved s) → (last ≡ None → s.fixtures_now ≡ s.fixtures_before) → (st : Status) → Word h st → Ends st
    run_ends how.Served ran said cause rose back nothing st word = served_ends ran said st word
    run_ends (how.FirstRefused key) ran said cause rose back nothing st word = refused_ends key ran said (cause key refl) (back refl) st word
    run_ends how.WriteFault ran said cause rose back nothing st word = short_ends ran said (rose refl) (back refl) st word
    run_ends how.NoMemory ran said cause rose back nothing st word = idle_ends ran said nothing (back refl) st word
