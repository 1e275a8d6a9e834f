-- What the shares of lanes come to.
use Rattle.std.proofs.Common.{◌≡◌, ◌≤◌, ◌<◌, ℕ, zero, suc, ◌+◌, List, [], ◌∷◌, Option, Some, None, length, min, sum, inl, inr, refl, sym, ap, ◌∙◌, subst, arith}
use Rattle.std.specs.Prelude.{IfSome}
use Rattle.std.proofs.lemmas.List.Sums.{sum_by-cons}
use Rattle.cd_outside.specs.Counts.{count_end, raised, Rose}
use Rattle.cd_serve.specs.Reports.{Span, NoneRose}
use Rattle.cd_program.specs.declared.initial.Initial.{Initial}
use Rattle.cd_program.specs.Complete.{NothingFailed}
use Rattle.cd_program.specs.Seen.{Seen}
use Rattle.cd_saved.specs.Shares.{shared, with_shares}
use Rattle.cd_saved.specs.Running.{RanShared}
use Rattle.cd_saved.specs.Top.{DiskSeen, HasRunOver}
use Rattle.cd_autosave.specs.Image.{Saved, recovered}
use Rattle.cd_autosave.specs.Opening.{IsDamaged, IsOpened, IsTreeOf}
use Rattle.cd_tree.specs.declared.tree.Tree.{Tree}
use Rattle.cd_program.specs.declared.status.Status.TheVariants as status
use Rattle.cd_program.specs.Seen.{IsUntouched}
use Rattle.cd_program.specs.Top.{standard}
use Rattle.cd_program.proofs.Completing.{completes}

-- the shares are no more than the rise of the disk's faults
pub met : (before total now : ℕ) → min (before + total) count_end ≤ now → now < count_end → before + total ≤ now
met before total now at_least low = omega (arith, at_least, low)

-- where the disk has not failed they are nothing
pub none_met : (before total now : ℕ) → min (before + total) count_end ≤ now → ¬ (Rose before now) → total ≡ 0
none_met before total now at_least unrisen = here total at_least
  where
    here : (n : ℕ) → min (before + n) count_end ≤ now → n ≡ 0
    here zero low = refl
    here (suc n) low = absurd (unrisen (omega (arith, low)))

-- lanes whose saves have met nothing have failed as their own calls have
same-lanes : (lanes : List Span) (shares : List ℕ) → sum shares ≡ 0 → with_shares lanes shares ≡ lanes
same-lanes [] shares none = refl
same-lanes (lane ∷ lanes) [] none = refl
same-lanes (lane ∷ lanes) (n ∷ ns) none =
    let all : n + sum ns ≡ 0 = sym (sum_by-cons (λ (k : ℕ). k) n ns) ∙ none in
    let now : lane.failed_now + n ≡ lane.failed_now = omega (arith, all) in
    ap (λ (k : ℕ). record { told_before = lane.told_before; told_now = lane.told_now; since_before = lane.since_before; since_now = lane.since_now; failed_before = lane.failed_before; failed_now = k } ∷ with_shares lanes ns) now
    ∙ ap (λ l. lane ∷ l) (same-lanes lanes ns (omega (arith, all)))

pub nothing-failed : {F L : Type 0} (s : Seen F L) (shares : List ℕ) → sum shares ≡ 0 → NothingFailed s → NothingFailed (shared s shares)
nothing-failed s shares none unfailed = record {
  source = unfailed.source;
  output = unfailed.output;
  calls = unfailed.calls;
  lanes = subst NoneRose (sym (same-lanes s.lanes shares none)) unfailed.lanes;
}

-- ---- a run over a disk

-- nothing for each lane
abbrev zeros : List Span → List ℕ
zeros [] = []
zeros (lane ∷ lanes) = 0 ∷ zeros lanes

zeros-long : (lanes : List Span) → length (zeros lanes) ≡ length lanes
zeros-long [] = refl
zeros-long (lane ∷ lanes) = let more = zeros-long lanes in omega (arith, more)

zeros-sum : (lanes : List Span) → sum (zeros lanes) ≡ 0
zeros-sum [] = refl
zeros-sum (lane ∷ lanes) = let more = zeros-sum lanes in omega (arith, more, sum_by-cons (λ (k : ℕ). k) 0 (zeros lanes))

module _ {F L : Type 0} (initial : Initial) (disk : DiskSeen) (s : Seen F L) (code : ℕ) where
  -- one that was not begun, for want of memory
  pub lacking : code ≡ 5 → disk.failed_now ≡ disk.failed_before → IsUntouched s → s.output.told_now ≡ s.output.told_before → HasRunOver initial disk s code
  lacking five same untouched silent = record {
    shares = zeros s.lanes;
    are = record { count = zeros-long s.lanes; met = λ low. omega (arith, same, zeros-sum s.lanes) };
    ends = record {
      status = status.NoMemory;
      is = five;
      so = inl (record { unserved = record { lanes = untouched.unserved.lanes; unanswered = untouched.unserved.unanswered; uncut = untouched.unserved.uncut }; fixtures = untouched.fixtures; unpublished = untouched.unpublished }, silent);
    };
    short = λ fell. untouched.unserved;
    completes = λ may none unrisen. record { done = inr five; all = λ zero uncut. absurd (omega (arith, five, zero)) };
  }

  -- one whose shares have come together
  pub run_over_disk : (total : ℕ) → RanShared initial s code total → min (disk.failed_before + total) count_end ≤ disk.failed_now → HasRunOver initial disk s code
  run_over_disk total ran at_least = record {
    shares = ran.shares;
    are = record { count = ran.count; met = λ low. subst (λ (n : ℕ). disk.failed_before + n ≤ disk.failed_now) (sym ran.total_is) (met disk.failed_before total disk.failed_now at_least low) };
    ends = ran.ends;
    short = ran.short;
    completes = λ may none unrisen.
        let nothing : sum ran.shares ≡ 0 = ran.total_is ∙ none_met disk.failed_before total disk.failed_now at_least unrisen in
        completes standard initial (shared s ran.shares) (nothing-failed s ran.shares nothing none) may code ran.ends;
  }

  -- the same of a disk that had failed less often before
  pub from_earlier : (earlier : DiskSeen) → earlier.failed_before ≤ disk.failed_before → earlier.failed_now ≡ disk.failed_now → HasRunOver initial disk s code → HasRunOver initial earlier s code
  from_earlier earlier fewer same ran = record {
    shares = ran.shares;
    are = record { count = ran.are.count; met = λ low. let so = ran.are.met (omega (arith, low, same)) in omega (arith, so, fewer, same) };
    ends = ran.ends;
    short = ran.short;
    completes = λ may none unrisen. ran.completes may none (λ rose. unrisen (omega (arith, rose, fewer, same)));
  }

-- what opening has found
pub opened_found : (seen : Option (List ℕ)) (held : Option Saved) (number : ℕ) (saved : Option Tree) → IfSome seen (λ image. IsOpened held number saved image)
    → IfSome seen (λ image. IsTreeOf (recovered image) saved × (IsDamaged image → ⊥))
opened_found None held number saved opened = tt
opened_found (Some image) held number saved opened = (opened.tree_is, opened.sound)
