-- Each definition where it holds, and near misses.
use Rattle.std.proofs.Common.{◌≡◌, ℕ, List, [], ◌∷◌, length, Some, None, sum, refl, sym, subst, arith}
use Rattle.std.specs.Prelude.{codes, IfSome}
use Rattle.cd_tree.specs.declared.tree.Tree.{Tree}
use Rattle.cd_autosave.specs.declared.save_fault.SaveFault.TheVariants as fault
use Rattle.cd_autosave.specs.Image.{recovered}
use Rattle.cd_autosave.specs.Opening.{IsDamaged, IsTreeOf}
use Rattle.cd_program.specs.declared.initial.Initial.TheVariants as Initial
use Rattle.cd_program.specs.declared.status.Status.{Status}
use Rattle.cd_program.specs.declared.status.Status.TheVariants as status
use Rattle.cd_program.specs.Seen.{Seen}
use Rattle.cd_outside.specs.Devices.{Device}
use Rattle.cd_serve.specs.Reports.{Span}
use Rattle.cd_saved.specs.declared.saved_run.SavedRun.{SavedRun}
use Rattle.cd_saved.specs.declared.saved_run.SavedRun.TheVariants.{OfFile, Null, Resumed}
use Rattle.cd_saved.specs.Shares.{with_shares}
use Rattle.cd_saved.specs.Top.{AreShares, DiskSeen, HasOpened, IsRefused, IsUnopened}
use Rattle.cd_saved.specs.Words.{initial_of, saved_run}

-- ---- words

run_alone : saved_run (codes "run" ∷ []) ≡ Some Null
run_alone = refl

run_resumed : saved_run (codes "run" ∷ codes "--resume" ∷ []) ≡ Some Resumed
run_resumed = refl

run_of_a_file : saved_run (codes "run" ∷ codes "--config" ∷ codes "f" ∷ []) ≡ Some OfFile
run_of_a_file = refl

-- other words, a word too few, and one too many
stdio : saved_run (codes "stdio" ∷ codes "--config" ∷ codes "f" ∷ []) ≡ None
stdio = refl

a_file_is_missing : saved_run (codes "run" ∷ codes "--config" ∷ []) ≡ None
a_file_is_missing = refl

a_word_too_many : saved_run (codes "run" ∷ codes "--resume" ∷ codes "f" ∷ []) ≡ None
a_word_too_many = refl

-- ---- what a run begins with

begins_with_what_was_saved : (tree : Tree) → initial_of Resumed (Some tree) ≡ Initial.Saved tree
begins_with_what_was_saved tree = refl

nothing_was_saved : initial_of Resumed None ≡ Initial.Null
nothing_was_saved = refl

-- it was saved, but is not asked for
begins_with_null : (tree : Tree) → initial_of Null (Some tree) ≡ Initial.Null
begins_with_null tree = refl

begins_with_the_file : (tree : Tree) → initial_of OfFile (Some tree) ≡ Initial.OfFile
begins_with_the_file tree = refl

-- ---- shares

-- a lane whose own calls have failed once
abbrev lane : ℕ → Span
lane now = record { told_before = None; told_now = None; since_before = None; since_now = None; failed_before = 1; failed_now = now }

saves_count : with_shares (lane 2 ∷ lane 2 ∷ []) (3 ∷ 0 ∷ []) ≡ lane 5 ∷ lane 2 ∷ []
saves_count = refl

-- a disk that has failed twice
abbrev disk : DiskSeen
disk = record { told_before = Some []; told_now = Some []; failed_before = 1; failed_now = 3 }

module _ {F L : Type 0} (s : Seen F L) (one : length s.lanes ≡ 1) where
  shares : AreShares disk s (2 ∷ [])
  shares = record { count = sym one; met = λ low. let two : sum (2 ∷ []) ≡ 2 = refl in omega (arith, two) }

  -- more than the disk has failed
  shares_too_great : AreShares disk s (3 ∷ []) → ⊥
  shares_too_great are = let met = are.met (omega arith) in let three : sum (3 ∷ []) ≡ 3 = refl in omega (arith, met, three)

  -- a lane has none
  share_lost : AreShares disk s [] → ⊥
  share_lost are = omega (arith, are.count, one)

-- ---- refused openings

-- the disk has not failed
abbrev still : DiskSeen
still = record { told_before = Some []; told_now = Some []; failed_before = 1; failed_now = 1 }

no_fault : (output : Device (List ℕ)) → IsRefused still output fault.DiskFault status.ReadFault → ⊥
no_fault output so = omega (arith, so.0)

-- each cause has its own status
a_fault_as_damage : (output : Device (List ℕ)) → IsRefused disk output fault.DiskFault status.Refused → ⊥
a_fault_as_damage output so = so

damage_as_a_fault : (output : Device (List ℕ)) → IsRefused disk output fault.Damaged status.ReadFault → ⊥
damage_as_a_fault output so = so

damage_as_a_success : (output : Device (List ℕ)) → IsRefused disk output fault.Damaged status.Done → ⊥
damage_as_a_success output so = so

-- the disk has changed
abbrev written : DiskSeen
written = record { told_before = Some []; told_now = Some (codes "a"); failed_before = 1; failed_now = 3 }

Some-injective : {x y : List ℕ} → Some x ≡ Some y → x ≡ y
Some-injective e = cc

module _ {F L : Type 0} (s : Seen F L) (st : Status) where
  changed_unopened : IsUnopened written s st → ⊥
  changed_unopened u = let e : codes "a" ≡ [] = Some-injective u.same in cc

  -- a configuration was published
  published_unopened : s.published ≡ 1 → IsUnopened disk s st → ⊥
  published_unopened one u = omega (arith, one, u.untouched.unpublished)

-- ---- opened disks

module _ {F L : Type 0} (s : Seen F L) (code : ℕ) where
  -- an empty disk holds no tree
  resumed_from_nothing : (tree : Tree) (h : HasOpened Resumed disk s code) → h.saved ≡ Some tree → ⊥
  resumed_from_nothing tree h is = subst (λ saved. IsTreeOf (recovered []) saved) is h.found.0

  -- a damaged disk is not opened
  damaged_and_opened : (which : SavedRun) (seen : DiskSeen) (image : List ℕ) → seen.told_before ≡ Some image → IsDamaged image → HasOpened which seen s code → ⊥
  damaged_and_opened which seen image is damaged h = (subst (λ told. IfSome told (λ (i : List ℕ). IsTreeOf (recovered i) h.saved × (IsDamaged i → ⊥))) is h.found).1 damaged
