-- Each definition where it holds, and near misses.
use Rattle.std.proofs.Common.{◌≡◌, ◌<◌, ◌≤◌, ◌∙◌, ℕ, ◌+◌, ◌++◌, true, false, List, [], ◌∷◌, length, Option, Some, None, Ok, refl, ap, sym, append-nil, inl, inr, ⊎_elim, arith}
use Rattle.std.specs.Prelude.{codes, get_or}
use Rattle.cd_tree.specs.Tree.{text}
use Rattle.cd_tree.specs.declared.limits.TheConstants.{MAX_TEXT_BYTES}
use Rattle.cd_tree.specs.declared.tree.Tree.{Tree}
use Rattle.cd_caddyfile.specs.Adapting.{adapted}
use Rattle.cd_serve.specs.Meanings.{Meaning}
use Rattle.cd_host.specs.Program.{Start}
use Rattle.cd_host.specs.Runs.{Observed}
use Rattle.cd_program.specs.declared.config.TheConstants.{CONFIG_READ_BYTES}
use Rattle.cd_program.specs.declared.initial.Initial.{Initial}
use Rattle.cd_program.specs.declared.status.Status.TheVariants as status
use Rattle.cd_program.specs.Adapting.{Adapts}
use Rattle.cd_program.specs.Config.{Gave}
use Rattle.cd_program.specs.Output.{Wrote, FellShort, tree_line}
use Rattle.cd_program.specs.Seen.{Seen}
use Rattle.cd_outside.specs.Devices.{Device, HasFailed}
use Rattle.cd_program.specs.Storm.{IsStorm, Storms}
use Rattle.cd_program.specs.Top.{ExitsWith, HasRun, HasEnded, Serves, Validates, Declines, code_of}

Some-injective : {x y : List ℕ} → Some x ≡ Some y → x ≡ y
Some-injective e = cc

-- ---- the bytes of the configuration

gave : Gave (codes "ab") (Some (codes "ab")) (Some [])
gave = record { given = refl; all = inr refl; few = omega arith }

-- a source that does not tell
gave_untold : Gave (codes "ab") None None
gave_untold = record { given = refl; all = tt; few = omega arith }

-- it was read neither to its end nor beyond the limit
gave_a_part : Gave (codes "a") (Some (codes "ab")) (Some (codes "b")) → ⊥
gave_a_part g = ⊎_elim (λ long. omega (arith, long)) (λ none. let e : codes "b" ≡ [] = none in cc) g.all

-- it was read on and on beyond the limit
gave_too_much : (bytes : List ℕ) (old new : Option (List ℕ)) → MAX_TEXT_BYTES + CONFIG_READ_BYTES < length bytes → Gave bytes old new → ⊥
gave_too_much bytes old new long g = omega (arith, long, g.few)

-- ---- what was written

wrote_all : Wrote (codes "ab") (Unit {0}) (Some (codes "x")) (Some (codes "xab"))
wrote_all = record { text = codes "ab"; held = refl; front = ([], refl); all = λ complete. refl }

wrote_some : Wrote (codes "ab") ⊥ (Some []) (Some (codes "a"))
wrote_some = record { text = codes "a"; held = refl; front = (codes "b", refl); all = λ never. absurd never }

-- not all of it where it is complete
wrote_too_little : Wrote (codes "ab") (Unit {0}) (Some []) (Some (codes "a")) → ⊥
wrote_too_little w = let e : codes "a" ≡ codes "ab" = Some-injective w.held ∙ w.all tt in cc

-- what is no prefix
wrote_another : Wrote (codes "ab") ⊥ (Some []) (Some (codes "b")) → ⊥
wrote_another w =
    let text : codes "b" ≡ w.text = Some-injective w.held in
    let e : codes "b" ++ w.front.0 ≡ codes "ab" = ap (λ (l : List ℕ). l ++ w.front.0) text ∙ w.front.1 in
    let n : ◌≡◌ {A = ℕ} 98 97 = ap (λ (l : List ℕ). get_or l 0 0) e in omega (arith, n)

fell_short : FellShort (codes "ab") (Some []) (Some (codes "a"))
fell_short = record { held = []; text = codes "a"; before = refl; after = refl; short = omega arith }

-- ---- tables by status

-- each status is that of its own row: words that are unknown end with 2 alone
declined : (output : Device (List ℕ)) (e : ExitsWith 5 (Declines output)) → ⊥
declined output e = here e.status e.is e.so
  where
    here : (st : _) → 5 ≡ code_of st → Declines output st → ⊥
    here status.Usage is so = omega (arith, is)
    here st is so = so

-- ---- what `adapt` does

abbrev told : List ℕ → List ℕ → Device (List ℕ)
told before now = record { told_before = Some before; told_now = Some now; failed_before = 0; failed_now = 0 }

adapts : (bytes : List ℕ) (tree : Tree) → length bytes ≤ MAX_TEXT_BYTES → adapted bytes ≡ Ok tree → Adapts (told bytes []) (told [] (tree_line tree)) status.Done
adapts bytes tree few is = record {
  tree = tree;
  comes = record { bytes = bytes; gave = record { given = ap Some (sym (append-nil bytes)); all = inr refl; few = omega (arith, few) }; is = is };
  wrote = record { text = tree_line tree; held = refl; front = ([], append-nil (tree_line tree)); all = λ complete. refl };
}

-- nothing was written
not_adapts : (source : Device (List ℕ)) → Adapts source (told [] []) status.Done → ⊥
not_adapts source a = some (text a.tree) (Some-injective a.wrote.held ∙ a.wrote.all tt)
  where
    some : (bytes : List ℕ) → [] ≡ bytes ++ codes "\n" → ⊥
    some [] e = let h : ◌≡◌ {A = List ℕ} [] (10 ∷ []) = e in cc
    some (byte ∷ bytes) e = cc

-- ---- a run

module _ (m : Meaning) (initial : Initial) {F L : Type 0} (s : Seen F L) where
  -- one that lacked memory for its first draft has ended, with its lanes left
  ended_unserved : HasRun m initial s Start.undrafted false → HasEnded m initial s
  ended_unserved run = record { start = Start.undrafted; served = false; run = run; published = λ is. absurd (let e : false ≡ true = is in cc) }

  -- with its lanes served it has not
  not_ended_so : (e : HasEnded m initial s) → e.served ≡ true → e.start ≡ Start.undrafted → ⊥
  not_ended_so e served start = let is : Start.undrafted ≡ Start.published = sym start ∙ e.published served in cc

-- ---- a storm

-- a connection was interrupted
storm_with_a_cut : (m : Meaning) (number : ℕ) (run : Observed) → run.cut ≡ 1 → IsStorm m number run → ⊥
storm_with_a_cut m number run cut storm = omega (arith, cut, storm.uncut)

-- a fixture failed
storm_with_a_fault : (m : Meaning) (number : ℕ) (run : Observed) → run.failed_now ≡ 1 → IsStorm m number run → ⊥
storm_with_a_fault m number run failed storm = omega (arith, failed, storm.still)
