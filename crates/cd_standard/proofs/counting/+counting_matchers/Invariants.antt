use Rattle.std.proofs.Common.{◌≡◌, ◌+◌, ◌≤◌, ◌-◌, ◌^◌, length, drop}
use Rattle.std.specs.Prelude.{min}
use Rattle.std.specs.List.{flat_map}
use Rattle.cd_tree.specs.declared.path.Path.{Path}
use Rattle.cd_standard.specs.Plans.{set_modules, matcher_modules}
use Rattle.cd_standard.proofs.Adding.{elements_left}
use Rattle.cd_standard.proofs.counting.+counting_matchers.Given as goal

abbrev pub invariant-modules_in_sets-loop-set : goal.invariant-modules_in_sets-loop-set
invariant-modules_in_sets-loop-set l =
    ((at : Path) → min (l.found + length (elements_left set_modules l.sets l.set-index at)) (2 ^ 64 - 1) ≡ min (length (elements_left set_modules l.sets 0 at)) (2 ^ 64 - 1)) × (l.found ≤ 2 ^ 64 - 1)

abbrev pub invariant-modules_in_set-loop-matcher : goal.invariant-modules_in_set-loop-matcher
invariant-modules_in_set-loop-matcher l =
    ((at : Path) → min (l.found + length (flat_map (λ m. matcher_modules m at) (drop l.matcher-index l.matcher-items))) (2 ^ 64 - 1) ≡ min (length (flat_map (λ m. matcher_modules m at) l.matcher-items)) (2 ^ 64 - 1)) × (l.found ≤ 2 ^ 64 - 1)
