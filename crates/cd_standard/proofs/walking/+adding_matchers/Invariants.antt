use Rattle.std.proofs.Common.{◌≡◌, ◌++◌, drop}
use Rattle.std.specs.List.{flat_map}
use Rattle.cd_standard.specs.Plans.{set_modules, matcher_modules}
use Rattle.cd_standard.proofs.Adding.{elements_left}
use Rattle.cd_standard.proofs.walking.+adding_matchers.Given as goal

abbrev pub invariant-add_sets-loop-place : goal.invariant-add_sets-loop-place
invariant-add_sets-loop-place l = l.out ++ elements_left set_modules l.sets l.place l.at ≡ l.initial.out ++ elements_left set_modules l.sets 0 l.at

abbrev pub invariant-add_set-loop-matcher : goal.invariant-add_set-loop-matcher
invariant-add_set-loop-matcher l = l.out ++ flat_map (λ m. matcher_modules m l.at) (drop l.matcher-index l.matcher-items) ≡ l.initial.out ++ flat_map (λ m. matcher_modules m l.at) l.matcher-items
