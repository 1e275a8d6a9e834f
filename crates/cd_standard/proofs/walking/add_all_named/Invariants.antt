use Rattle.std.proofs.Common.{◌≡◌, ◌++◌, drop}
use Rattle.std.specs.List.{flat_map}
use Rattle.cd_standard.specs.Plans.{named_modules}
use Rattle.cd_standard.proofs.walking.add_all_named.Given as goal

abbrev pub invariant-loop-one : goal.invariant-loop-one
invariant-loop-one l = l.out ++ flat_map (named_modules l.at) (drop l.one-index l.named) ≡ l.initial.out ++ flat_map (named_modules l.at) l.named
