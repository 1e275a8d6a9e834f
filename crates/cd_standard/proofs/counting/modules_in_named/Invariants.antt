use Rattle.std.proofs.Common.{◌≡◌, ◌+◌, ◌≤◌, ◌-◌, ◌^◌, length, drop}
use Rattle.std.specs.Prelude.{min}
use Rattle.std.specs.List.{flat_map}
use Rattle.cd_tree.specs.declared.path.Path.{Path}
use Rattle.cd_standard.specs.Plans.{named_modules}
use Rattle.cd_standard.proofs.counting.modules_in_named.Given as goal

abbrev pub invariant-loop-one : goal.invariant-loop-one
invariant-loop-one l =
    ((at : Path) → min (l.found + length (flat_map (named_modules at) (drop l.one-index l.named))) (2 ^ 64 - 1) ≡ min (length (flat_map (named_modules at) l.named)) (2 ^ 64 - 1)) × (l.found ≤ 2 ^ 64 - 1)
