use Rattle.std.proofs.Common.{◌≡◌, ◌+◌, ◌≤◌, ◌-◌, ◌^◌, length, drop}
use Rattle.std.specs.Prelude.{min}
use Rattle.std.specs.List.{flat_map}
use Rattle.cd_tree.specs.declared.path.Path.{Path}
use Rattle.cd_standard.specs.Plans.{app_modules}
use Rattle.cd_standard.proofs.counting.modules_in_apps.Given as goal

abbrev pub invariant-loop-app : goal.invariant-loop-app
invariant-loop-app l =
    ((at : Path) → min (l.found + length (flat_map (app_modules at) (drop l.app-index l.apps))) (2 ^ 64 - 1) ≡ min (length (flat_map (app_modules at) l.apps)) (2 ^ 64 - 1)) × (l.found ≤ 2 ^ 64 - 1)
