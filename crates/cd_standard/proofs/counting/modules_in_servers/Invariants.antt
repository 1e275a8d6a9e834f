use Rattle.std.proofs.Common.{◌≡◌, ◌+◌, ◌≤◌, ◌-◌, ◌^◌, length, drop}
use Rattle.std.specs.Prelude.{min}
use Rattle.std.specs.List.{flat_map}
use Rattle.cd_tree.specs.declared.path.Path.{Path}
use Rattle.cd_standard.specs.Plans.{server_modules}
use Rattle.cd_standard.proofs.counting.modules_in_servers.Given as goal

abbrev pub invariant-loop-server : goal.invariant-loop-server
invariant-loop-server l =
    ((at : Path) → min (l.found + length (flat_map (server_modules at) (drop l.server-index l.servers))) (2 ^ 64 - 1) ≡ min (length (flat_map (server_modules at) l.servers)) (2 ^ 64 - 1)) × (l.found ≤ 2 ^ 64 - 1)
