use Rattle.std.proofs.Common.{◌≡◌, drop}
use Rattle.std.specs.List.{find}
use Rattle.cd_standard.specs.Compiled.{has_address}
use Rattle.cd_standard.proofs.acting.first_with.Given as goal

abbrev pub invariant-loop-place : goal.invariant-loop-place
invariant-loop-place l = find (has_address l.at) (drop l.place l.servers) ≡ find (has_address l.at) l.servers
