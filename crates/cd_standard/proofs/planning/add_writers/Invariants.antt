use Rattle.std.proofs.Common.{◌≡◌, ◌++◌, map, drop}
use Rattle.cd_standard.specs.Plans.{writer_module}
use Rattle.cd_standard.proofs.planning.add_writers.Given as goal

abbrev pub invariant-loop-log : goal.invariant-loop-log
invariant-loop-log l = l.out ++ map (writer_module l.at) (drop l.log-index l.logs) ≡ l.initial.out ++ map (writer_module l.at) l.logs
