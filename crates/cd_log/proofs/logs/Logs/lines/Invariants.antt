use Rattle.std.proofs.Common.{◌≡◌, ◌++◌, drop}
use Rattle.std.specs.List.{flat_map}
use Rattle.cd_log.specs.Lines.{lines_of}
use Rattle.cd_log.proofs.logs.Logs.lines.Given as goal

abbrev pub invariant-loop-log : goal.invariant-loop-log
invariant-loop-log l = l.lines ++ flat_map (lines_of l.server l.request l.answer) (drop l.log-index l.log-items) ≡ flat_map (lines_of l.server l.request l.answer) l.log-items
