use Rattle.std.proofs.Common.{◌≡◌, drop}
use Rattle.cd_desk.specs.Serials.{row_of}
use Rattle.cd_desk.proofs.retiring.are_stopped.Given as goal

abbrev pub invariant-loop-row : goal.invariant-loop-row
invariant-loop-row l = row_of l.serial l.rows ≡ row_of l.serial (drop l.row-index l.rows)
