use Rattle.std.proofs.Common.{◌≡◌, drop}
use Rattle.cd_desk.specs.Serials.{row_of}
use Rattle.cd_desk.proofs.serials.place_with.Given as goal

abbrev pub invariant-loop-place : goal.invariant-loop-place
invariant-loop-place l = row_of l.serial l.rows ≡ row_of l.serial (drop l.place l.rows)
