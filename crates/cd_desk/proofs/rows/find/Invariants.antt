use Rattle.std.proofs.Common.{◌≡◌, drop}
use Rattle.cd_desk.specs.Rows.{row_with}
use Rattle.cd_desk.proofs.rows.find.Given as goal

abbrev pub invariant-loop-place : goal.invariant-loop-place
invariant-loop-place l = row_with l.draft l.rows ≡ row_with l.draft (drop l.place l.rows)
