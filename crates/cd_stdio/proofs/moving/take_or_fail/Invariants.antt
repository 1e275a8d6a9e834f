use Rattle.std.proofs.Common.{[]}
use Rattle.std.specs.Io.KnownBytes.{Consumes}
use Rattle.cd_stdio.proofs.moving.take_or_fail.Given as goal

-- what was interrupted took nothing
abbrev pub invariant-loop : goal.invariant-loop
invariant-loop g l = Consumes (g.R.Read.remaining l.initial.reader) (g.R.Read.remaining l.reader) []
