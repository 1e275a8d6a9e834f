use Rattle.std.proofs.Common.{◌≡◌, drop}
use Rattle.cd_parts.specs.Matching.{set_in}
use Rattle.cd_parts.proofs.matchers.set_named.Given as goal

abbrev pub invariant-loop-one : goal.invariant-loop-one
invariant-loop-one l = set_in l.table.none l.site l.name (drop l.one-index l.table.sets) ≡ set_in l.table.none l.site l.name l.table.sets
