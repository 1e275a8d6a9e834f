use Rattle.std.proofs.Common.{◌≡◌, ◌++◌, drop}
use Rattle.cd_routes.specs.NameList.{leads_by}
use Rattle.cd_routes.proofs.leading.leads_by.Given as goal

abbrev pub invariant-loop-one : goal.invariant-loop-one
invariant-loop-one l = l.out ++ leads_by l.names (drop l.one-index l.named) ≡ leads_by l.names l.named
