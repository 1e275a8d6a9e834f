use Rattle.std.proofs.Common.{◌≡◌, ◌++◌, drop}
use Rattle.cd_routes.specs.Invoking.{route_names}
use Rattle.cd_routes.proofs.named.names_of.Given as goal

abbrev pub invariant-loop-one : goal.invariant-loop-one
invariant-loop-one l = l.names ++ route_names (drop l.one-index l.named) ≡ route_names l.named
